use Rattle.std.proofs.Common.{◌≢◌, List, All, subst}
use Rattle.transfers.specs.declared.transfers.Transfer.{Transfer}
use Rattle.transfers.proofs.Owing.{kept_or_not, none_owed}
use Rattle.transfers.proofs.transfers.Transfers.keep.Goals as goal

pub returns-in-None : goal.returns-in-None
returns-in-None c =
    let t = c.args.transfer in
    let list = c.args.self.now.list.items in
    let none = subst (λ (l : List Transfer). All (λ (it : Transfer). it.number ≢ t.number) l) c.as_slice.ensures.value c.in-None.ensures.none in
    rw c.is_ok.ensures.value (kept_or_not list c.push.new.self.items t _ c.push.ensures.items (none_owed list t.number none))
