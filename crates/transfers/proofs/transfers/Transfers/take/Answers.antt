use Rattle.std.proofs.Common.{◌≡◌, ◌≢◌, ◌<◌, ◌∙◌, List, All, HoldsAt, Some, length, refl, sym, ap, subst}
use Rattle.transfers.specs.declared.transfers.Transfer.{Transfer}
use Rattle.transfers.proofs.Owing.{none_owed, taken_out}
use Rattle.transfers.proofs.transfers.Transfers.take.Goals as goal

pub returns-in_default-index_of-clause-err : goal.returns-in_default-index_of-clause-err
returns-in_default-index_of-clause-err c =
    let none = subst (λ (l : List Transfer). All (λ (t : Transfer). t.number ≢ c.in-Some.number) l) c.as_slice.ensures.value c.in_default-index_of.ensures.none in
    (refl, rw c.in-Some.is (none_owed c.args.self.now.list.items c.in-Some.number none), refl)

pub returns-clause-ok : goal.returns-clause-ok
returns-clause-ok c =
    let index = c.in-Some-index_of.index in
    let due = c.remove-transfer.result in
    let found = subst (λ (l : List Transfer). (index < length l) × HoldsAt (λ (t : Transfer). t.number ≡ c.in-Some.number) l index) c.as_slice.ensures.value c.in-Some-index_of.ensures.some in
    let number = ap (λ (t : Transfer). t.number) c.remove-transfer.ensures.value ∙ found.1 due in
    (refl, c.in-Some.is ∙ ap Some (sym number), rw c.remove-transfer.ensures.items (taken_out c.args.self.now.list.items index due found.0 c.remove-transfer.ensures.value))
