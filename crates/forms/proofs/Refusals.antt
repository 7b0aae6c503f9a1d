-- Refusals that are passed on.
use Rattle.forms.proofs.Prelude.{◌≡◌, Result, Ok, Err, refl, sym, subst, IsErrAnd, Rule, ◌>>=◌, IsRefusedBy, Reads}
use Rattle.forms.specs.declared.refusal.Refusal.{Refusal}
use Rattle.forms.specs.declared.refusal.Refusal.TheVariants as refusal

-- a rule that was turned into a refusal
pub by_rule : {Y : Type 0} (e : Refusal) (rule : Rule) (read : Result Y Rule) → e ≡ refusal.Rule rule → read ≡ Err rule → IsRefusedBy e read
by_rule e rule read is given = subst (λ (f : Refusal). IsRefusedBy f read) (sym is) given

-- what refuses the first step refuses the whole
pub at_first : {Y Z : Type 0} (e : Refusal) (first : Result Y Rule) (more : Y → Result Z Rule) → IsRefusedBy e first → IsRefusedBy e (first >>= more)
at_first (refusal.Rule rule) first more is = rw is refl
at_first refusal.Memory first more is = tt

-- a refusal that a `?` returns
pub passed_on : {X Y : Type 0} (view : X → Y) (e : Refusal) (r : Result X Refusal) (read : Result Y Rule) → IsErrAnd r (λ f. f ≡ e) → IsRefusedBy e read → Reads view r read
passed_on view e (Ok x) read is given = absurd is
passed_on view e (Err f) read is given = subst (λ (x : Refusal). IsRefusedBy x read) (sym is) given
