-- Calls of a machine, joined; for proofs in other crates too.
use Rattle.std.proofs.Common.{◌≡◌, List, [], ◌∷◌, ◌++◌, refl, ap, subst}
use Rattle.machine.specs.declared.machine.Machine as machine
use Rattle.machine.specs.Calls.{Call, Calls, idles, observes, seen_in}
use Rattle.machine.specs.Observations.{Observation}

pub seen_append : (xs ys : List Call) → seen_in (xs ++ ys) ≡ seen_in xs ++ seen_in ys
seen_append [] ys = refl
seen_append (idles ∷ xs) ys = seen_append xs ys
seen_append (observes seen ∷ xs) ys = ap (λ (l : List Observation). seen ∷ l) (seen_append xs ys)

module _ {M : Type 0} (m : machine.Ghosts M) where
  pub calls_append : (u v w : M) (xs ys : List Call) → Calls m u xs v → Calls m v ys w → Calls m u (xs ++ ys) w
  calls_append u v w [] ys p q = subst (λ (x : M). Calls m x ys w) p q
  calls_append u v w (idles ∷ xs) ys p q = (p.0, p.1, calls_append p.0 v w xs ys p.2 q)
  calls_append u v w (observes seen ∷ xs) ys p q = (p.0, p.1, calls_append p.0 v w xs ys p.2 q)

  pub one_idle : (u v : M) → m.idled u v → Calls m u (idles ∷ []) v
  one_idle u v i = (v, i, refl)

  pub one_seen : (u v : M) (seen : Observation) → m.observed u v seen → Calls m u (observes seen ∷ []) v
  one_seen u v seen h = (v, h, refl)
