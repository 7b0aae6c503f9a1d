-- Answers that change nothing.
use Rattle.desk.proofs.Prelude.{◌≡◌, Bool, true, false, cond, Some, Err, refl, World, Answer, Denial, is_changed, is_store_refusal, failed, unchanged, answer_ending}
use Rattle.model.specs.Steps.{after}

-- the answer changes no world
pub record IsQuiet (given : Answer) : Type 0 where
  pub ending : (world : World) → is_changed (answer_ending world (Some given)) ≡ false
  pub after : (world : World) → after world (Some given) ≡ world

pub denial_is_quiet : (denial : Denial) → IsQuiet (Err denial)
denial_is_quiet denial = record { ending = λ world. at (is_store_refusal (Err denial)); after = λ world. refl }
  where
    at : (v : Bool) → is_changed (cond v failed unchanged) ≡ false
    at true = refl
    at false = refl
