use Rattle.forms.proofs.Prelude.{◌∙◌, IfOk-weaker, LockTexts}
use Rattle.model.proofs.Moments.{moment_is_text}
use Rattle.forms.proofs.Texts.{AreTextsOf, lock_is}
use Rattle.forms.proofs.shown_lock.lock_value.Goals as goal

pub returns : goal.returns
returns c =
    let t : LockTexts = record { id = c.as_str.result; locked_at = c.as_str-2.result; owner = c.as_str-3.result; path = c.as_str-4.result } in
    let are : AreTextsOf t c.args.lock.now = record {
      id = c.as_str.ensures.value ∙ c.in_ok-id.ensures.ok;
      at = c.as_str-2.ensures.value ∙ moment_is_text _ _ c.in_ok-locked_at.ensures;
      owner = c.as_str-3.ensures.value;
      path = c.as_str-4.ensures.value;
    } in
    IfOk-weaker c.value_of_texts.result _ _ (λ value is. is ∙ lock_is t c.args.lock.now are) c.value_of_texts.ensures
