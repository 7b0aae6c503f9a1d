use Rattle.service.proofs.Prelude.{refl, take, reply_of, store_refusal, refusal_text}
use Rattle.service.proofs.Serving.{is_part}
use Rattle.service.proofs.session.refuse_all.Goals as goal

pub returns-in-Ok-clause-refusal : goal.returns-in-Ok-clause-refusal
returns-in-Ok-clause-refusal g c = record {
  written = refusal_text;
  writes = λ setting. (refl, refl);
  refused = λ e. cc;
  taken = c.in-Ok.ensures.ok (reply_of store_refusal) c.store_refused.ensures.shows;
}

pub returns-clause-refusal : goal.returns-clause-refusal
returns-clause-refusal g c =
    let began = c.in-Err.ensures.part (reply_of store_refusal) c.store_refused.ensures.shows in
    record {
      written = take c.in-Err.field-0.written refusal_text;
      writes = λ setting. (is_part refusal_text c.in-Err.field-0.written began.less, refl);
      refused = λ e. cc;
      taken = began.taken;
    }
