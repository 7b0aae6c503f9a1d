use Rattle.tokens.proofs.Prelude.{◌≡◌, ◌∙◌, ℕ, List, Ok, sym, subst, Bool, token_verdict, token_asked, token_until}
use Rattle.store.proofs.Moved.{moves_none}
use Rattle.refinement.proofs.Leading.{leads_none, reads_lead}
use Rattle.tokens.specs.Issuing.{Keeps}
use Rattle.tokens.specs.declared.issuing.TokenFault.TheVariants as fault
use Rattle.tokens.proofs.Kept.{issues_by, refuses_by, fails_by, refused_early}
use Rattle.tokens.proofs.issuing.issue.Goals as goal

pub returns-in-Ok-true : goal.returns-in-Ok-true
returns-in-Ok-true g c = record {
  honest = λ k. c.in_ok-expires.ensures.same.was_honest (c.in-Ok-true.ensures.honest k);
  each = λ honest world h.
      let lead = reads_lead g.S.State c.args.store.now c.judge.new.store _ world c.in_ok-expires.ensures h in
      let kept = subst (λ (b : Bool). Keeps g.S.State world c.args.asked.now c.as_str-2.result.now c.in_ok-expires.expires c.judge.new.store c.keep.new.store (Ok b)) c.in-Ok-true.field-0-test (c.in-Ok-true.ensures.each honest world lead.holds) in
      let verdict = subst (λ (t : List ℕ). token_verdict world (token_asked c.args.asked.now) ≡ Ok (token_until c.args.asked.now t c.in_ok-expires.expires)) (c.as_str.ensures.value ∙ sym c.as_str-2.ensures.value)
      (c.in_ok-expires.ensures.each (c.in-Ok-true.ensures.honest honest) world h (c.as_str.ensures.value ∙ c.in_ok-text.ensures.text)) in
      issues_by world c.args.asked.now g.S.State c.args.store.now c.judge.new.store c.keep.new.store _ c.as_str-2.result.now c.in_ok-expires.expires (c.as_str-2.ensures.value ∙ c.in_ok-text.ensures.text) c.in_ok-text.ensures.text c.in_ok-text.ensures.digits
      verdict lead kept;
}

pub returns-in-Ok-false : goal.returns-in-Ok-false
returns-in-Ok-false g c = record {
  honest = λ k. c.in_ok-expires.ensures.same.was_honest (c.in-Ok-false.ensures.honest k);
  each = λ honest world h.
      let lead = reads_lead g.S.State c.args.store.now c.judge.new.store _ world c.in_ok-expires.ensures h in
      let kept = subst (λ (b : Bool). Keeps g.S.State world c.args.asked.now c.as_str-2.result.now c.in_ok-expires.expires c.judge.new.store c.keep.new.store (Ok b)) c.in-Ok-false.field-0-test (c.in-Ok-false.ensures.each honest world lead.holds) in
      refuses_by world c.args.asked.now g.S.State c.args.store.now c.judge.new.store c.keep.new.store c.as_str-2.result.now c.in_ok-expires.expires c.in_ok-text.ensures.digits (c.as_str-2.ensures.value ∙ c.in_ok-text.ensures.text) lead c.in_ok-expires.ensures.same kept;
}

pub returns-in-Err : goal.returns-in-Err
returns-in-Err g c = record {
  honest = λ k. c.in_ok-expires.ensures.same.was_honest (c.in-Err.ensures.honest k);
  each = λ honest world h.
      let lead = reads_lead g.S.State c.args.store.now c.judge.new.store _ world c.in_ok-expires.ensures h in
      let verdict = subst (λ (t : List ℕ). token_verdict world (token_asked c.args.asked.now) ≡ Ok (token_until c.args.asked.now t c.in_ok-expires.expires)) (c.as_str.ensures.value ∙ sym c.as_str-2.ensures.value)
      (c.in_ok-expires.ensures.each (c.in-Err.ensures.honest honest) world h (c.as_str.ensures.value ∙ c.in_ok-text.ensures.text)) in
      fails_by world c.args.asked.now g.S.State c.args.store.now c.judge.new.store c.keep.new.store c.as_str-2.result.now c.in_ok-expires.expires c.in-Err.fault (c.as_str-2.ensures.value ∙ c.in_ok-text.ensures.text) c.in_ok-text.ensures.digits
      verdict lead c.in_ok-expires.ensures.same (c.in-Err.ensures.each honest world lead.holds);
}

pub returns-in_err-text : goal.returns-in_err-text
returns-in_err-text g c = record {
  honest = λ k. k;
  each = λ honest world h.
      refused_early world c.args.asked.now g.S.State c.args.store.now c.args.store.now _ c.from_residual.result (fault.Store c.in_err-text.field-0.0) c.from_residual.ensures.1 c.in_err-text.ensures.digits tt
      (leads_none g.S.State c.args.store.now world h) (moves_none g.S.State c.args.store.now);
}

pub returns-in_err-expires : goal.returns-in_err-expires
returns-in_err-expires g c = record {
  honest = λ k. c.in_err-expires.ensures.same.was_honest k;
  each = λ honest world h.
      refused_early world c.args.asked.now g.S.State c.args.store.now c.judge.new.store _ c.from_residual-in_err-expires.result c.in_err-expires.field-0.0 c.from_residual-in_err-expires.ensures.1 c.in_ok-text.ensures.digits
      (c.in_err-expires.ensures.each honest world h (c.as_str.ensures.value ∙ c.in_ok-text.ensures.text)) (reads_lead g.S.State c.args.store.now c.judge.new.store _ world c.in_err-expires.ensures h) c.in_err-expires.ensures.same;
}
