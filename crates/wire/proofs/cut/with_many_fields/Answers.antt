use Rattle.wire.proofs.Prelude.{subst, ap, lit≤, List, ℕ, Err, NeverHasRequest, RequestExceeds}
use Rattle.wire.proofs.Fronts.{bad_for_err, bad_of_many}
use Rattle.wire.proofs.cut.with_many_fields.Goals as goal

pub returns-in-Ok-Complete : goal.returns-in-Ok-Complete
returns-in-Ok-Complete c =
    let x = rw c.in-Ok-Complete.field-0-is at c.in-Ok-Complete.ensures.complete in
    λ fields. bad_of_many c.args.bytes.now c.front_of.result.now x.0 _ c.front_of.ensures c.requires x.1.reads

pub returns-in-Err : goal.returns-in-Err
returns-in-Err c = λ fields.
    bad_for_err c.args.bytes.now 5461 c.in-Err.field-0 (lit≤ tt)
    (λ other. subst NeverHasRequest c.front_of.ensures (c.in-Err.ensures.invalid other))
    (λ many. subst (λ (b : List ℕ). RequestExceeds 5461 b) c.front_of.ensures (c.in-Err.ensures.too_many (ap Err many)))
