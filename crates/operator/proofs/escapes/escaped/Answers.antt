use Rattle.operator.proofs.Prelude.{rules, ◌≡◌, true, false, [], ◌∷◌, ◌++◌, escape, escaped, is_control}
use Rattle.std.proofs.lemmas.List.{nil_from_length}
use Rattle.operator.proofs.Escaping.{escaped_control, escaped_other, escaped_last, escaped_step, escaped_end}
use Rattle.operator.proofs.escapes.escaped.Goals as goal
use Rattle.operator.proofs.escapes.escaped.Goals.{in_default-split_first-via-in-Some-split_first+else-is_control, in_default-split_first-via-in_default-split_first}

pub bytes-preserved-in_ok-push_escape-in-Some-split_first :
    goal.bytes-preserved-in_ok-push_escape-in-Some-split_first
bytes-preserved-in_ok-push_escape-in-Some-split_first c =
    let byte = c.in-Some.byte.now in
    let next = c.in-Some-split_first.next.now in
    let after = c.in-Some-split_first.after.now in
    let rest : c.bytes.rest.now ≡ byte ∷ c.in-Some.tail.now = search rules in
    let tail : c.in-Some.tail.now ≡ next ∷ after = search rules in
    let control : is_control byte next ≡ true = search rules in
    let first : escaped c.bytes.rest.now ≡ escape next ++ escaped after = rw rest (rw tail (escaped_control byte next after control)) in
    escaped_step c.args.text.now c.bytes.rest.now after c.bytes.bytes.items (escape next) c.push_escape.new.bytes.items
    c.bytes.invariant first c.in_ok-push_escape-in-Some-split_first.ensures

pub bytes-preserved : goal.bytes-preserved
bytes-preserved c =
    let byte = c.in-Some.byte.now in
    let rest : c.bytes.rest.now ≡ byte ∷ c.in-Some.tail.now = search rules in
    let made : c.push.new.self.items ≡ c.bytes.bytes.items ++ byte ∷ [] = search rules in
    let first : escaped c.bytes.rest.now ≡ byte ∷ escaped c.in-Some.tail.now =
    elim c.in_default-split_first.branch [
      | in_default-split_first-via-in-Some-split_first+else-is_control w ↦
          let next = w.in-Some-split_first.next.now in
          let after = w.in-Some-split_first.after.now in
          let tail : c.in-Some.tail.now ≡ next ∷ after = search rules in
          let other : is_control byte next ≡ false = search rules in
          rw rest (rw tail (escaped_other byte next after other))
      | in_default-split_first-via-in_default-split_first w ↦
          let tail : c.in-Some.tail.now ≡ [] = nil_from_length c.in-Some.tail.now w.in_default-split_first.ensures.cases in
          rw rest (rw tail (escaped_last byte))
    ] in
    escaped_step c.args.text.now c.bytes.rest.now c.in-Some.tail.now c.bytes.bytes.items (byte ∷ []) c.push.new.self.items
    c.bytes.invariant first made

pub returns : goal.returns
returns c =
    escaped_end c.args.text.now c.bytes.rest.now c.bytes.bytes.items c.bytes.invariant (nil_from_length c.bytes.rest.now c.in_default.ensures.cases)
