use Rattle.routes.proofs.Prelude.{lit<, Some, None, ◌∙◌, [], parts}
use Rattle.std.proofs.lemmas.Str.Pattern.{split_once_first}
use Rattle.routes.proofs.Pieces.{some_parts, one_part, at_front, further}
use Rattle.routes.proofs.target.+part_at.Goals as goal

pub returns-then-place-eq0 : goal.returns-then-place-eq0
returns-then-place-eq0 t c =
    at_front c.args.path.now c.args.path.now [] c.args.place (one_part c.args.path.now (split_once_first 47 c.args.path.now None c.in-None.ensures.cases (lit< tt))) c.if-place-eq0.true

pub returns-else-place-eq0 : goal.returns-else-place-eq0
returns-else-place-eq0 t c =
    further c.args.path.now c.args.path.now [] c.args.place (one_part c.args.path.now (split_once_first 47 c.args.path.now None c.in-None.ensures.cases (lit< tt))) c.if-place-eq0.false

pub returns-then-place-eq0-2 : goal.returns-then-place-eq0-2
returns-then-place-eq0-2 t c =
    let cut = split_once_first 47 c.args.path.now (Some (c.in-Some.part, c.in-Some.rest)) c.in-Some.ensures.cases (lit< tt) in
    at_front c.args.path.now c.in-Some.part.now (parts c.in-Some.rest.now) c.args.place (some_parts c.args.path.now c.in-Some.part.now c.in-Some.rest.now cut) c.if-place-eq0-2.true

pub returns-else-place-eq0-2 : goal.returns-else-place-eq0-2
returns-else-place-eq0-2 t c =
    let cut = split_once_first 47 c.args.path.now (Some (c.in-Some.part, c.in-Some.rest)) c.in-Some.ensures.cases (lit< tt) in
    c.part_at.ensures ∙ further c.args.path.now c.in-Some.part.now (parts c.in-Some.rest.now) c.args.place (some_parts c.args.path.now c.in-Some.part.now c.in-Some.rest.now cut) c.if-place-eq0-2.false
