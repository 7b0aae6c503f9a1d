use Rattle.tables.proofs.Prelude.{◌≡◌, Bool, true, false, not, IsTrue, refl, sym, ap, ◌∙◌, is_parent}
use Rattle.tables.specs.Layout.{Version}
use Rattle.tables.specs.Schemas.{HasPart, HasSome, IsShared}
use Rattle.tables.proofs.Growing.{shares_definition, shared_by, referred}
use Rattle.tables.proofs.schema.has_part.Goals as goal

pub returns-then-same_definition : goal.returns-then-same_definition
unfolding HasSome IsShared
returns-then-same_definition c part named some =
    let schema = c.args.schema.now in
    let ours = c.args.ours.now in
    let it = λ (v : Version) (has : HasPart v ours part). shares_definition v schema ours c.args.name.now part named has c.in-Some-Some.at c.in-Some-Some.own c.in-Some-Some-2.table.now c.in-Some-Some-2.wanted.now (sym c.in-Some-Some.ensures) (sym c.in-Some-Some.ensures') (sym c.in-Some-Some-2.ensures.value) (sym c.in-Some-Some-2.ensures'.value) in
    let parent = referred schema c.args.name.now c.as_slice.result.now c.is_referred.result c.is_referred.ensures c.as_slice.ensures in (
      λ h v has. (it v has).0 (c.same_definition.ensures.same c.if-same_definition.true) (sym parent ∙ is_false c.is_referred.result h),
      λ shared. not_true c.is_referred.result (parent ∙ ap (is_parent schema) named ∙ (shared some.0 some.1).unreferred),
    )
  where
    is_false : (b : Bool) → IsTrue (not b) → b ≡ false
    is_false true h = absurd (cc)
    is_false false h = refl

    not_true : (b : Bool) → b ≡ false → IsTrue (not b)
    not_true true h = absurd (cc)
    not_true false h = refl

pub returns-else-same_definition : goal.returns-else-same_definition
unfolding HasSome IsShared
returns-else-same_definition c part named some =
    let it = shares_definition some.0 c.args.schema.now c.args.ours.now c.args.name.now part named some.1 c.in-Some-Some.at c.in-Some-Some.own c.in-Some-Some-2.table.now c.in-Some-Some-2.wanted.now (sym c.in-Some-Some.ensures) (sym c.in-Some-Some.ensures') (sym c.in-Some-Some-2.ensures.value) (sym c.in-Some-Some-2.ensures'.value) in
    (λ h. absurd (let e = h in let f = c.if-same_definition.false in cc), λ shared. c.same_definition.ensures.complete it.2 (it.1 (shared some.0 some.1)))
