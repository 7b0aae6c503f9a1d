use Rattle.std.proofs.Common.{arith, refl, sym, ◌≡◌, ◌∙◌, ap}
use Rattle.std.proofs.lemmas.Bool.{true≢false}
use Rattle.tables.specs.Listing.{read_marked}
use Rattle.compared.proofs.Paired.{maps_from_paired, paired_from_maps, paired_next}
use Rattle.moving.proofs.continuing.are_same_uploads.Goals as goal

pub returns-then-not-is_same_upload : goal.returns-then-not-is_same_upload
returns-then-not-is_same_upload c =
    let first = c.index-first-i.result in
    let second = c.index-second-i.result in (
      λ e. absurd (true≢false (sym e)),
      λ same.
          let here = (paired_from_maps read_marked c.args.first.now c.args.second.now same).each c.loop-i.i first second c.loop-i-test.true in
          let alike = ap read_marked c.index-first-i.is ∙ here ∙ sym (ap read_marked c.index-second-i.is) in
          absurd (true≢false (sym (c.is_same_upload.ensures.1 alike) ∙ c.if-not-is_same_upload.true)),
    )

pub loop-i-init : goal.loop-i-init
loop-i-init c = λ k d e less. absurd (omega (arith, less))

pub loop-i-preserved : goal.loop-i-preserved
loop-i-preserved c =
    paired_next (λ a b. read_marked a ≡ read_marked b) c.args.first.now c.args.second.now c.loop-i.i c.index-first-i.result c.index-second-i.result
    c.loop-i-test.true c.if-first-second.false c.index-first-i.is c.index-second-i.is
    (c.is_same_upload.ensures.0 c.if-not-is_same_upload.false) c.loop-i.invariant

pub returns : goal.returns
returns c =
    let end = c.loop-i-test.false in (
      λ _. maps_from_paired read_marked c.args.first.now c.args.second.now
          (record { lengths = c.if-first-second.false; each = λ i d e less. c.loop-i.invariant i d e (omega (arith, less, end)) }),
      λ _. refl,
    )
