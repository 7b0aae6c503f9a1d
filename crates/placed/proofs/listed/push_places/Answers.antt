use Rattle.std.proofs.Common.{◌++◌, ◌∙◌, ap, append-nil, map, sym}
use Rattle.tables.specs.Listing.{read_key}
use Rattle.tables.specs.Staging.{upload_number}
use Rattle.placed.specs.Keys.{keys_in}
use Rattle.placed.specs.Places.{region_in}
use Rattle.placed.proofs.ListedKeys.{place_pushed}
use Rattle.placed.proofs.listed.push_places.Goals as goal
use Rattle.placed.proofs.listed.push_places.Goals.{in-Some+in_ok-push_pieces, in_default}

pub loop-place-preserved : goal.loop-place-preserved
loop-place-preserved c =
    let place = c.place-item.result in
    let before = map read_key c.loop-place.keys.items in
    let named = ap region_in (sym c.deref.ensures.value) ∙ sym c.region_in.ensures in
    place_pushed c.args.keys.now.items c.loop-place.keys.items c.match-region_in.keys.items c.args.places.now c.loop-place.place-index place
    c.loop-place-test.true c.place-item.is c.loop-place.invariant
    (elim c.match-region_in.branch [
      | in-Some+in_ok-push_pieces w ↦
          ap (λ v. map read_key v.items) w.keys-is ∙ w.in_ok-push_pieces.ensures
          ∙ sym (ap (λ o. before ++ keys_in (upload_number place.upload) o) (named ∙ w.in-Some.is))
      | in_default w ↦
          ap (λ v. map read_key v.items) w.keys-is ∙ sym (append-nil before)
          ∙ sym (ap (λ o. before ++ keys_in (upload_number place.upload) o) (named ∙ w.in_default.is))
    ])
