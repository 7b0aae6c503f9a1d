-- The keys at the places that were gone through were added.
use Rattle.std.proofs.Common.{◌≡◌, ◌++◌, map, take}
use Rattle.std.specs.List.{flat_map}
use Rattle.tables.specs.Listing.{read_key}
use Rattle.tables.specs.Staging.{read_numbered}
use Rattle.placed.specs.Keys.{keys_at}
use Rattle.placed.proofs.listed.push_places.Given as goal

abbrev pub invariant-loop-place : goal.invariant-loop-place
invariant-loop-place l =
    map read_key l.keys.items ≡ map read_key l.fn.keys.items ++ flat_map keys_at (map read_numbered (take l.place-index l.places))
