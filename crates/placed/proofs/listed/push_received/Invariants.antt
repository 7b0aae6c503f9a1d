-- The keys of the contents that were gone through were added.
use Rattle.std.proofs.Common.{◌≡◌, ◌++◌, map, take}
use Rattle.std.specs.List.{flat_map}
use Rattle.tables.specs.Listing.{read_key}
use Rattle.placed.specs.Keys.{received_keys}
use Rattle.placed.proofs.listed.push_received.Given as goal

abbrev pub invariant-loop-content : goal.invariant-loop-content
invariant-loop-content l =
    map read_key l.keys.items ≡ map read_key l.fn.keys.items ++ flat_map received_keys (take l.content-index l.staged)
