-- The keys of the first pieces were added.
use Rattle.std.proofs.Common.{◌≡◌, ◌++◌, map}
use Rattle.std.specs.List.{range_with_len}
use Rattle.tables.specs.Listing.{read_key}
use Rattle.tables.specs.Staging.{upload_number}
use Rattle.placed.specs.Keys.{key_of}
use Rattle.placed.proofs.listed.push_pieces.Given as goal

abbrev pub invariant-loop-n : goal.invariant-loop-n
invariant-loop-n l =
    map read_key l.keys.items ≡ map read_key l.fn.keys.items ++ map (key_of (upload_number l.upload)) (range_with_len 0 l.n)
