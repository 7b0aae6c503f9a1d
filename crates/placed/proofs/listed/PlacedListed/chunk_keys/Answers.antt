use Rattle.std.proofs.Common.{rules, ◌++◌, ◌∙◌, ap, ap₂, map}
use Rattle.std.proofs.lemmas.Fn.{filter_same}
use Rattle.std.specs.List.{flat_map}
use Rattle.tables.specs.Listing.{read_key}
use Rattle.tables.specs.Staging.{read_numbered}
use Rattle.placed.specs.Keys.{keys_at, received_keys}
use Rattle.placed.proofs.ListedKeys.{has_piece_key, keys_listed}
use Rattle.placed.proofs.listed.PlacedListed.chunk_keys.Goals as goal

pub returns : goal.returns
returns g c =
    keys_listed g.T.State g.D.Disk c.args.self.now c.chunk_keys.new.self c.chunks_numbered.new.self c.in_ok-keys.keys c.in_ok-places.places
    c.push_received.new.keys c.retain.new.self.items c.in_ok-keys.ensures c.in_ok-places.ensures
    (filter_same _ has_piece_key _ (λ x b f k. search rules) _ _ c.retain.ensures.filtered)
    (c.in_ok-push_received.ensures
    ∙ ap₂ (λ l m. l ++ flat_map received_keys m)
    (c.in_ok-push_places.ensures ∙ ap (λ m. map read_key c.retain.new.self.items ++ flat_map keys_at (map read_numbered m)) c.deref.ensures.value)
    c.deref-2.ensures.value)
