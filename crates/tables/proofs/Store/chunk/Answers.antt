use Rattle.tables.proofs.Prelude.{pos, filter, option_map, refl, ap, w64, ◌∙◌, rules, to_z-of_z, slice_get-filter, Chunk, chunk_at, is_chunk, shown}
use Rattle.tables.specs.Statements.{reading}
use Rattle.tables.proofs.Stores.{looks_reads}
use Rattle.tables.proofs.Store.chunk.Goals as goal

pub returns : goal.returns
unfolding reading
returns g c =
    let passes = is_chunk c.args.upload.number (pos c.args.n) in
    let chunks = (shown g.S.Store c.args.self.now).chunks in
    looks_reads g.S.Store _ _ _ _ _ _ c.in_ok-rows.ensures
    (λ clean ready.
    let it = c.in_ok-rows.ensures.answers clean ready in (
      it.0,
      c.first_chunk.ensures (filter passes chunks) (it.1 (chunk_at c.args.upload.number c.args.n) refl (rw (c.params-to_sql.ensures, c.params-to_sql-2.ensures, to_z-of_z w64 c.args.upload.number (search rules))))
          ∙ ap (option_map (λ (k : Chunk). k.bytes)) (slice_get-filter passes chunks),
    ))
