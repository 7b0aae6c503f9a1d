use Rattle.tables.proofs.Prelude.{refl, rules, w64, to_z-of_z, upload_number, asked_chunk, add_chunk}
use Rattle.tables.specs.Statements.{writing}
use Rattle.tables.proofs.chunks.chunk_into.Goals as goal

pub returns-clause-does : goal.returns-clause-does
unfolding writing
returns-clause-does g c = record {
  within = c.change.ensures.within;
  ok = c.change.ensures.ok (add_chunk (asked_chunk (upload_number c.args.upload) c.args.n c.args.bytes.now)) refl
      (rw (c.params-to_sql.ensures, c.params-to_sql-2.ensures, c.params-to_sql-3.ensures, to_z-of_z w64 c.args.upload.number (search rules)));
}
