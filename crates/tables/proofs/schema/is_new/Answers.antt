use Rattle.tables.proofs.Prelude.{◌≡◌, false, name_of, is_parent, sym, subst, Part, repos, tokens, uploads, chunks, locks, HasNone}
use Rattle.typed_rows.specs.Queries.{IsFree}
use Rattle.tables.specs.Rows.{meta, retired}
use Rattle.tables.proofs.Stages.{none_by}
use Rattle.tables.proofs.schema.is_new.Goals as goal

pub returns : goal.returns
returns g c =
    let it = c.has_none.ensures in (
      λ is. none_by c.schema.result.now c.args.conn.now.schema c.schema.ensures.value (it.meta is) (it.repos is) (it.tokens is) (it.uploads is) (it.chunks is) (it.locks is) (it.retired is) (it.unreferred is),
      λ none.
          let here = subst HasNone (sym c.schema.ensures.value) none in
          let lack : (p : Part) → IsFree c.schema.result.now (name_of p) × (is_parent c.schema.result.now (name_of p) ≡ false) = λ p. ((here.parts p).free, (here.parts p).unreferred) in
          it.complete (lack meta) (lack repos) (lack tokens) (lack uploads) (lack chunks) (lack locks) (lack retired) here.unreferred,
    )
