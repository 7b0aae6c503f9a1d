use Rattle.policy.proofs.Prelude.{sym, subst, arith, List, Option, String, Global, texts, map, numbered_view}
use Rattle.std.specs.Prelude.{slice_get}
use Rattle.std.proofs.Common.{below_more}
use Rattle.policy.specs.Applicable.{NumberedRow}
use Rattle.policy.specs.Index.{buckets_view, paths_of, AreIndexed}
use Rattle.policy.proofs.Indexed.{still_some, indexed_still, row_here, index_whole}
use Rattle.policy.proofs.path_index.buckets_for.Goals as goal

pub loop-position-preserved : goal.loop-position-preserved
loop-position-preserved c =
    let old = buckets_view c.loop-position.buckets.items in
    let new = buckets_view c.add_all.new.buckets.items in
    let rows = c.args.rows.now in
    let seen = map numbered_view rows in
    let i = c.loop-position.position in
    let row = c.index-rows-position in
    let (some, indexed) = c.loop-position.invariant in
    let more = c.in_ok-add_all.ensures.grown in
    let added = subst (λ (t : List (String Global)). AreIndexed new i (texts t)) c.deref.ensures.value c.in_ok-add_all.ensures.added in (
      still_some c.loop-position.buckets c.add_all.new.buckets more some,
      below_more (λ n. AreIndexed new n (paths_of (slice_get seen n))) i
          (λ n below. indexed_still old new n (paths_of (slice_get seen n)) more (indexed n below))
          (subst (λ (r : Option NumberedRow). AreIndexed new i (paths_of r)) (sym (row_here rows i row.result c.loop-position-test.true row.is)) added),
    )

pub returns-clause-index : goal.returns-clause-index
returns-clause-index c =
    let buckets = buckets_view c.loop-position.buckets.items in
    index_whole c.args.rows.now buckets c.loop-position.position (omega (arith, c.loop-position-test.false))
    c.loop-position.invariant.1
