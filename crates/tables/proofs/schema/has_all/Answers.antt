use Rattle.tables.proofs.Prelude.{◌≡◌, true, refl, sym, ap, subst, Tables, HasAll, Part, repos, tokens, uploads, chunks, locks}
use Rattle.sqlite_trees.specs.View.{doubt}
use Rattle.tables.specs.Layout.{version_of}
use Rattle.tables.specs.Rows.{meta, retired}
use Rattle.tables.specs.Runs.{with_fresh}
use Rattle.tables.specs.Schemas.{IsShared}
use Rattle.tables.proofs.Numbers.{all_with_number}
use Rattle.tables.proofs.Growing.{counts_there, counts_named, shared_by, some_by, share}
use Rattle.tables.proofs.Opened.{all_by, is_of_layout}
use Rattle.tables.proofs.Stages.{none_of_none}
use Rattle.tables.proofs.schema.has_all.Goals as goal

-- the disk of a memory store is always clean
clean : doubt true ≡ 0
unfolding doubt
clean = refl

pub returns-then-not-has_part : goal.returns-then-not-has_part
unfolding with_fresh
returns-then-not-has_part c =
    let made = c.in_ok-create.ensures.ok clean (λ _. none_of_none _ c.in-Ok.ensures.empty.2) in
    let v = version_of c.args.layout in
    let ours : HasAll v c.schema-ours.result.now = subst (HasAll v) (sym c.schema-ours.ensures.value) (all_with_number c.args.layout _ made.1.kept (ap (λ (t : Tables). t.meta) made.1.tables)) in (
      λ is. absurd (cc),
      λ all. let it = (c.has_part.ensures retired refl (some_by v c.schema-ours.result.now retired (ours.parts.made retired (is_of_layout c.args.layout retired)))).1 (shared_by v c.args.schema.now c.schema-ours.result.now retired (all.parts.made retired (is_of_layout c.args.layout retired)) (ours.parts.made retired (is_of_layout c.args.layout retired))) in absurd (let no = c.if-not-has_part.true in cc),
    )

pub returns : goal.returns
unfolding with_fresh
returns c =
    let made = c.in_ok-create.ensures.ok clean (λ _. none_of_none _ c.in-Ok.ensures.empty.2) in
    let v = version_of c.args.layout in
    let ours : HasAll v c.schema-ours.result.now = subst (HasAll v) (sym c.schema-ours.ensures.value) (all_with_number c.args.layout _ made.1.kept (ap (λ (t : Tables). t.meta) made.1.tables)) in
    let it = c.has_six.ensures in
    let schema = c.args.schema.now in
    let other = c.schema-ours.result.now in
    let own = λ (p : Part). ours.parts.made p (is_of_layout c.args.layout p) in
    let some = λ (p : Part). some_by v other p (own p) in
    let last = (c.has_part.ensures retired refl (some retired)).0 (let yes = c.if-not-has_part.false in search) in (
      λ is.
          let part = λ (p : Part) (shared : IsShared schema other p). share schema other p shared v (own p) in
          all_by c.args.layout schema (part meta (it.meta (some meta) is)) (part repos (it.repos (some repos) is)) (part tokens (it.tokens (some tokens) is)) (part uploads (it.uploads (some uploads) is)) (part chunks (it.chunks (some chunks) is)) (part locks (it.locks (some locks) is))
          (part retired last) (counts_there schema (it.counted is) (it.unreferred is)),
      λ all.
          let shared = λ (p : Part). shared_by v schema other p (all.parts.made p (is_of_layout c.args.layout p)) (own p) in
          it.complete (some meta) (shared meta) (some repos) (shared repos) (some tokens) (shared tokens) (some uploads) (shared uploads) (some chunks) (shared chunks) (some locks) (shared locks)
          (counts_named schema all.counts) all.counts.unreferred,
    )
