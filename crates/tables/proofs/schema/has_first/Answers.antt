use Rattle.tables.proofs.Prelude.{◌≡◌, true, refl, sym, subst, Part, repos, tokens, uploads, chunks, locks, IsBlank}
use Rattle.sqlite_trees.specs.View.{doubt}
use Rattle.tables.specs.Layout.{version_one}
use Rattle.tables.specs.Rows.{meta, retired, is_in, parts_of}
use Rattle.tables.specs.Schemas.{HasParts, IsShared}
use Rattle.tables.proofs.Growing.{counts_there, counts_named, shared_by, some_by, share}
use Rattle.tables.proofs.Opened.{first_by}
use Rattle.tables.proofs.Stages.{none_of_none, lack}
use Rattle.tables.proofs.schema.has_first.Goals as goal

-- the disk of a memory store is always clean
clean : doubt true ≡ 0
unfolding doubt
clean = refl

pub returns-then-not-is_clear : goal.returns-then-not-is_clear
returns-then-not-is_clear c = (
  λ is. absurd (cc),
  λ first. let lacks = first.all.parts.left retired refl in let it = c.is_clear.ensures.1 ((lacks.free, lacks.unreferred), first.index, first.view) in absurd (let no = c.if-not-is_clear.true in cc),
)

pub returns : goal.returns
returns c =
    let schema = c.args.schema.now in
    let other = c.schema.result.now in
    let made : IsBlank (parts_of version_one) _ = c.in_ok-create_first.ensures clean (none_of_none _ c.in-Ok.ensures.empty.2) in
    let ours : HasParts version_one (parts_of version_one) other = subst (HasParts version_one (parts_of version_one)) (sym c.schema.ensures.value) made.parts in
    let some = λ (p : Part) (one : is_in p (parts_of version_one) ≡ true). some_by version_one other p (ours.made p one) in
    let it = c.has_six.ensures in
    let open_way = c.is_clear.ensures.0 (let yes = c.if-not-is_clear.false in search) in (
      λ is.
          let part = λ (p : Part) (one : is_in p (parts_of version_one) ≡ true) (shared : IsShared schema other p). share schema other p shared version_one (ours.made p one) in
          first_by schema (part meta refl (it.meta (some meta refl) is)) (part repos refl (it.repos (some repos refl) is)) (part tokens refl (it.tokens (some tokens refl) is)) (part uploads refl (it.uploads (some uploads refl) is)) (part chunks refl (it.chunks (some chunks refl) is)) (part locks refl (it.locks (some locks refl) is))
          (lack schema retired open_way.0) (counts_there schema (it.counted is) (it.unreferred is)) open_way.1 open_way.2,
      λ first.
          let shared = λ (p : Part) (one : is_in p (parts_of version_one) ≡ true). shared_by version_one schema other p (first.all.parts.made p one) (ours.made p one) in
          it.complete (some meta refl) (shared meta refl) (some repos refl) (shared repos refl) (some tokens refl) (shared tokens refl) (some uploads refl) (shared uploads refl) (some chunks refl) (shared chunks refl) (some locks refl) (shared locks refl)
          (counts_named schema first.all.counts) first.all.counts.unreferred,
    )
