use Rattle.std.proofs.Common.{map, subst, sym, ◌∙◌, IfOk}
use Rattle.std.specs.Bool.{Decides}
use Rattle.std.specs.List.{AllByRecursion}
use Rattle.std.proofs.lemmas.Bool.{true≢false}
use Rattle.store.specs.Shown.{HasTables, IsHonest}
use Rattle.tables.specs.Rows.{Tables}
use Rattle.compared.specs.Comparing.{ShowsIfOpen}
use Rattle.compared.specs.Keys.{HasSameBytes, KeysRise}
use Rattle.tables.specs.Listing.{read_key}
use Rattle.compared.proofs.Comparisons.{chunks_compared, chunks_differ}
use Rattle.compared.proofs.Paired.{paired_at}
use Rattle.compared.proofs.chunks.have_same_chunks.Goals as goal

pub returns-then-not-rise : goal.returns-then-not-rise
returns-then-not-rise g c =
    chunks_differ g.A.State g.B.State _ _ _ _ c.in_ok-ours.ours c.in_ok-theirs.theirs c.in_ok-ours.ensures c.in_ok-theirs.ensures
    (λ both. true≢false (sym (c.rise.ensures.1 (subst (λ l. KeysRise (map read_key l)) (sym c.deref.ensures.value) both.0)) ∙ c.if-not-rise.true))

pub returns-then-not-are_same : goal.returns-then-not-are_same
returns-then-not-are_same g c =
    chunks_differ g.A.State g.B.State _ _ _ _ c.in_ok-ours.ours c.in_ok-theirs.theirs c.in_ok-ours.ensures c.in_ok-theirs.ensures
    (λ both. true≢false (sym (c.are_same.ensures.1 (paired_at _ _ _ _ _ (sym c.deref-2.ensures.value) (sym c.deref-3.ensures.value) both.1)) ∙ c.if-not-are_same.true))

pub returns : goal.returns
returns g c =
    chunks_compared g.A.State g.B.State _ _ _ _ c.in_ok-ours.ours c.in_ok-theirs.theirs c.in_ok-ours.ensures c.in_ok-theirs.ensures
    c.have_same_bytes.new.old c.have_same_bytes.new.new c.have_same_bytes.result
    (subst (λ l. KeysRise (map read_key l)) c.deref.ensures.value (c.rise.ensures.0 c.if-not-rise.false))
    (paired_at _ _ _ _ _ c.deref-2.ensures.value c.deref-3.ensures.value (c.are_same.ensures.0 c.if-not-are_same.false))
    c.have_same_bytes.ensures.both
    (subst (λ l. IfOk c.have_same_bytes.result (λ same. IsHonest g.A.State c.have_same_bytes.new.old → IsHonest g.B.State c.have_same_bytes.new.new
    → HasTables g.A.State c.settled_keys.new.store → HasTables g.B.State c.all_keys.new.store → (s t : Tables) → ShowsIfOpen g.A.State c.settled_keys.new.store s
    → ShowsIfOpen g.B.State c.all_keys.new.store t → Decides same (AllByRecursion (HasSameBytes s t) (map read_key l)))) c.deref-4.ensures.value c.have_same_bytes.ensures.same)
