-- Two stores that are only read, and what is said of the tables of both; for proofs in other crates too.
use Rattle.std.proofs.Common.{◌≡◌, ◌∙◌, ℕ, ◌+◌, ◌<◌, pos, Bool, true, false, not, List, [], map, filter, find, length, slice_index_or, Option, option_map, Result, Ok, Err, IfOk, Vec, Global, IsPermutation, ◌≤◌, refl, sym, ap, subst, arith}
use Rattle.std.proofs.Math.Logic.{⊎_elim}
use Rattle.std.specs.Bool.{Decides}
use Rattle.std.specs.Ordering.{int_eq}
use Rattle.std.proofs.lemmas.Bool.Decides.{Decides-like}
use Rattle.std.specs.List.{AllByRecursion}
use Rattle.std.proofs.lemmas.Bool.{cases_eq, true≢false}
use Rattle.std.proofs.lemmas.List.{get_or_default}
use Rattle.std.proofs.lemmas.List.Elements.{All-from_recursion, recursion_from_All}
use Rattle.sqlite_keyed.proofs.ListLemmas.{all_map, all_unmap, filter-map, filter_same, map_back}
use Rattle.tables.specs.Rows.{Chunk, Tables, Upload}
use Rattle.tables.specs.Statements.{is_chunk, is_complete}
use Rattle.tables.specs.declared.fault.StoreFault.{StoreFault}
use Rattle.store.specs.declared.content.ChunkContent.{ChunkContent}
use Rattle.store.specs.declared.state.State.{Ghosts}
use Rattle.store.specs.Content.{content_bytes, IsContentOf}
use Rattle.store.specs.Normal.{arranged, is_of_staged, settled}
use Rattle.store.specs.Shown.{HasTables, IsHonest, Reads, shown}
use Rattle.store.proofs.Moved.{moves_none, moves_then, nothing_none, nothing_then}
use Rattle.tables.specs.declared.rows.ChunkKey.{ChunkKey}
use Rattle.tables.specs.declared.rows.MarkedUpload.{MarkedUpload}
use Rattle.tables.specs.Listing.{AreMarkedOf, KeyFields, MarkedFields, key_fields, mark_of, marked_fields, read_key, read_marked}
use Rattle.compared.specs.Keys.{AreKeysInOrder, HasSameBytes, KeysRise, bytes_at}
use Rattle.compared.specs.Same.{HaveSameChunks}
use Rattle.compared.specs.Comparing.{ArePaired, Compares, ReadsBoth, ShowsIfOpen}
use Rattle.compared.proofs.KeyLists.{bytes_from_same, keys_from_same, rise_from_same, same_from_keys}
use Rattle.compared.proofs.Paired.{maps_from_paired, paired_from_maps}

-- ---- chunks, by their keys

by_upload : (t : Tables) (c d : Chunk) → key_fields c ≡ key_fields d → not (is_of_staged t.uploads c) ≡ not (is_of_staged t.uploads d)
by_upload t c d same = ap (λ (k : KeyFields). not (is_of_staged t.uploads (record { rowid = pos 0; upload = k.upload; n = pos 0; bytes = [] }))) same

module _ (t u : Tables) (ours theirs : List ChunkKey) (arranged_t : arranged t.chunks ≡ t.chunks) (arranged_u : arranged u.chunks ≡ u.chunks)
    (old : AreKeysInOrder ours (settled t).chunks) (new : AreKeysInOrder theirs u.chunks) where
  abbrev is_kept : Chunk → Bool
  is_kept c = not (is_of_staged t.uploads c)

  pub same_chunks : KeysRise (map read_key ours) → ArePaired (λ a b. read_key a ≡ read_key b) ours theirs → AllByRecursion (HasSameBytes t u) (map read_key ours) → HaveSameChunks t u
  same_chunks up paired bytes =
      let keys = maps_from_paired read_key ours theirs paired in
      let is = same_from_keys t.chunks u.chunks is_kept (by_upload t) arranged_t arranged_u (map read_key ours) old.all (subst (λ l. IsPermutation l (map key_fields u.chunks)) (sym keys) new.all) up bytes in
      record { kept = is.0; single = is.1 }

  module _ (same : HaveSameChunks t u) where
    our_keys : map read_key ours ≡ map key_fields u.chunks
    our_keys =
        keys_from_same t.chunks u.chunks is_kept (by_upload t) arranged_t arranged_u same.kept same.single (map read_key ours)
        (subst (λ l. IsPermutation (map read_key ours) (map key_fields l)) (sym same.kept) old.all) old.ordered

    their_keys : map read_key theirs ≡ map key_fields u.chunks
    their_keys = keys_from_same t.chunks u.chunks is_kept (by_upload t) arranged_t arranged_u same.kept same.single (map read_key theirs) new.all new.ordered

    pub keys_rise : KeysRise (map read_key ours)
    keys_rise = subst KeysRise (sym our_keys) (rise_from_same t.chunks u.chunks is_kept (by_upload t) arranged_t arranged_u same.kept same.single)

    pub keys_paired : ArePaired (λ a b. read_key a ≡ read_key b) ours theirs
    keys_paired = paired_from_maps read_key ours theirs (our_keys ∙ sym their_keys)

    pub keys_bytes : AllByRecursion (HasSameBytes t u) (map read_key ours)
    keys_bytes = subst (AllByRecursion (HasSameBytes t u)) (sym our_keys) (bytes_from_same t.chunks u.chunks is_kept (by_upload t) arranged_t arranged_u same.kept same.single)

-- ---- two stores

module _ {S T : Type 0} (g : Ghosts S) (h : Ghosts T) where
  pub both_none : (a : S) (u : T) → ReadsBoth g h a a u u
  both_none a u = record { old_same = moves_none g a; old_adds = nothing_none g a; new_same = moves_none h u; new_adds = nothing_none h u }

  pub both_then : (a b c : S) (u v w : T) → ReadsBoth g h a b u v → ReadsBoth g h b c v w → ReadsBoth g h a c u w
  both_then a b c u v w p q = record {
    old_same = moves_then g a b c p.old_same q.old_same;
    old_adds = nothing_then g a b c p.old_adds q.old_adds;
    new_same = moves_then h u v w p.new_same q.new_same;
    new_adds = nothing_then h u v w p.new_adds q.new_adds;
  }

  pub both_read : {X Y : Type 0} (a b : S) (u v : T) (r : Result X StoreFault) (q : Result Y StoreFault) (P : Tables → X → Type 0) (Q : Tables → Y → Type 0)
      → Reads g a b r P → Reads h u v q Q → ReadsBoth g h a b u v
  both_read a b u v r q P Q p k = record { old_same = p.same; old_adds = p.adds; new_same = k.same; new_adds = k.adds }

  -- ---- the bytes of chunks

  abbrev HasChunk : ChunkKey → Tables → Option ChunkContent → Type 0
  HasChunk key t found = IsContentOf found (find (is_chunk (read_key key).upload (read_key key).n) t.chunks)

  -- the chunks of the first n keys have the same bytes
  pub record SameSoFar (keys : List ChunkKey) (n : ℕ) (a b : S) (u v : T) : Type 0 where
    pub both : ReadsBoth g h a b u v
    pub same : IsHonest g b → IsHonest h v → HasTables g a → HasTables h u → (s t : Tables) → ShowsIfOpen g a s → ShowsIfOpen h u t
        → (k : ℕ) (d : ChunkKey) → k < n → HasSameBytes s t (read_key (slice_index_or keys k d))

  module _ (keys : List ChunkKey) (i : ℕ) (key : ChunkKey) (a b c : S) (u v w : T) (x y : Option ChunkContent) (low : i < length keys) (at_i : key ≡ slice_index_or keys i key)
      (so_far : SameSoFar keys i a b u v) (ours : Reads g b c (Ok x) (HasChunk key)) (theirs : Reads h v w (Ok y) (HasChunk key)) where
    old_bytes : IsHonest g c → HasTables g a → (s : Tables) → ShowsIfOpen g a s → option_map content_bytes x ≡ bytes_at (read_key key) s
    old_bytes honest has s shows =
        let m = so_far.both.old_same in
        let before = ours.same.was_honest honest in
        let is = ours.answers honest (m.ready has) in
        subst (λ t. HasChunk key t x) (m.shows before has is.0 ∙ shows (m.was_open before is.0)) is.1

    new_bytes : IsHonest h w → HasTables h u → (t : Tables) → ShowsIfOpen h u t → option_map content_bytes y ≡ bytes_at (read_key key) t
    new_bytes honest has t shows =
        let m = so_far.both.new_same in
        let before = theirs.same.was_honest honest in
        let is = theirs.answers honest (m.ready has) in
        subst (λ s. HasChunk key s y) (m.shows before has is.0 ∙ shows (m.was_open before is.0)) is.1

    pub both_chunks : ReadsBoth g h a c u w
    both_chunks = both_then a b c u v w so_far.both (both_read b c v w (Ok x) (Ok y) (HasChunk key) (HasChunk key) ours theirs)

    pub same_next : option_map content_bytes y ≡ option_map content_bytes x → SameSoFar keys (i + 1) a c u w
    same_next alike = record {
      both = both_chunks;
      same = λ honest honest₂ has has₂ s t shows shows₂ k d less.
          ⊎_elim
          (λ is. subst (HasSameBytes s t) (ap read_key (at_i ∙ get_or_default keys i key d low ∙ ap (λ j. slice_index_or keys j d) (sym is)))
          (sym (new_bytes honest₂ has₂ t shows₂) ∙ alike ∙ old_bytes honest has s shows))
          (λ other. so_far.same (ours.same.was_honest honest) (theirs.same.was_honest honest₂) has has₂ s t shows shows₂ k d (omega (arith, less, other)))
          (cases_eq k i);
    }

    pub differs_here : (option_map content_bytes y ≡ option_map content_bytes x → ⊥)
        → IsHonest g c → IsHonest h w → HasTables g a → HasTables h u → (s t : Tables) → ShowsIfOpen g a s → ShowsIfOpen h u t → Decides false (AllByRecursion (HasSameBytes s t) (map read_key keys))
    differs_here other honest honest₂ has has₂ s t shows shows₂ = (
      λ e. absurd (true≢false (sym e)),
      λ all.
          absurd (other (new_bytes honest₂ has₂ t shows₂
          ∙ subst (HasSameBytes s t) (ap read_key (sym at_i)) (All-from_recursion (λ k. HasSameBytes s t (read_key k)) keys (all_unmap (HasSameBytes s t) read_key keys all) i key low)
          ∙ sym (old_bytes honest has s shows))),
    )

  pub same_all : (keys : List ChunkKey) (n : ℕ) (a b : S) (u v : T) → length keys ≤ n → SameSoFar keys n a b u v
      → IsHonest g b → IsHonest h v → HasTables g a → HasTables h u → (s t : Tables) → ShowsIfOpen g a s → ShowsIfOpen h u t → Decides true (AllByRecursion (HasSameBytes s t) (map read_key keys))
  same_all keys n a b u v end so_far honest honest₂ has has₂ s t shows shows₂ = (
    λ _. all_map (HasSameBytes s t) read_key keys (recursion_from_All (λ k. HasSameBytes s t (read_key k)) keys
        (λ k d less. so_far.same honest honest₂ has has₂ s t shows shows₂ k d (omega (arith, less, end)))),
    λ _. refl,
  )

  -- ---- comparisons

  -- the result is the same for another claim
  pub compares_like : (a b : S) (u v : T) (r : Result Bool StoreFault) (P Q : Tables → Tables → Type 0) → ((s t : Tables) → P s t → Q s t) → ((s t : Tables) → Q s t → P s t)
      → Compares g h a b u v r P → Compares g h a b u v r Q
  compares_like a b u v (Err e) P Q f back p = record { both = p.both; answers = λ _ _ _ _. tt }
  compares_like a b u v (Ok same) P Q f back p = record {
    both = p.both;
    answers = λ honest honest₂ has has₂. let is = p.answers honest honest₂ has has₂ in (is.0, is.1, Decides-like same (f _ _) (back _ _) is.2);
  }

  -- one comparison after another that found nothing
  pub compares_then : (a b c : S) (u v w : T) (r : Result Bool StoreFault) (P Q : Tables → Tables → Type 0)
      → Compares g h a b u v (Ok true) P → Compares g h b c v w r Q → Compares g h a c u w r (λ s t. P s t × Q s t)
  compares_then a b c u v w (Err e) P Q p q = record { both = both_then a b c u v w p.both q.both; answers = λ _ _ _ _. tt }
  compares_then a b c u v w (Ok same) P Q p q = record {
    both = both_then a b c u v w p.both q.both;
    answers = λ honest honest₂ has has₂.
        let before = q.both.old_same.was_honest honest in
        let before₂ = q.both.new_same.was_honest honest₂ in
        let first = p.answers before before₂ has has₂ in
        let second = q.answers honest honest₂ (p.both.old_same.ready has) (p.both.new_same.ready has₂) in
        let is = subst (λ s. Decides same (Q s (shown h u))) (p.both.old_same.shows before has second.0)
        (subst (λ t. Decides same (Q (shown g b) t)) (p.both.new_same.shows before₂ has₂ second.1) second.2) in
        (first.0, first.1, Decides-like same (λ q. (first.2.0 refl, q)) (λ both. both.1) is);
  }

  -- one call on each store
  pub compared : {X Y : Type 0} (a b : S) (u v : T) (x : X) (y : Y) (P : Tables → X → Type 0) (Q : Tables → Y → Type 0) (same : Bool) (R : Tables → Tables → Type 0)
      → ((s t : Tables) → P s x → Q t y → Decides same (R s t)) → Reads g a b (Ok x) P → Reads h u v (Ok y) Q → Compares g h a b u v (Ok same) R
  compared a b u v x y P Q same R f p q = record {
    both = both_read a b u v (Ok x) (Ok y) P Q p q;
    answers = λ honest honest₂ has has₂.
        let one = p.answers honest has in
        let two = q.answers honest₂ has₂ in
        (one.0, two.0, f _ _ one.1 two.1);
  }

  -- the keys of both were read, in order
  module _ (a b : S) (u v : T) (ours theirs : Vec ChunkKey Global) (p : Reads g a b (Ok ours) (λ t keys. AreKeysInOrder keys.items (settled t).chunks))
      (q : Reads h u v (Ok theirs) (λ t keys. AreKeysInOrder keys.items t.chunks)) where
    pub chunks_differ : ((KeysRise (map read_key ours.items) × ArePaired (λ a b. read_key a ≡ read_key b) ours.items theirs.items) → ⊥) → Compares g h a b u v (Ok false) HaveSameChunks
    chunks_differ other = record {
      both = both_read a b u v (Ok ours) (Ok theirs) _ _ p q;
      answers = λ honest honest₂ has has₂.
          let one = p.answers honest has in
          let two = q.answers honest₂ has₂ in
          let sorted = ap (λ (t : Tables). t.chunks) (has.ordered (p.same.was_honest honest) one.0) in
          let sorted₂ = ap (λ (t : Tables). t.chunks) (has₂.ordered (q.same.was_honest honest₂) two.0) in (
            one.0,
            two.0,
            (
              λ e. absurd (true≢false (sym e)),
              λ same.
                  absurd (other (
                    keys_rise (shown g a) (shown h u) ours.items theirs.items sorted sorted₂ one.1 two.1 same,
                    keys_paired (shown g a) (shown h u) ours.items theirs.items sorted sorted₂ one.1 two.1 same,
                  )),
            ),
          );
    }

    pub chunks_compared : (c : S) (w : T) (r : Result Bool StoreFault) → KeysRise (map read_key ours.items) → ArePaired (λ a b. read_key a ≡ read_key b) ours.items theirs.items → ReadsBoth g h b c v w
        → IfOk r (λ same. IsHonest g c → IsHonest h w → HasTables g b → HasTables h v → (s t : Tables) → ShowsIfOpen g b s → ShowsIfOpen h v t → Decides same (AllByRecursion (HasSameBytes s t) (map read_key ours.items)))
        → Compares g h a c u w r HaveSameChunks
    chunks_compared c w (Err e) up paired both bytes = record { both = both_then a b c u v w (both_read a b u v (Ok ours) (Ok theirs) _ _ p q) both; answers = λ _ _ _ _. tt }
    chunks_compared c w (Ok same) up paired both bytes = record {
      both = both_then a b c u v w (both_read a b u v (Ok ours) (Ok theirs) _ _ p q) both;
      answers = λ honest honest₂ has has₂.
          let before = both.old_same.was_honest honest in
          let before₂ = both.new_same.was_honest honest₂ in
          let one = p.answers before has in
          let two = q.answers before₂ has₂ in
          let sorted = ap (λ (t : Tables). t.chunks) (has.ordered (p.same.was_honest before) one.0) in
          let sorted₂ = ap (λ (t : Tables). t.chunks) (has₂.ordered (q.same.was_honest before₂) two.0) in
          let is = bytes honest honest₂ (p.same.ready has) (q.same.ready has₂) (shown g a) (shown h u) (p.same.shows before has) (q.same.shows before₂ has₂) in (
            one.0,
            two.0,
            Decides-like same (same_chunks (shown g a) (shown h u) ours.items theirs.items sorted sorted₂ one.1 two.1 up paired)
                (keys_bytes (shown g a) (shown h u) ours.items theirs.items sorted sorted₂ one.1 two.1) is,
          );
    }

-- ---- rows

-- rows are the same exactly if what was read of them is
pub rows_decided : {X F : Type 0} (read : X → F) (same : Bool) (xs ys ours theirs : List X) (ls ms : List F) → xs ≡ ours → ys ≡ theirs → map read ours ≡ ls → map read theirs ≡ ms
    → Decides same (ArePaired (λ a b. read a ≡ read b) xs ys) → Decides same (ms ≡ ls)
rows_decided read same xs ys ours theirs ls ms is_x is_y p q d =
    let one = ap (map read) is_x ∙ p in
    let two = ap (map read) is_y ∙ q in
    Decides-like same (λ paired. sym two ∙ sym (maps_from_paired read xs ys paired) ∙ one) (λ e. paired_from_maps read xs ys (one ∙ sym e ∙ sym two)) d

upload_from : MarkedFields → Upload
upload_from f = record { id = f.upload.id; repo = f.upload.repo; oid = f.upload.oid; size = f.upload.size; done = f.done }

same_uploads : (us ws : List Upload) → map marked_fields us ≡ map marked_fields ws → us ≡ ws
unfolding upload_from
same_uploads us ws e = sym (map_back marked_fields upload_from (λ _. refl) us) ∙ ap (map upload_from) e ∙ map_back marked_fields upload_from (λ _. refl) ws

marked : (b : Bool) → int_eq (mark_of b) (pos 1) ≡ b
marked true = refl
marked false = refl

complete_read : (rows : List MarkedUpload) (us : List Upload) → AreMarkedOf rows us → map read_marked (filter (λ m. m.is_complete) rows) ≡ map marked_fields (filter is_complete us)
complete_read rows us is =
    ap (map read_marked) (filter_same (λ (m : MarkedUpload). m.is_complete) (λ m. int_eq (mark_of m.is_complete) (pos 1)) (λ m. sym (marked m.is_complete)) rows)
    ∙ sym (filter-map (λ (f : MarkedFields). int_eq f.done (pos 1)) read_marked rows)
    ∙ ap (filter (λ (f : MarkedFields). int_eq f.done (pos 1))) is
    ∙ filter-map (λ (f : MarkedFields). int_eq f.done (pos 1)) marked_fields us

-- the uploads are the complete ones exactly if what was read of them is
pub uploads_decided : (same : Bool) (xs ys rows theirs : List MarkedUpload) (us ws : List Upload) → xs ≡ filter (λ m. m.is_complete) rows → ys ≡ theirs → AreMarkedOf rows us → AreMarkedOf theirs ws
    → Decides same (ArePaired (λ a b. read_marked a ≡ read_marked b) xs ys) → Decides same (ws ≡ filter is_complete us)
uploads_decided same xs ys rows theirs us ws is_x is_y p q d =
    Decides-like same (same_uploads ws (filter is_complete us)) (ap (map marked_fields))
    (rows_decided read_marked same xs ys (filter (λ m. m.is_complete) rows) theirs (map marked_fields (filter is_complete us)) (map marked_fields ws) is_x is_y (complete_read rows us p) q d)
