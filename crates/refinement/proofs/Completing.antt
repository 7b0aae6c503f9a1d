-- The results of completing a staged upload, in the world that the tables represent.
use Rattle.refinement.proofs.Prelude.{◌≡◌, ◌∙◌, ℕ, ◌+◌, ◌≤◌, ℤ, pos, Bool, true, false, ◌&&◌, List, ◌∷◌, ◌++◌, find, cond, length, Some, option_map, is_some, refl, sym, ap, subst, arith, concat, int_eq, true≢false, and_from, ints, largest_object, World, IsWorld, Object, object_named, with_object, each_in, in_found, both_true, Tables, same_bytes, is_upload, is_staged, is_staged_with, is_object, staged_with, with_last, is_as_begun, settled_as, completion_by, completion_of, after_completion, after_found, LastChunk, bytes_of, HasSize, Represents, staged_row, IsStaged, pieces_with, find_and}
use Rattle.std.proofs.Common.{length-append}
use Rattle.tables.specs.Rows as row
use Rattle.tables.specs.Staging.{after_complete}
use Rattle.tables.specs.declared.rows.Completion.{Completion}
use Rattle.tables.specs.declared.rows.Completion.TheVariants.{New, Already, Differs}
use Rattle.refinement.proofs.Completed.{kept_represented}
use Rattle.refinement.proofs.Counts.{named_itself, same_text}
use Rattle.refinement.proofs.Kept.{object_known}
use Rattle.refinement.proofs.LastChunk.{concat_with, last_staged, last_represented}
use Rattle.refinement.proofs.Lookups.{find_alike}
use Rattle.refinement.proofs.Begun.{both_meet}
use Rattle.refinement.proofs.Pieces.{own_number, bytes_are}
use Rattle.refinement.proofs.Same.{same_pos}

-- an upload that is found by its id, and is staged, is found as a staged one
pub found_staged : (us : List row.Upload) (id : ℤ) (s : row.Upload) → find (is_upload id) us ≡ Some s → is_staged s ≡ true → find (is_staged_with id) us ≡ Some s
found_staged us id s e staged =
    find_alike (is_staged_with id) (λ u. is_staged u && is_upload id u) us (λ u. both_meet (is_upload id u) (is_staged u)) ∙ find_and (is_upload id) is_staged us s e staged

same_size : (a b : ℕ) → int_eq (pos a) (pos b) ≡ true → a ≡ b
same_size a b e = grind (arith, ints)

-- the size of a staged upload is in range
pub staged_in_range : (t : Tables) (world : World) (id : ℤ) (repo name : List ℕ) (size : ℕ) (pieces : List (List ℕ)) → Represents t world → IsStaged id repo name size pieces t → size ≤ largest_object
staged_in_range t world id repo name size pieces r h =
    let has = each_in (λ (u : row.Upload). HasSize (length (bytes_of u.id t.chunks)) u) t.uploads (staged_row id repo name size) r.objects.sizes (in_found (is_upload id) t.uploads (staged_row id repo name size) h.upload) in
    subst (λ n. n ≤ largest_object) (same_pos has.size size (sym has.is)) has.in_range

module _ (t : Tables) (world : World) (id : ℤ) (repo name : List ℕ) (staged : ℕ) (pieces : List (List ℕ)) (last : LastChunk) (oid : List ℕ) (size : ℕ) (r : Represents t world) (w : IsWorld world)
    (h : IsStaged id repo name staged pieces t) (next : last.n ≡ length pieces) (arrived : length (concat pieces ++ last.bytes.items) ≡ size) where
  abbrev s : row.Upload
  s = staged_row id repo name staged

  -- the bytes that arrived, and the object that they are
  abbrev all : List ℕ
  all = concat pieces ++ last.bytes.items

  abbrev pub received : Object
  received = record { repo = repo; name = oid; bytes = all }

  -- the tables after a result, and what it says of the name and the size
  abbrev pub Completed : Completion → Type 0
  Completed New =
      (name ≡ oid) × (staged ≡ size) × (is_some (object_named repo oid world) ≡ false) × Represents (after_complete id last oid (pos size) t) (with_object received world)
  Completed Already = (name ≡ oid) × (staged ≡ size) × (is_some (object_named repo oid world) ≡ true) × (after_complete id last oid (pos size) t ≡ t)
  Completed Differs = (name ≡ oid → staged ≡ size → ⊥) × (after_complete id last oid (pos size) t ≡ t)

  found : staged_with id t ≡ Some s
  found = found_staged t.uploads id s h.upload refl

  is_completion : completion_of id oid (pos size) t ≡ Some (completion_by oid (pos size) s t)
  is_completion = ap (option_map (λ u. completion_by oid (pos size) u t)) found

  is_after : (c : Completion) → completion_by oid (pos size) s t ≡ c → after_complete id last oid (pos size) t ≡ after_completion c last s t
  unfolding after_complete
  is_after c e = ap (λ o. after_found o last oid (pos size) t) found ∙ ap (λ k. after_completion k last s t) e

  by_test : (begun known : Bool) → is_as_begun oid (pos size) s ≡ begun → is_some (find (is_object repo name) t.uploads) ≡ known
      → completion_by oid (pos size) s t ≡ cond begun (cond known Already New) Differs
  by_test begun known e f = ap (λ b. cond b (settled_as s t) Differs) e ∙ ap (λ b. cond begun (cond b Already New) Differs) f

  as_begun : is_as_begun oid (pos size) s ≡ true → (name ≡ oid) × (staged ≡ size)
  as_begun e = let both = both_true (same_bytes name oid) (int_eq (pos staged) (pos size)) e in (same_text name oid both.0, same_size staged size both.1)

  not_begun : is_as_begun oid (pos size) s ≡ false → name ≡ oid → staged ≡ size → ⊥
  not_begun e same equal =
      true≢false (sym (and_from (same_bytes name oid) (int_eq (pos staged) (pos size)) (ap (λ (n : List ℕ). same_bytes n oid) same ∙ named_itself oid)
      (ap (λ n. int_eq (pos n) (pos size)) equal ∙ own_number (pos size))) ∙ e)

  known_named : (known : Bool) → name ≡ oid → is_some (find (is_object repo name) t.uploads) ≡ known → is_some (object_named repo oid world) ≡ known
  known_named known same e = ap (λ n. is_some (object_named repo n world)) (sym same) ∙ sym (object_known t world repo name r w) ∙ e

  fits : staged ≡ size → length (concat pieces) + length last.bytes.items ≤ staged
  fits equal = let e = length-append (concat pieces) last.bytes.items in omega (arith, e, arrived, equal)

  new_world : name ≡ oid → is_some (object_named repo oid world) ≡ false → staged ≡ size → Represents (after_completion New last s t) (with_object received world)
  new_world same none equal =
      let more = with_last id last t in
      let there = last_staged t world id repo name staged pieces h last next in
      let bytes : bytes_of id more.chunks ≡ all = bytes_are id (pieces_with pieces last.bytes.items) more.chunks there.stored ∙ concat_with pieces last.bytes.items in
      let whole : pos staged ≡ pos (length (bytes_of id more.chunks)) = ap pos (equal ∙ sym arrived ∙ ap length (sym bytes)) in
      let is_received : record { repo = repo; name = name; bytes = bytes_of id more.chunks } ≡ received =
      ap (λ (n : List ℕ). record { repo = repo; name = n; bytes = bytes_of id more.chunks }) same ∙ ap (λ (b : List ℕ). record { repo = repo; name = oid; bytes = b }) bytes in
      subst (Represents (after_completion New last s t)) (ap (λ b. cond b world (record world { objects = received ∷ world.objects })) (sym none))
      (subst (λ (o : Object). Represents (after_completion New last s t) (record world { objects = o ∷ world.objects })) is_received
      (kept_represented more world s (last_represented t world id repo name staged pieces h last next r (fits equal)) there.upload refl whole))

  completed_as : (begun known : Bool) → is_as_begun oid (pos size) s ≡ begun → is_some (find (is_object repo name) t.uploads) ≡ known → Completed (cond begun (cond known Already New) Differs)
  completed_as true true e f =
      let both = as_begun e in
      (both.0, both.1, known_named true both.0 f, is_after Already (by_test true true e f))
  completed_as true false e f =
      let both = as_begun e in
      let none = known_named false both.0 f in
      (both.0, both.1, none, subst (λ (u : Tables). Represents u (with_object received world)) (sym (is_after New (by_test true false e f))) (new_world both.0 none both.1))
  completed_as false known e f = (not_begun e, is_after Differs (by_test false known e f))

  -- the result, whatever it is
  pub completed_by : Completed (completion_by oid (pos size) s t)
  completed_by =
      let begun = is_as_begun oid (pos size) s in
      let known = is_some (find (is_object repo name) t.uploads) in
      completed_as begun known refl refl

  pub completed : (c : Completion) → completion_of id oid (pos size) t ≡ Some c → Completed c
  completed c e = subst Completed (only_one (sym is_completion ∙ e)) completed_by
    where
      only_one : Some (completion_by oid (pos size) s t) ≡ Some c → completion_by oid (pos size) s t ≡ c
      only_one e = cc
