-- Objects of a world are whole, so an inspection finds none of them damaged.
use Rattle.operator.proofs.Prelude.{⊤, ◌≡◌, ℕ, ◌∷◌, List, [], Result, Ok, Err, IfOk, IfErr, ap, refl, sym, ◌∙◌, subst, false, true, rules, World, IsWorld, From, Reads, reads_none, reads_then, reads_lead, from_weaker, Appends, OnOk, line, Ghosts, repo_text, UploadRow, IsPlain, TaskFault}
use Rattle.std.specs.Prelude.{Bool, not, Option, Some, None, IfSome, filter, find, length, bytes_eq, vec_len, ◌&&◌}
use Rattle.std.proofs.Common.{true≢false}
use Rattle.std.proofs.lemmas.Bool.{cond_both}
use Rattle.std.proofs.lemmas.List.Sorted.{length_permutation}
use Rattle.std.proofs.lemmas.Slice.Zip.{AllZip-long}
use Rattle.std.proofs.lemmas.List.Elements.{recursion_from_All}
use Rattle.std.proofs.lemmas.Slice.Eq.{bytes_eq-Decides}
use Rattle.model.proofs.Checks.{find_ok}
use Rattle.model.specs.World.{Object, IsObject, name_of, object_named}
use Rattle.store.specs.Shown.{AddsNothing, HasTables, IsHonest, Moves}
use Rattle.tables.specs.Staging.{upload_number}
use Rattle.tables.specs.declared.rows.ObjectRow.{ObjectRow}
use Rattle.refinement.specs.Staging.{Stores}
use Rattle.chunks.specs.Pouring.{OfBytes}
use Rattle.uploads.specs.Finding.{Finds}
use Rattle.uploads.specs.Listing.{IsRowOf, Lists, is_listed}
use Rattle.operator.specs.Damage.{has_bytes, IsWhole}
use Rattle.operator.specs.Inspections.{Spares, inspected_line}
use Rattle.operator.specs.Printed.{IfWritten}
use Rattle.operator.specs.declared.inspecting.Inspection.{Inspection}
use Rattle.operator.specs.declared.inspecting.Purpose.{Purpose}

bytes_are : (row : UploadRow) (bytes : List ℕ) → row.size ≡ length bytes → row.oid ≡ name_of bytes → has_bytes row bytes ≡ true
bytes_are row bytes size name = rw (size, name) (search rules)

found_passes : {A : Type 0} (test : A → Bool) (xs : List A) → IfSome (find test xs) (λ x. test x ≡ true)
found_passes test [] = tt
found_passes test (x ∷ xs) = cond_both (test x) (Some x) (find test xs) (λ o. IfSome o (λ y. test y ≡ true)) (λ yes. yes) (λ _. found_passes test xs)

second_true : (a b : Bool) → (a && b) ≡ true → b ≡ true
second_true true b e = e
second_true false b e = search (rules, e)

-- an object of a world that has this name is one, and has the bytes of the name
named_whole : (world : World) (repo name : List ℕ) (o : Object) → IsWorld world → object_named repo name world ≡ Some o → name ≡ name_of o.bytes
named_whole world repo name o laws is =
    let P : Object → Bool = λ p. bytes_eq p.repo repo && bytes_eq p.name name in
    let passes : (bytes_eq o.repo repo && bytes_eq o.name name) ≡ true = subst (λ (found : Option Object). IfSome found (λ x. P x ≡ true)) is (found_passes P world.objects) in
    let own : IsObject o = subst (λ (found : Option Object). IfSome found IsObject) is (find_ok IsObject P world.objects (recursion_from_All IsObject world.objects laws.objects)) in
    sym ((bytes_eq-Decides o.name name).0 (second_true (bytes_eq o.repo repo) (bytes_eq o.name name) passes)) ∙ own.name

module _ {S : Type 0} (g : Ghosts S) where
  -- an object that is found as it was listed is whole
  pub found_whole : (world : World) (s : S) (row : UploadRow) (found : ObjectRow) → IsWorld world → Finds g world s (repo_text row.repo) row.oid (Some found)
      → found.id ≡ row.id → found.size ≡ row.size → IsWhole g s row
  found_whole world s row found laws f id size = (
    f.0.bytes,
    subst (λ id. Stores g s (upload_number id) f.0.bytes) id f.3,
    bytes_are row f.0.bytes (sym size ∙ f.2) (named_whole world (repo_text row.repo) row.oid f.0 laws f.1),
  )

  -- a whole object is not found damaged
  whole_passes : {E : Type 0} (a b : S) (row : UploadRow) (r : Result Bool E) → OfBytes g a b (upload_number row.id) (λ bytes. IfOk r (λ damaged. damaged ≡ not (has_bytes row bytes)))
      → IsHonest g b → HasTables g a → IsWhole g a row → IfOk r (λ damaged. damaged ≡ false)
  whole_passes a b row (Ok damaged) exact honest ready w = subst (λ (x : Bool). damaged ≡ not x) w.2 (exact honest ready w.0 w.1)
  whole_passes a b row (Err e) exact honest ready w = tt

  -- an object that is stored as it was listed, and is then looked at
  pub reads_damaged : {E : Type 0} (a b c : S) (row : UploadRow) (r : Result Bool E) → Reads g a b (λ world. IsWhole g b row) → Reads g b c (λ _. ⊤)
      → OfBytes g b c (upload_number row.id) (λ bytes. IfOk r (λ damaged. damaged ≡ not (has_bytes row bytes))) → Reads g a c (λ world. IfOk r (λ damaged. damaged ≡ false))
  reads_damaged a b c row r p q exact =
      let both = reads_then g a b c _ _ (λ _. ⊤) (λ world laws x y. tt) p q in
      record {
        same = both.same;
        adds = both.adds;
        each = λ honest world h. whole_passes b c row r exact honest (p.same.ready h.ready) (p.each (q.same.was_honest honest) world h);
      }

  -- one more call that only reads
  pub reads_on : (a b c : S) → Reads g a b (λ _. ⊤) → Moves g (λ t. t) b c → AddsNothing g b c → Reads g a c (λ _. ⊤)
  reads_on a b c p same adds =
      let q : Reads g b c (λ _. ⊤) = record { same = same; adds = adds; each = λ honest world h. tt } in
      reads_then g a b c _ _ (λ _. ⊤) (λ world laws x y. tt) p q

  -- ---- an inspection

  -- then calls that only read
  pub spares_read : (a b c : S) (P : World → Type 0) (was mid is : Inspection) → From g a b (λ _. Spares g a b was mid) → Reads g b c P → is.damaged ≡ mid.damaged → From g a c (λ _. Spares g a c was is)
  spares_read a b c P was mid is p q same = record {
    honest = λ k. p.honest (q.same.was_honest k);
    each = λ honest world h.
        let before = p.each (q.same.was_honest honest) world h in
        record { reads = reads_then g a b c _ _ (λ _. ⊤) (λ world laws x y. tt) before.reads q; none = same ∙ before.none };
  }

  -- no object of a world is found damaged
  pub never_damaged : (a b c d : S) (was mid : Inspection) (P : World → Type 0) → From g a b (λ _. Spares g a b was mid) → Reads g b c (λ _. true ≡ false) → (IsHonest g d → IsHonest g c) → From g a d P
  never_damaged a b c d was mid P p q honest = record {
    honest = λ k. p.honest (q.same.was_honest (honest k));
    each = λ k world h.
        let here = q.same.was_honest (honest k) in
        let before = p.each here world h in
        absurd (true≢false (q.each (honest k) world (reads_lead g a b _ world before.reads h).holds));
  }

  -- what is done to a damaged object is not done in a world
  pub spares_damaged : (a b c d : S) (was mid is : Inspection) → From g a b (λ _. Spares g a b was mid) → Reads g b c (λ _. true ≡ false) → (IsHonest g d → IsHonest g c) → From g a d (λ _. Spares g a d was is)
  spares_damaged a b c d was mid is p q honest = never_damaged a b c d was mid (λ _. Spares g a d was is) p q honest

  -- and then an object that could not be read
  pub spares_then : (a b c : S) (was mid begun is : Inspection) → From g a b (λ _. Spares g a b was mid) → begun.damaged ≡ mid.damaged
      → From g b c (λ _. Spares g b c begun is) → From g a c (λ _. Spares g a c was is)
  spares_then a b c was mid begun is p same q = record {
    honest = λ k. p.honest (q.honest k);
    each = λ honest world h.
        let before = p.each (q.honest honest) world h in
        let more = q.each honest world (reads_lead g a b _ world before.reads h).holds in
        record {
          reads = reads_then g a b c _ _ (λ _. ⊤) (λ world laws x y. tt) before.reads more.reads;
          none = more.none ∙ same ∙ before.none;
        };
  }

  -- what is true of calls after an inspection that found none damaged
  pub true_then : (a b c : S) (was mid : Inspection) (P : Type 0) → From g a b (λ _. Spares g a b was mid) → From g b c (λ _. P)
      → From g a c (λ _. P)
  true_then a b c was mid P p q = record {
    honest = λ k. p.honest (q.honest k);
    each = λ honest world h.
        let before = p.each (q.honest honest) world h in
        q.each honest world (reads_lead g a b _ world before.reads h).holds;
  }

  -- an inspection that went on, with nothing found damaged before
  pub inspected_on : (a b c : S) (mid is : Inspection) → From g a b (λ _. Reads g a b (λ _. ⊤) × (mid.damaged ≡ 0)) → From g b c (λ _. Spares g b c mid is) → From g a c (λ _. Reads g a c (λ _. ⊤) × (is.damaged ≡ 0))
  inspected_on a b c mid is p q = record {
    honest = λ k. p.honest (q.honest k);
    each = λ honest world h.
        let before = p.each (q.honest honest) world h in
        let more = q.each honest world (reads_lead g a b _ world before.0 h).holds in
        (reads_then g a b c _ _ (λ _. ⊤) (λ world laws x y. tt) before.0 more.reads, more.none ∙ before.1);
  }

  -- an inspection that ended, for a plain reason if nothing was found damaged
  pub inspected_so : {A : Type 0} (a b : S) (is : Inspection) (r : Result A TaskFault) → From g a b (λ _. Reads g a b (λ _. ⊤) × (is.damaged ≡ 0)) → (is.damaged ≡ 0 → IfErr r IsPlain)
      → From g a b (λ _. Reads g a b (λ _. ⊤) × IfErr r IsPlain)
  inspected_so a b is r p why = from_weaker g a b _ _ (λ world d. (d.0, why d.1)) p

-- ---- what an inspection writes

-- nothing was written, and all objects of the world are listed
abbrev pub IsSilent : (was is : Option (List ℕ)) → Inspection → World → Type 0
IsSilent was is inspection world = (is ≡ was) × (vec_len inspection.rows ≡ length world.objects)

all_listed : (objects : List Object) → filter (is_listed None) objects ≡ objects
all_listed [] = refl
all_listed (o ∷ objects) = ap (λ (l : List Object). o ∷ l) (all_listed objects)

-- there are as many rows as objects
pub rows_length : {S : Type 0} (g : Ghosts S) (world : World) (s : S) (rows : List UploadRow) → Lists g world s None rows → length rows ≡ length world.objects
rows_length g world s rows l =
    sym (AllZip-long (IsRowOf g s) rows l.objects l.each) ∙ sym (length_permutation l.objects (filter (is_listed None) world.objects) l.same) ∙ ap length (all_listed world.objects)

-- what follows from what is so after a success
pub on_ok_then : (r : Result ⊤ TaskFault) (P Q : Type 0) → OnOk r P → (P → OnOk r Q) → OnOk r Q
on_ok_then (Ok u) P Q p says = says p
on_ok_then (Err e) P Q p says = tt

on_written : (P : Type 0) (r : Result ⊤ TaskFault) → IfWritten r P → OnOk r P
on_written P (Ok u) p = p
on_written P (Err e) p = tt

-- the last line is all that was written
pub line_printed : (was mid is : Option (List ℕ)) (p q : Purpose) (all count damaged : ℕ) (r : Result ⊤ TaskFault) → mid ≡ was → p ≡ q → all ≡ count → damaged ≡ 0
    → IfWritten r (Appends mid is (line (inspected_line p all damaged))) → OnOk r (Appends was is (line (inspected_line q count 0)))
line_printed was mid is p q all count damaged r m e a d written =
    subst (λ (n : ℕ). OnOk r (Appends was is (line (inspected_line q count n)))) d
    (subst (λ (n : ℕ). OnOk r (Appends was is (line (inspected_line q n damaged)))) a
    (subst (λ (x : Purpose). OnOk r (Appends was is (line (inspected_line x all damaged)))) e
    (subst (λ (x : Option (List ℕ)). OnOk r (Appends x is (line (inspected_line p all damaged)))) m (on_written _ r written))))
