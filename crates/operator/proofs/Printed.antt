-- What a task prints, by what its calls return.
use Rattle.operator.proofs.Prelude.{⊤, ◌≡◌, ◌∙◌, ℕ, List, [], ◌∷◌, ◌++◌, Some, Result, Ok, Err, IfErr, MatchResult, refl, sym, ap, subst, false, arith, length, World, IsWorld, From, Reads, OnOk, line, on_ok_weaker, Ghosts, UploadRow, IsPlain, TaskFault}
use Rattle.std.proofs.Common.{AllPairs, IsErrAnd, Ordering, ◌+◌, ◌<◌, suc, append-nil, ap₂, bytes_eq, filter, flat_map, get_or, map, take, true}
use Rattle.std.specs.List.{AllByRecursion, AllZip}
use Rattle.std.specs.Ordering.{is_gt, nat_cmp, ordering_then}
use Rattle.std.specs.Cmp.Lexicographic.{slice_cmp}
use Rattle.std.proofs.lemmas.Cmp.{nat_list_cmp_total, tied_itself}
use Rattle.std.proofs.lemmas.Grind.{flat_map-append}
use Rattle.std.proofs.lemmas.List.{take_more}
use Rattle.std.proofs.lemmas.List.Elements.{All-from_recursion, recursion_from_All}
use Rattle.std.proofs.lemmas.List.Sorted.{All-permutation, IsPermutation-map, IsPermutation-sym}
use Rattle.std.proofs.lemmas.Slice.Eq.{bytes_eq-Decides}
use Rattle.sqlite_trees.specs.Tree.{IsAscending}
use Rattle.model.proofs.Lists.{each_passes}
use Rattle.model.specs.Operator.{Reports, by_success, by_fault, prune_outcome}
use Rattle.model.specs.RepoState.{object_size, objects_of}
use Rattle.model.specs.Steps.{IsStep, prunes}
use Rattle.model.specs.World.{Object, expired_count}
use Rattle.refinement.proofs.Orders.{objects_in_order, size_cmp, size_total}
use Rattle.refinement.proofs.Sorting.{NotAfter}
use Rattle.std.proofs.lemmas.Option.{none-some, same_Some}
use Rattle.uploads.specs.Listing.{IsNotAfter, IsRowOf, Lists}
use Rattle.operator.specs.Lines.{object_line}
use Rattle.operator.specs.Printed.{IfWritten, object_lines}
use Rattle.operator.specs.declared.faults.TaskFault.TheVariants as fault

-- ---- results

-- nothing is claimed of an error
pub none_on : {T E : Type 0} (P : Type 0) (Q : E → Type 0) (r : Result T E) → IsErrAnd r Q → OnOk r P
none_on P Q (Ok x) is = absurd is
none_on P Q (Err e) is = tt

-- what was written of a call implies more
pub written_so : (P Q : Type 0) (r : Result ⊤ TaskFault) → (P → Q) → IfWritten r P → IfWritten r Q
written_so P Q (Ok u) f p = f p
written_so P Q (Err fault.Reported) f p = f p
written_so P Q (Err (fault.Store x)) f p = tt
written_so P Q (Err (fault.Token x)) f p = tt
written_so P Q (Err fault.NoCaller) f p = tt
written_so P Q (Err fault.NoObject) f p = tt
written_so P Q (Err fault.Memory) f p = tt
written_so P Q (Err fault.Output) f p = tt

-- a task that does not report writes all only if it succeeds
pub written_on : (P : Type 0) (F : TaskFault → Type 0) (r : Result ⊤ TaskFault) → (F fault.Reported → ⊥) → IfErr r F → OnOk r P → IfWritten r P
written_on P F (Ok u) never why p = p
written_on P F (Err fault.Reported) never why p = absurd (never why)
written_on P F (Err (fault.Store x)) never why p = tt
written_on P F (Err (fault.Token x)) never why p = tt
written_on P F (Err fault.NoCaller) never why p = tt
written_on P F (Err fault.NoObject) never why p = tt
written_on P F (Err fault.Memory) never why p = tt
written_on P F (Err fault.Output) never why p = tt

-- a plain fault reports nothing
pub plain_written : (P : Type 0) (e : TaskFault) → IsPlain e → IfWritten (Err e) P
plain_written P (fault.Store x) plain = tt
plain_written P (fault.Token x) plain = tt
plain_written P fault.NoCaller plain = tt
plain_written P fault.NoObject plain = tt
plain_written P fault.Memory plain = tt
plain_written P fault.Output plain = tt
plain_written P fault.Reported plain = absurd plain

err_of : (D : Type 0) (F : TaskFault → Type 0) (r : Result ⊤ TaskFault) → MatchResult r (λ _. D) F → IfErr r F
err_of D F (Ok u) p = tt
err_of D F (Err e) p = p

module _ {S : Type 0} (g : Ghosts S) where
  -- what a call that only reads finds
  pub from_reads : (a b : S) (P : World → Type 0) → Reads g a b P → From g a b P
  from_reads a b P p = record { honest = p.same.was_honest; each = p.each }

  -- a call that only read, before nothing was written of it
  pub printed_none : (P : World → Type 0) (a b : S) (Q : World → Type 0) → ((world : World) → Q world) → Reads g a b P → From g a b Q
  printed_none P a b Q q p = record { honest = p.same.was_honest; each = λ honest world h. q world }

  -- a call that only reads, and fails for a plain reason
  pub printed_plain : (a b : S) (P Q : World → Type 0) (r : Result ⊤ TaskFault) → IfErr r IsPlain → ((world : World) → P world → Q world) → Reads g a b (λ world. OnOk r (P world))
      → From g a b (λ world. IfWritten r (Q world))
  printed_plain a b P Q r why f p = record {
    honest = p.same.was_honest;
    each = λ honest world h. written_on (Q world) IsPlain r (λ no. no) why (on_ok_weaker r (f world) (p.each honest world h));
  }

  -- a call that only reads, and may report what is wrong
  pub printed_reads : (a b : S) (P Q : World → Type 0) (r : Result ⊤ TaskFault) → ((world : World) → P world → Q world) → Reads g a b (λ world. IfWritten r (P world))
      → From g a b (λ world. IfWritten r (Q world))
  printed_reads a b P Q r f p = record { honest = p.same.was_honest; each = λ honest world h. written_so (P world) (Q world) r (f world) (p.each honest world h) }

  -- a call that never reports, by what it does and by what it writes
  pub printed_from : (a b : S) (D P Q : World → Type 0) (F : World → TaskFault → Type 0) (r : Result ⊤ TaskFault) → ((world : World) → F world fault.Reported → ⊥) → ((world : World) → P world → Q world)
      → From g a b (λ world. MatchResult r (λ _. D world) (F world)) → From g a b (λ world. OnOk r (P world)) → From g a b (λ world. IfWritten r (Q world))
  printed_from a b D P Q F r never f d p = record {
    honest = p.honest;
    each = λ honest world h.
        written_on (Q world) (F world) r (never world) (err_of (D world) (F world) r (d.each honest world h)) (on_ok_weaker r (f world) (p.each honest world h));
  }

-- ---- lines

-- one more line
pub line_more : {A : Type 0} (f : A → List ℕ) (rows : List A) (i : ℕ) (row : A) (old new : List ℕ) → i < length rows → row ≡ get_or rows i row → old ≡ flat_map f (take i rows) → new ≡ old ++ f row
    → new ≡ flat_map f (take (i + 1) rows)
line_more f rows i row old new within is before more =
    let taken : take (i + 1) rows ≡ take i rows ++ row ∷ [] = take_more rows i row within ∙ ap (λ r. take i rows ++ r ∷ []) (sym is) in
    more ∙ ap (λ l. l ++ f row) before
    ∙ sym (ap (flat_map f) taken ∙ flat_map-append f (take i rows) (row ∷ []) ∙ ap (λ l. flat_map f (take i rows) ++ l) (append-nil (f row)))

-- ---- objects

-- the object is in the repository
abbrev IsIn : List ℕ → Object → Type 0
IsIn repo o = bytes_eq o.repo repo ≡ true

by_name : (repo : List ℕ) (a b : Object) → IsIn repo a → IsIn repo b → IsNotAfter a b → is_gt (slice_cmp nat_cmp a.name b.name) ≡ false
by_name repo a b p q up =
    let one = (bytes_eq-Decides a.repo repo).0 p ∙ sym ((bytes_eq-Decides b.repo repo).0 q) in
    let tied = ap (slice_cmp nat_cmp a.repo) (sym one) ∙ tied_itself nat_list_cmp_total a.repo in
    subst (λ (o : Ordering). is_gt (ordering_then o (slice_cmp nat_cmp a.name b.name)) ≡ false) tied up

names_after : (repo : List ℕ) (a : Object) (os : List Object) → IsIn repo a → AllByRecursion (IsIn repo) os → AllByRecursion (IsNotAfter a) os
    → AllByRecursion (NotAfter size_cmp size_total (object_size a)) (map object_size os)
names_after repo a [] p all up = tt
names_after repo a (o ∷ os) p all up = (by_name repo a o p all.0 up.0, names_after repo a os p all.1 up.1)

names_rise : (repo : List ℕ) (os : List Object) → AllByRecursion (IsIn repo) os → AllPairs IsNotAfter os → IsAscending (NotAfter size_cmp size_total) (map object_size os)
names_rise repo [] all up = tt
names_rise repo (o ∷ os) all up = (
  names_after repo o os all.0 all.1 (recursion_from_All (IsNotAfter o) os (λ j d within. up 0 (suc j) d (omega arith) (omega (arith, within)))),
  names_rise repo os all.1 (λ i j d below within. up (suc i) (suc j) d (omega (arith, below)) (omega (arith, within))),
)

-- the line of an object, by its row
abbrev pub row_line : UploadRow → List ℕ
row_line row = line (object_line row.oid row.size)

module _ {S : Type 0} (g : Ghosts S) (s : S) where
  lines_are : (rows : List UploadRow) (os : List Object) → AllZip (IsRowOf g s) rows os → flat_map row_line rows ≡ object_lines (map object_size os)
  lines_are [] [] all = refl
  lines_are [] (o ∷ os) all = absurd all
  lines_are (r ∷ rows) [] all = absurd all
  lines_are (r ∷ rows) (o ∷ os) all = ap₂ (λ l rest. l ++ rest) (ap₂ (λ name size. line (object_line name size)) all.0.name all.0.size) (lines_are rows os all.1)

  -- the lines of the rows that are listed are those of the objects
  pub objects_printed : (world : World) (repo : List ℕ) (rows : List UploadRow) → IsWorld world → Lists g world s (Some repo) rows → flat_map row_line rows ≡ object_lines (objects_of repo world)
  objects_printed world repo rows laws found =
      let own = filter (λ o. bytes_eq o.repo repo) world.objects in
      let back = IsPermutation-sym found.objects own found.same in
      let all = recursion_from_All (IsIn repo) found.objects (All-permutation (IsIn repo) own found.objects back (All-from_recursion (IsIn repo) own (each_passes (λ o. bytes_eq o.repo repo) world.objects))) in
      lines_are rows found.objects found.each
      ∙ ap object_lines (objects_in_order world repo (map object_size found.objects) laws (IsPermutation-map object_size own found.objects back) (names_rise repo found.objects all found.rise))

-- ---- tokens

-- as many tokens are removed as had expired
pub pruned_count : (world kept : World) (now n : ℕ) → IsStep world (prunes now (Some n)) kept → n ≡ expired_count now world
pruned_count world kept now n step = at step.1
  where
    at : Reports (Some n) (prune_outcome world now) world kept → n ≡ expired_count now world
    at (by_success told is) = same_Some n (expired_count now world) told
    at (by_fault told is) = absurd (none-some n (sym told))
