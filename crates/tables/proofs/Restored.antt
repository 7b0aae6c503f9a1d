-- The effect of the statement that adds an object under a given id.
use Rattle.tables.proofs.Prelude.{◌≡◌, ℕ, ℤ, pos, Bool, true, false, cond, not, ◌&&◌, ◌||◌, int_eq, is_eq, is_some, find, List, [], ◌∷◌, map, Some, Ok, Err, Result, IfOk, IsTrue, refl, sym, ap, subst, ◌∙◌, list_any, Null, Int, Text, repo_text, cast_row, with_rowid, value_cmp, value_cmp-Int, Term, lit, col, Insert, Values, State, Executes, ExecutesInside, Error, put_row, rowid, IsTable, NewUpload, Schema, HasWhole, uploads_at, Upload, uploads, is_upload, place_of, tree_of, upload_row, upload_in, IsKept, tables_in, IsTypedBy, retyped, cast_null, cast_int}
use Rattle.sqlite.specs.Order.{Row}
use Rattle.sqlite_tied.specs.Compute.{everything}
use Rattle.sqlite_rules.specs.Edit.{is_taken}
use Rattle.sqlite_rules.specs.declared.error.Rowids.TheVariants.{Above}
use Rattle.sqlite_keyed.specs.Keyed.{insert_by}
use Rattle.sqlite_typed.proofs.RowLemmas.{puts-map}
use Rattle.sqlite_trees.proofs.TreeLemmas.{IsTable-put_row}
use Rattle.tables.specs.Rows.{tables_under}
use Rattle.tables.specs.Restoring.{object_text, object_params, restored_upload, with_upload_at, IsRestored}
use Rattle.tables.proofs.Meanings.{IsCommand, has_meaning}
use Rattle.tables.proofs.Parts.{whole_of, alone, counters, lonely, kept_under, typed_at, typed_after, tables_after}
use Rattle.tables.proofs.Inserting.{still_typed, same_tables}
use Rattle.typed_rows.proofs.Counted.{inserts_counted}

-- ---- a row with a given rowid

abbrev id_of : Upload → ℤ
id_of u = u.id

record IsPlaced (rows after : List Row) (u : Upload) : Type 0 where
  typed : IsTypedBy upload_row upload_in after
  is : map upload_in after ≡ insert_by id_of (map upload_in rows) u

placed : (rows after : List Row) (u : Upload) → IsTypedBy upload_row upload_in rows → after ≡ put_row (upload_row u) rows → IsPlaced rows after u
placed rows after u typed is =
    let xs = map upload_in rows in
    let all : after ≡ map upload_row (insert_by id_of xs u) = is ∙ ap (put_row (upload_row u)) typed.same ∙ puts-map id_of upload_row (λ _. refl) (u ∷ []) xs in
    let decoded = retyped id_of upload_row upload_in (λ _. refl) (λ _. refl) (insert_by id_of xs u) after all in
    record { typed = record { rise = subst IsTable (sym is) (IsTable-put_row (upload_row u) rows typed.rise); same = all ∙ ap (map upload_row) (sym decoded) }; is = decoded }

-- a row has this rowid
abbrev is_taken_at : ℤ → List Row → Bool
is_taken_at id = list_any (λ r. is_eq (value_cmp (rowid r) (Int id)))

taken_is : (id : ℤ) (xs : List Upload) → is_taken_at id (map upload_row xs) ≡ is_some (find (is_upload id) xs)
taken_is id [] = refl
taken_is id (x ∷ xs) =
    rw (value_cmp-Int, taken_is id xs)
    (elim (int_eq x.id id) as (λ b. (b || is_some (find (is_upload id) xs)) ≡ is_some (cond b (Some x) (find (is_upload id) xs))) [ true ↦ refl | false ↦ refl ])

not_taken : (b : Bool) → (not b && true) ≡ true → b ≡ false
not_taken true fresh = sym fresh
not_taken false fresh = refl

-- ---- the statement

abbrev object_terms : List Term
object_terms = col 0 0 ∷ lit Null ∷ col 0 1 ∷ col 0 2 ∷ col 0 3 ∷ lit (Int (pos 1)) ∷ []

object_is : (schema : Schema) → HasWhole schema → IsCommand schema object_text (Insert (place_of schema uploads) (Values object_terms 6))
unfolding everything
object_is schema whole = has_meaning schema whole uploads _ _ (refl, (refl, refl, refl))

cast_object : (u : NewUpload) (id : ℤ) (tree : ℕ) → cast_row (uploads_at tree) (Int id ∷ Null ∷ Text (repo_text u.repo.now) ∷ Text u.oid.now ∷ Int (pos u.size) ∷ Int (pos 1) ∷ []) ≡ upload_row (restored_upload u id)
cast_object u id tree = λ i. cast_int id i ∷ cast_null i ∷ Text (repo_text u.repo.now) ∷ Text u.oid.now ∷ cast_int (pos u.size) i ∷ cast_int (pos 1) i ∷ []

restored : (old new : State) (u : NewUpload) (id : ℤ) (count : ℕ) → IsKept old.now → old.in_transaction ≡ true → Executes object_text (object_params u id) old new (Ok count) → IsRestored u id old new
unfolding with_upload_at tables_under
restored old new u id count kept inside h =
    let schema = old.now.schema in
    let whole = (whole_of old.now kept) in
    let tree = tree_of schema uploads in
    let db = old.now.trees in
    let it = inserts_counted object_text (object_params u id) old new schema refl (place_of schema uploads) (uploads_at tree) (counters schema whole) (whole.parts uploads).found whole.counts.found refl (object_is schema whole).plain (alone schema whole uploads) (lonely schema whole) object_terms 6 (object_is schema whole).is count h in
    let typed = typed_at uploads schema db kept.typed in
    let row : it.mid tree ≡ put_row (upload_row (restored_upload u id)) (db tree) = it.applies.rows ∙ ap (λ r. put_row (with_rowid (Above it.last) (db tree) r) (db tree)) (cast_object u id tree) in
    let fresh : (not (is_taken_at id (db tree)) && true) ≡ true = ap (λ r. not (is_taken (db tree) (with_rowid (Above it.last) (db tree) r)) && true) (sym (cast_object u id tree)) ∙ it.applies.fresh in
    let last = placed (db tree) (it.mid tree) (restored_upload u id) typed row in
    record {
      unused = sym (taken_is id (map upload_in (db tree))) ∙ sym (ap (is_taken_at id) typed.same) ∙ not_taken (is_taken_at id (db tree)) fresh;
      step = record {
        was_open = it.shown.was_open;
        is_open = it.shown.is_open;
        kept = kept_under new.now schema it.schema_is whole (still_typed schema whole it.mid new.now.trees it.rest (typed_after schema whole uploads db it.mid it.applies.tables kept.typed last.typed)) it.sound;
        tables = ap (λ s. tables_under s new.now.trees) it.schema_is ∙ same_tables schema whole it.mid new.now.trees it.rest ∙ tables_after schema whole uploads db it.mid it.applies.tables ∙ ap (λ us. record (tables_in old) { uploads = us }) last.is;
        inside = it.shown.mode ∙ inside;
      };
    }

pub restored_inside : (old new : State) (u : NewUpload) (id : ℤ) (params : Row) (r : Result ℕ Error) → (IsTrue old.is_open → IsKept old.now) → old.in_transaction ≡ true → ExecutesInside 0 object_text params old new r → params ≡ object_params u id
    → IfOk r (λ _. IsRestored u id old new)
restored_inside old new u id params (Ok count) when_open inside h given = restored old new u id count (when_open h.1.was_open) inside (subst (λ p. Executes object_text p old new (Ok count)) given h.0)
restored_inside old new u id params (Err e) when_open inside h given = tt
