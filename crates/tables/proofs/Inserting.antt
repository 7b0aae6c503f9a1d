-- The effect of the statement that adds an upload.
use Rattle.tables.proofs.Prelude.{◌≡◌, ◌≢◌, ℕ, ℤ, pos, ◌<ℤ◌, true, List, [], ◌∷◌, map, Ok, Err, Result, IfOk, IsTrue, refl, sym, ap, subst, ◌∙◌, AllByRecursion, Null, Int, Term, lit, col, Insert, Values, State, Executes, ExecutesInside, Error, put_row, next_rowid, next_key, NewUpload, Schema, HasWhole, uploads_at, Upload, Part, repos, tokens, uploads, chunks, locks, place_of, tree_of, encode, decode, rows_in, upload_row, upload_in, StayBut, IsKept, tables_in, asked_upload, IsTypedBy, keys_rise, next_is, cast_null, cast_int}
use Rattle.sqlite.specs.Order.{Row}
use Rattle.sqlite.specs.Table.{Table}
use Rattle.sqlite_tied.specs.Compute.{everything}
use Rattle.sqlite_trees.specs.Tree.{Trees}
use Rattle.sqlite_rules.specs.Edit.{at_least}
use Rattle.sqlite_rules.specs.declared.error.Rowids.TheVariants.{Above}
use Rattle.tables.specs.Layout.{version_of}
use Rattle.tables.specs.Rows.{meta, retired, tables_under, AreTyped}
use Rattle.tables.specs.Statements.{with_upload}
use Rattle.tables.specs.Inserting.{insert_text, insert_params, IsInserted}
use Rattle.tables.proofs.Meanings.{IsCommand, has_meaning}
use Rattle.tables.proofs.Parts.{whole_of, each, alone, counters, lonely, counters_apart, tree_is, kept_under, typed_at, typed_after, tables_after}
use Rattle.typed_rows.proofs.Counted.{inserts_counted, given_above, appended_above}

-- ---- the table that counts the ids is none of the tables

module _ (schema : Schema) (whole : HasWhole schema) (mid new : Trees) (rest : StayBut schema (counters schema whole).tree mid new) where
  stays : (p : Part) → new (tree_of schema p) ≡ mid (tree_of schema p)
  stays p = let here = tree_is (version_of whole.layout) p (tree_of schema p) in
      subst (λ n. new n ≡ mid n) here (each schema whole (λ (t : Table). t.tree ≢ (counters schema whole).tree → new t.tree ≡ mid t.tree) rest p (λ e. counters_apart schema whole p (sym here ∙ e)))

  pub still_typed : AreTyped schema mid → AreTyped schema new
  unfolding AreTyped
  still_typed typed p = subst (λ rows. IsTypedBy (encode p) (decode p) rows) (sym (stays p)) (typed p)

  same_rows : (p : Part) → rows_in p schema new ≡ rows_in p schema mid
  same_rows p = ap (map (decode p)) (stays p)

  pub same_tables : tables_under schema new ≡ tables_under schema mid
  unfolding tables_under
  same_tables = λ i. record { meta = same_rows meta i; repos = same_rows repos i; tokens = same_rows tokens i; uploads = same_rows uploads i; chunks = same_rows chunks i; locks = same_rows locks i; retired = same_rows retired i; schema = schema }

-- ---- the statement

abbrev upload_terms : List Term
upload_terms = lit Null ∷ lit Null ∷ col 0 0 ∷ col 0 1 ∷ col 0 2 ∷ lit (Int (pos 0)) ∷ []

insert_is : (schema : Schema) → HasWhole schema → IsCommand schema insert_text (Insert (place_of schema uploads) (Values upload_terms 6))
unfolding everything
insert_is schema whole = has_meaning schema whole uploads _ _ (refl, (refl, refl, refl))

abbrev id_of : Upload → ℤ
id_of u = u.id

inserted : (old new : State) (u : NewUpload) (count : ℕ) → IsKept old.now → old.in_transaction ≡ true → Executes insert_text (insert_params u) old new (Ok count) → IsInserted u old new
unfolding with_upload tables_under
inserted old new u count kept inside h =
    let schema = old.now.schema in
    let whole = (whole_of old.now kept) in
    let tree = tree_of schema uploads in
    let it = inserts_counted insert_text (insert_params u) old new schema refl (place_of schema uploads) (uploads_at tree) (counters schema whole) (whole.parts uploads).found whole.counts.found refl (insert_is schema whole).plain (alone schema whole uploads) (lonely schema whole) upload_terms 6 (insert_is schema whole).is count h in
    let at : ℤ → Upload = asked_upload u in
    let db = old.now.trees in
    let typed = typed_at uploads schema db kept.typed in
    let row : it.mid tree ≡ put_row (upload_row (at (at_least (Above it.last) (next_rowid (db tree))))) (db tree) = it.applies.rows ∙ rw (cast_null, cast_int, cast_int) in
    let last = appended_above id_of upload_row upload_in (λ _. refl) (λ _. refl) (db tree) (it.mid tree) it.last at (λ _. refl) typed row in
    let id : new.last_rowid ≡ at_least (Above it.last) (next_key id_of (map upload_in (db tree))) =
    it.newest ∙ rw cast_null (ap (at_least (Above it.last)) (next_is id_of upload_row upload_in (λ _. refl) (λ _. refl) (db tree) typed)) in
    record {
      above = subst (λ i. AllByRecursion (λ (x : Upload). x.id <ℤ i) (map upload_in (db tree))) (sym id) (given_above id_of (map upload_in (db tree)) it.last (keys_rise id_of upload_row upload_in (λ _. refl) (λ _. refl) (db tree) typed));
      step = record {
        was_open = it.shown.was_open;
        is_open = it.shown.is_open;
        kept = kept_under new.now schema it.schema_is whole (still_typed schema whole it.mid new.now.trees it.rest (typed_after schema whole uploads db it.mid it.applies.tables kept.typed last.typed)) it.sound;
        tables = ap (λ s. tables_under s new.now.trees) it.schema_is ∙ same_tables schema whole it.mid new.now.trees it.rest ∙ tables_after schema whole uploads db it.mid it.applies.tables ∙ ap (λ us. record (tables_in old) { uploads = us }) last.is
            ∙ ap (λ i. with_upload (at i) (tables_in old)) (sym id);
        inside = it.shown.mode ∙ inside;
      };
    }

pub inserted_inside : (old new : State) (u : NewUpload) (params : Row) (r : Result ℕ Error) → (IsTrue old.is_open → IsKept old.now) → old.in_transaction ≡ true → ExecutesInside 0 insert_text params old new r → params ≡ insert_params u
    → IfOk r (λ _. IsInserted u old new)
inserted_inside old new u params (Ok count) when_open inside h given = inserted old new u count (when_open h.1.was_open) inside (subst (λ p. Executes insert_text p old new (Ok count)) given h.0)
inserted_inside old new u params (Err e) when_open inside h given = tt
