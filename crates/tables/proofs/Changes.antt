-- The effect of each writing statement on the typed rows.
use Rattle.tables.proofs.Prelude.{◌≡◌, ◌≤◌, ℕ, ℤ, pos, Bool, true, false, cond, List, [], ◌∷◌, ◌++◌, length, drop, map, filter, Ok, Err, Result, IfOk, IsTrue, refl, sym, ap, subst, ◌∙◌, list_all, int_eq, put_row, rowid, eval_all, holds, Eq, Le, Ge, next_rowid, id_in, without_all, put_all, numbered, Delete, Update, cast_row, IsSound, State, Shows, Executes, ExecutesInside, Error, IsKeyedBy, next_key, update_where, delete_where, not, ◌<ℤ◌, if◌then◌else◌, Term, col, ascending-filter, ascending-map, ascending_weaker, at_texts, at_ints, then_term, last_term, Schema, Repo, Token, Chunk, Lock, Tables, Part, repos, tokens, uploads, chunks, locks, table_for, place_of, tree_of, RowOf, encode, decode, rows_of, with_rows, rows_in, IsTyped, StayBut, Write, add_lock, add_repo, set_made, remove_lock, add_token, remove_expired, add_chunk, remove_row, remove_chunks, remove_chunks_from, set_done, add_used, set_used, write_text, write_params, has_expired, is_upload, is_of, is_of_from, IsKept, Steps, IsWritten, tables_in, plain_query, is_given, appended, keys_rise, typed_by, retyped, inserts, cast_null, cast_int}
use Rattle.sqlite.specs.Order.{Row}
use Rattle.sqlite_rules.specs.Calls.{ids_of}
use Rattle.sqlite_rules.specs.declared.error.Rowids.TheVariants.{Given}
use Rattle.sqlite_keyed.proofs.RuleLemmas.{at_most_one}
use Rattle.tables.specs.Layout.{current, version_of}
use Rattle.tables.specs.Rows.{Retired, retired, id_of, tables_under}
use Rattle.tables.specs.Statements.{with_lock, with_repo, with_made_at, without_lock, with_token, without_expired, with_chunk, without_row, without_chunks, without_chunks_from, with_done, with_used_row, with_used_at, with_counts, with_retired, add_retired, add_counts, has_id, writing}
use Rattle.tables.proofs.Meanings.{IsCommand, add_lock_is, lock_terms, add_repo_is, repo_terms, set_made_is, remove_lock_is, add_token_is, token_terms, remove_expired_is, add_chunk_is, chunk_terms, remove_row_is, remove_chunks_is, remove_chunks_from_is, set_done_is, add_used_is, used_terms, set_used_is, add_retired_is, retired_terms, add_counts_is, count_terms}
use Rattle.typed_rows.proofs.Writes.{removes, replaces, how_many, gone, changed}
use Rattle.tables.proofs.Parts.{whole_of, keyed, back, part, tree_is, alone, alone_at, kept_under, own, rows_are, typed_at, typed_after, tables_after}

module _ {X : Type 0} (key : X → ℤ) where
  -- at most one row has a key
  one_at : (id : ℤ) (xs : List X) → IsKeyedBy key xs → length (filter (λ x. int_eq (key x) id) xs) ≤ 1
  one_at id xs up = at_most_one key id (λ x. int_eq (key x) id) (λ _ h. h) xs up

  -- a change that leaves the keys leaves their order
  updated_rise : (p : X → Bool) (f : X → X) → ((x : X) → key (f x) ≡ key x) → (xs : List X) → IsKeyedBy key xs → IsKeyedBy key (update_where p f xs)
  updated_rise p f keeps xs up =
      let h : X → X = λ x. if p x then f x else x in
      let same : (x : X) → key (h x) ≡ key x = λ x. elim (p x) as (λ b. key (if b then f x else x) ≡ key x) [ true ↦ keeps x | false ↦ refl ] in
      ascending-map (λ a b. key a <ℤ key b) h xs (ascending_weaker _ (λ a b. key (h a) <ℤ key (h b)) (λ a b below. rw (same a, same b) below) xs up)

module _ (old new : State) (kept : IsKept old.now) (inside : old.in_transaction ≡ true) (p : Part) where
  abbrev schema : Schema
  schema = old.now.schema

  abbrev tree : ℕ
  tree = tree_of old.now.schema p

  -- one table changed, and the transaction goes on
  stepped : new.now.schema ≡ schema → IsSound schema new.now.trees → StayBut schema tree old.now.trees new.now.trees
      → Shows old new new.now (cond old.in_transaction old.committed new.now) old.in_transaction → IsTyped p schema new.now.trees
      → (f : Tables → Tables) → with_rows p (rows_in p schema new.now.trees) (tables_in old) ≡ f (tables_in old) → Steps f old new
  stepped same sound stay shown typed f is = record {
    was_open = shown.was_open;
    is_open = shown.is_open;
    kept = kept_under new.now schema same (whole_of old.now kept) (typed_after schema (whole_of old.now kept) p old.now.trees new.now.trees stay kept.typed typed) sound;
    tables = ap (λ s. tables_under s new.now.trees) same ∙ tables_after schema (whole_of old.now kept) p old.now.trees new.now.trees stay ∙ is;
    inside = shown.mode ∙ inside;
  }

  -- a row was added under the next rowid
  added : new.now.schema ≡ schema → IsSound schema new.now.trees → StayBut schema (part schema (whole_of old.now kept) p).tree old.now.trees new.now.trees
      → Shows old new new.now (cond old.in_transaction old.committed new.now) old.in_transaction → (at : ℤ → RowOf p) → ((n : ℤ) → id_of p (at n) ≡ n)
      → new.now.trees (part schema (whole_of old.now kept) p).tree ≡ put_row (encode p (at (next_rowid (old.now.trees (part schema (whole_of old.now kept) p).tree)))) (old.now.trees (part schema (whole_of old.now kept) p).tree)
      → Steps (λ t. with_rows p (rows_of p t ++ at (next_key (id_of p) (rows_of p t)) ∷ []) t) old new
  added same sound stay shown at keyed_at row =
      let here = tree_is (version_of (whole_of old.now kept).layout) p tree in
      let put = subst (λ n. new.now.trees n ≡ put_row (encode p (at (next_rowid (old.now.trees n)))) (old.now.trees n)) here row in
      let last = appended (id_of p) (encode p) (decode p) (keyed p) (back p) (old.now.trees tree) (new.now.trees tree) at keyed_at (typed_at p schema old.now.trees kept.typed) put in
      stepped same sound (subst (λ n. StayBut schema n old.now.trees new.now.trees) here stay) shown last.typed (λ t. with_rows p (rows_of p t ++ at (next_key (id_of p) (rows_of p t)) ∷ []) t)
      (ap (λ xs. with_rows p xs (tables_in old)) (last.is ∙ ap (λ xs. xs ++ at (next_key (id_of p) xs) ∷ []) (sym (rows_are p schema old.now.trees))))

  -- the rows that pass the test were removed
  dropped : (sql : List ℕ) (params : Row) (tests : List Term) → IsCommand schema sql (Delete (place_of schema p) (record { lets = []; body = plain_query tests (col 1 0 ∷ []) tree }))
      → (passes : RowOf p → Bool) → ((x : RowOf p) → list_all (holds (params ∷ encode p x ∷ [])) tests ≡ passes x) → (count : ℕ) → Executes sql params old new (Ok count)
      → Steps (λ t. with_rows p (delete_where passes (rows_of p t)) t) old new × (count ≡ length (filter passes (rows_in p schema old.now.trees)))
  dropped sql params tests m passes tested count h =
      let db = old.now.trees in
      let xs = rows_in p schema db in
      let rows = typed_at p schema db kept.typed in
      let it = removes sql params old new schema refl (place_of schema p) (part schema (whole_of old.now kept) p) ((whole_of old.now kept).parts p).found m.plain (alone_at schema (whole_of old.now kept) p) _ m.is count h in
      let here = tree_is (version_of (whole_of old.now kept).layout) p tree in
      let row : new.now.trees tree ≡ map (encode p) (delete_where passes xs) =
      subst (λ n. new.now.trees n ≡ without_all (db n) (ids_of it.0)) here it.2.applies.rows ∙ gone (id_of p) (encode p) (decode p) (keyed p) (back p) params db tests tree rows (own schema (whole_of old.now kept) p db) passes tested it.0 it.1 in
      let up = ascending-filter _ (λ x. not (passes x)) xs (keys_rise (id_of p) (encode p) (decode p) (keyed p) (back p) (db tree) rows) in
      let typed = typed_by (id_of p) (encode p) (decode p) (keyed p) (back p) (new.now.trees tree) (delete_where passes xs) up row in
      let left = retyped (id_of p) (encode p) (decode p) (keyed p) (back p) (delete_where passes xs) (new.now.trees tree) row in (
        stepped it.2.schema_is it.2.sound (subst (λ n. StayBut schema n db new.now.trees) here it.2.applies.tables) it.2.shown typed (λ t. with_rows p (delete_where passes (rows_of p t)) t)
            (ap (λ ys. with_rows p ys (tables_in old)) (left ∙ ap (delete_where passes) (sym (rows_are p schema db)))),
        it.3 ∙ how_many (id_of p) (encode p) (decode p) (keyed p) (back p) params db tests tree rows (own schema (whole_of old.now kept) p db) passes tested it.0 it.1,
      )

  -- the row with this rowid was changed
  updated : (sql : List ℕ) (params : Row) (columns : List Term) → IsCommand schema sql (Update (place_of schema p) (record { lets = []; body = plain_query (is_given 0 0 ∷ []) columns tree })) → (id : ℤ)
      → ((x : RowOf p) → list_all (holds (params ∷ encode p x ∷ [])) (is_given 0 0 ∷ []) ≡ int_eq (id_of p x) id) → (f : RowOf p → RowOf p) → ((x : RowOf p) → id_of p (f x) ≡ id_of p x)
      → ((x : RowOf p) → id_in (rowid (eval_all columns (params ∷ encode p x ∷ []))) ≡ id_of p x) → ((x : RowOf p) → cast_row (part schema (whole_of old.now kept) p) (drop 1 (eval_all columns (params ∷ encode p x ∷ []))) ≡ encode p (f x))
      → (count : ℕ) → Executes sql params old new (Ok count) → Steps (λ t. with_rows p (update_where (λ x. int_eq (id_of p x) id) f (rows_of p t)) t) old new
  updated sql params columns m id tested f keeps named made count h =
      let db = old.now.trees in
      let xs = rows_in p schema db in
      let passes : RowOf p → Bool = λ x. int_eq (id_of p x) id in
      let rows = typed_at p schema db kept.typed in
      let rises = keys_rise (id_of p) (encode p) (decode p) (keyed p) (back p) (db tree) rows in
      let it = replaces sql params old new schema refl (place_of schema p) (part schema (whole_of old.now kept) p) ((whole_of old.now kept).parts p).found m.plain (alone_at schema (whole_of old.now kept) p) _ m.is count h in
      let here = tree_is (version_of (whole_of old.now kept).layout) p tree in
      let row : new.now.trees tree ≡ map (encode p) (update_where passes f xs) =
      subst (λ n. new.now.trees n ≡ put_all (without_all (db n) (ids_of it.0)) (numbered Given (without_all (db n) (ids_of it.0)) (map (λ s. cast_row (part schema (whole_of old.now kept) p) (drop 1 s)) it.0))) here it.2.applies.rows ∙ changed (id_of p) (encode p) (decode p) (keyed p) (back p) params db (is_given 0 0 ∷ []) tree rows (own schema (whole_of old.now kept) p db) passes tested (part schema (whole_of old.now kept) p) columns f keeps named made (one_at (id_of p) id xs rises) it.0 it.1 in
      let typed = typed_by (id_of p) (encode p) (decode p) (keyed p) (back p) (new.now.trees tree) (update_where passes f xs) (updated_rise (id_of p) passes f keeps xs rises) row in
      let left = retyped (id_of p) (encode p) (decode p) (keyed p) (back p) (update_where passes f xs) (new.now.trees tree) row in
      stepped it.2.schema_is it.2.sound (subst (λ n. StayBut schema n db new.now.trees) here it.2.applies.tables) it.2.shown typed (λ t. with_rows p (update_where passes f (rows_of p t)) t)
      (ap (λ ys. with_rows p ys (tables_in old)) (left ∙ ap (update_where passes f) (sym (rows_are p schema db))))

module _ (old new : State) (count : ℕ) (kept : IsKept old.now) (inside : old.in_transaction ≡ true) where
  lock_added : (l : Lock) → Executes (write_text (add_lock l)) (write_params (add_lock l)) old new (Ok count) → Steps (with_lock l) old new
  unfolding with_lock writing
  lock_added l h =
      let m = add_lock_is old.now.schema (whole_of old.now kept) l in
      let it = inserts (write_text (add_lock l)) (write_params (add_lock l)) old new old.now.schema refl (place_of old.now.schema locks) (table_for current locks (tree_of old.now.schema locks)) ((whole_of old.now kept).parts locks).found m.plain lock_terms 7 m.is refl (alone old.now.schema (whole_of old.now kept) locks) count h in
      added old new kept inside locks it.schema_is it.sound it.applies.tables it.shown (λ n. record l { rowid = n }) (λ _. refl) (it.applies.rows ∙ rw (cast_null, cast_int, cast_int))

  repo_added : (name : List ℕ) (n : ℤ) → Executes (write_text (add_repo name n)) (write_params (add_repo name n)) old new (Ok count) → Steps (with_repo name n) old new
  unfolding with_repo writing
  repo_added name n h =
      let m = add_repo_is old.now.schema (whole_of old.now kept) name n in
      let it = inserts (write_text (add_repo name n)) (write_params (add_repo name n)) old new old.now.schema refl (place_of old.now.schema repos) (table_for current repos (tree_of old.now.schema repos)) ((whole_of old.now kept).parts repos).found m.plain repo_terms 4 m.is refl (alone old.now.schema (whole_of old.now kept) repos) count h in
      let at : ℤ → Repo = λ id. record { rowid = id; name = name; made = n; used = pos 0 } in
      added old new kept inside repos it.schema_is it.sound it.applies.tables it.shown at (λ _. refl) (it.applies.rows ∙ rw (cast_null, cast_int, cast_int))

  token_added : (t : Token) → Executes (write_text (add_token t)) (write_params (add_token t)) old new (Ok count) → Steps (with_token t) old new
  unfolding with_token writing
  token_added t h =
      let m = add_token_is old.now.schema (whole_of old.now kept) t in
      let it = inserts (write_text (add_token t)) (write_params (add_token t)) old new old.now.schema refl (place_of old.now.schema tokens) (table_for current tokens (tree_of old.now.schema tokens)) ((whole_of old.now kept).parts tokens).found m.plain token_terms 6 m.is refl (alone old.now.schema (whole_of old.now kept) tokens) count h in
      added old new kept inside tokens it.schema_is it.sound it.applies.tables it.shown (λ n. record t { rowid = n }) (λ _. refl) (it.applies.rows ∙ rw (cast_null, cast_int, cast_int))

  lock_removed : (repo : List ℕ) (id : ℕ) → Executes (write_text (remove_lock repo id)) (write_params (remove_lock repo id)) old new (Ok count)
      → Steps (without_lock repo (pos id)) old new × (count ≡ length (filter (has_id repo (pos id)) (rows_in locks old.now.schema old.now.trees)))
  unfolding without_lock writing
  lock_removed repo id h =
      dropped old new kept inside locks _ _ _ (remove_lock_is old.now.schema (whole_of old.now kept) repo id) (has_id repo (pos id)) (λ l. then_term (at_texts false Eq l.repo repo) (last_term (at_ints false Eq l.id (pos id)))) count h

  tokens_removed : (moment : ℤ) → Executes (write_text (remove_expired moment)) (write_params (remove_expired moment)) old new (Ok count)
      → Steps (without_expired moment) old new × (count ≡ length (filter (has_expired moment) (rows_in tokens old.now.schema old.now.trees)))
  unfolding without_expired writing
  tokens_removed moment h = dropped old new kept inside tokens _ _ _ (remove_expired_is old.now.schema (whole_of old.now kept) moment) (has_expired moment) (λ t. last_term (at_ints false Le t.expires moment)) count h

  made_set : (id n : ℤ) → Executes (write_text (set_made id n)) (write_params (set_made id n)) old new (Ok count) → Steps (with_made_at id n) old new
  unfolding with_made_at writing
  made_set id n h =
      updated old new kept inside repos _ _ _ (set_made_is old.now.schema (whole_of old.now kept) id n) id (λ r. last_term (at_ints false Eq r.rowid id)) (λ r. record r { made = n }) (λ _. refl) (λ _. refl) (λ r. rw (cast_int, cast_int, cast_int)) count h

  chunk_added : (c : Chunk) → Executes (write_text (add_chunk c)) (write_params (add_chunk c)) old new (Ok count) → Steps (with_chunk c) old new
  unfolding with_chunk writing
  chunk_added c h =
      let m = add_chunk_is old.now.schema (whole_of old.now kept) c in
      let it = inserts (write_text (add_chunk c)) (write_params (add_chunk c)) old new old.now.schema refl (place_of old.now.schema chunks) (table_for current chunks (tree_of old.now.schema chunks)) ((whole_of old.now kept).parts chunks).found m.plain chunk_terms 4 m.is refl (alone old.now.schema (whole_of old.now kept) chunks) count h in
      added old new kept inside chunks it.schema_is it.sound it.applies.tables it.shown (λ n. record c { rowid = n }) (λ _. refl) (it.applies.rows ∙ rw (cast_null, cast_int, cast_int))

  row_removed : (id : ℤ) → Executes (write_text (remove_row id)) (write_params (remove_row id)) old new (Ok count)
      → Steps (without_row id) old new × (count ≡ length (filter (is_upload id) (rows_in uploads old.now.schema old.now.trees)))
  unfolding without_row writing
  row_removed id h = dropped old new kept inside uploads _ _ _ (remove_row_is old.now.schema (whole_of old.now kept) id) (is_upload id) (λ u. last_term (at_ints false Eq u.id id)) count h

  chunks_removed : (upload : ℤ) → Executes (write_text (remove_chunks upload)) (write_params (remove_chunks upload)) old new (Ok count)
      → Steps (without_chunks upload) old new × (count ≡ length (filter (is_of upload) (rows_in chunks old.now.schema old.now.trees)))
  unfolding without_chunks writing
  chunks_removed upload h = dropped old new kept inside chunks _ _ _ (remove_chunks_is old.now.schema (whole_of old.now kept) upload) (is_of upload) (λ c. last_term (at_ints false Eq c.upload upload)) count h

  chunks_cut : (upload : ℤ) (n : ℕ) → Executes (write_text (remove_chunks_from upload n)) (write_params (remove_chunks_from upload n)) old new (Ok count)
      → Steps (without_chunks_from upload (pos n)) old new × (count ≡ length (filter (is_of_from upload (pos n)) (rows_in chunks old.now.schema old.now.trees)))
  unfolding without_chunks_from writing
  chunks_cut upload n h =
      dropped old new kept inside chunks _ _ _ (remove_chunks_from_is old.now.schema (whole_of old.now kept) upload n) (is_of_from upload (pos n)) (λ c. then_term (at_ints false Eq c.upload upload) (last_term (at_ints false Ge c.n (pos n)))) count h

  done_set : (id : ℤ) → Executes (write_text (set_done id)) (write_params (set_done id)) old new (Ok count) → Steps (with_done id) old new
  unfolding with_done writing
  done_set id h =
      updated old new kept inside uploads _ _ _ (set_done_is old.now.schema (whole_of old.now kept) id) id (λ u. last_term (at_ints false Eq u.id id)) (λ u. record u { done = pos 1 }) (λ _. refl) (λ _. refl) (λ u. rw (cast_int, cast_null, cast_int, cast_int)) count h

  used_added : (name : List ℕ) (n : ℤ) → Executes (write_text (add_used name n)) (write_params (add_used name n)) old new (Ok count) → Steps (with_used_row name n) old new
  unfolding with_used_row writing
  used_added name n h =
      let m = add_used_is old.now.schema (whole_of old.now kept) name n in
      let it = inserts (write_text (add_used name n)) (write_params (add_used name n)) old new old.now.schema refl (place_of old.now.schema repos) (table_for current repos (tree_of old.now.schema repos)) ((whole_of old.now kept).parts repos).found m.plain used_terms 4 m.is refl (alone old.now.schema (whole_of old.now kept) repos) count h in
      let at : ℤ → Repo = λ id. record { rowid = id; name = name; made = pos 0; used = n } in
      added old new kept inside repos it.schema_is it.sound it.applies.tables it.shown at (λ _. refl) (it.applies.rows ∙ rw (cast_null, cast_int, cast_int))

  used_set : (id n : ℤ) → Executes (write_text (set_used id n)) (write_params (set_used id n)) old new (Ok count) → Steps (with_used_at id n) old new
  unfolding with_used_at writing
  used_set id n h =
      updated old new kept inside repos _ _ _ (set_used_is old.now.schema (whole_of old.now kept) id n) id (λ r. last_term (at_ints false Eq r.rowid id)) (λ r. record r { used = n }) (λ _. refl) (λ _. refl) (λ r. rw (cast_int, cast_int, cast_int)) count h

  name_retired : (repo oid : List ℕ) → Executes (write_text (add_retired repo oid)) (write_params (add_retired repo oid)) old new (Ok count) → Steps (with_retired repo oid) old new
  unfolding with_retired writing
  name_retired repo oid h =
      let m = add_retired_is old.now.schema (whole_of old.now kept) repo oid in
      let it = inserts (write_text (add_retired repo oid)) (write_params (add_retired repo oid)) old new old.now.schema refl (place_of old.now.schema retired) (table_for current retired (tree_of old.now.schema retired)) ((whole_of old.now kept).parts retired).found m.plain retired_terms 3 m.is refl (alone old.now.schema (whole_of old.now kept) retired) count h in
      let at : ℤ → Retired = λ id. record { rowid = id; repo = repo; oid = oid } in
      added old new kept inside retired it.schema_is it.sound it.applies.tables it.shown at (λ _. refl) (it.applies.rows ∙ rw cast_null refl)

  counts_added : (name : List ℕ) (n k : ℤ) → Executes (write_text (add_counts name n k)) (write_params (add_counts name n k)) old new (Ok count) → Steps (with_counts name n k) old new
  unfolding with_counts writing
  counts_added name n k h =
      let m = add_counts_is old.now.schema (whole_of old.now kept) name n k in
      let it = inserts (write_text (add_counts name n k)) (write_params (add_counts name n k)) old new old.now.schema refl (place_of old.now.schema repos) (table_for current repos (tree_of old.now.schema repos)) ((whole_of old.now kept).parts repos).found m.plain count_terms 4 m.is refl (alone old.now.schema (whole_of old.now kept) repos) count h in
      let at : ℤ → Repo = λ id. record { rowid = id; name = name; made = n; used = k } in
      added old new kept inside repos it.schema_is it.sound it.applies.tables it.shown at (λ _. refl) (it.applies.rows ∙ rw (cast_null, cast_int, cast_int))

  pub written : (w : Write) → Executes (write_text w) (write_params w) old new (Ok count) → IsWritten w count old new
  unfolding writing tables_under
  written (add_lock l) h = record { step = lock_added l h; gone = tt }
  written (add_repo name n) h = record { step = repo_added name n h; gone = tt }
  written (set_made id n) h = record { step = made_set id n h; gone = tt }
  written (remove_lock repo id) h = let it = lock_removed repo id h in record { step = it.0; gone = it.1 }
  written (add_token t) h = record { step = token_added t h; gone = tt }
  written (remove_expired moment) h = let it = tokens_removed moment h in record { step = it.0; gone = it.1 }
  written (add_chunk c) h = record { step = chunk_added c h; gone = tt }
  written (remove_row id) h = let it = row_removed id h in record { step = it.0; gone = it.1 }
  written (remove_chunks upload) h = let it = chunks_removed upload h in record { step = it.0; gone = it.1 }
  written (remove_chunks_from upload n) h = let it = chunks_cut upload n h in record { step = it.0; gone = it.1 }
  written (set_done id) h = record { step = done_set id h; gone = tt }
  written (add_used name used) h = record { step = used_added name used h; gone = tt }
  written (set_used rowid used) h = record { step = used_set rowid used h; gone = tt }
  written (add_retired repo oid) h = record { step = name_retired repo oid h; gone = tt }
  written (add_counts name made used) h = record { step = counts_added name made used h; gone = tt }

pub written_inside : (old new : State) (w : Write) (sql : List ℕ) (params : Row) (r : Result ℕ Error) → (IsTrue old.is_open → IsKept old.now) → old.in_transaction ≡ true → sql ≡ write_text w → params ≡ write_params w
    → ExecutesInside 0 sql params old new r → IfOk r (λ count. IsWritten w count old new)
written_inside old new w sql params (Ok count) when_open inside text given h =
    written old new count (when_open h.1.was_open) inside w (subst (λ p. Executes (write_text w) p old new (Ok count)) given (subst (λ s. Executes s params old new (Ok count)) text h.0))
written_inside old new w sql params (Err e) when_open inside text given h = tt
