-- The result of each reading statement, on the typed rows.
use Rattle.tables.proofs.Prelude.{◌≡◌, ℕ, pos, Bool, false, List, [], ◌∷◌, map, filter, IsTrue, true, refl, sym, ap, subst, ◌∙◌, list_all, Term, eval_all, holds, Eq, Ge, understood, State, Shown, IsPlain, at_texts, at_ints, at_blobs, then_term, last_term, filter_all, Schema, HasWhole, Part, tree_of, RowOf, encode, decode, rows_in, lock_in, tables_of, Read, made_by, lock_at, lock_with_id, locks_in, locks_from, token, tokens_of, tokens_in, used_by, object, objects_in, objects, staged, chunk_at, read_text, read_params, answer, Answered, by_id, show_meta, show_made, show_lock, show_token, show_used, show_upload, show_bytes, is_named, is_at, is_from, has_digest, is_held_by, is_for, is_staged_with, is_object, is_object_in, is_complete, is_staged, is_chunk, IsKept, Steps, tables_in, shown_open, shown_same, query_of}
use Rattle.sqlite.specs.Order.{Row}
use Rattle.std.proofs.lemmas.List.{take-map}
use Rattle.sqlite_keyed.proofs.ListLemmas.{all_of}
use Rattle.tables.specs.Rows.{id_of, tables_under}
use Rattle.tables.specs.Rows as part
use Rattle.tables.specs.Layout.{Version}
use Rattle.tables.specs.Runs.{HasMeta}
use Rattle.tables.specs.Statements.{staged_with, has_id, is_in, meta_query_text, retired_as, retired_in, is_retired_as, is_retired_in, show_retired, reading, numbered, has_number, show_numbered, all_repos, all_locks, all_tokens, all_retired, all_uploads, chunk_keys, show_repo, show_repo_lock, show_repo_retired, show_chunk_key}
use Rattle.tables.proofs.Meanings.{IsQuery, meta_is, made_is, lock_at_is, lock_with_id_is, locks_in_is, locks_from_is, token_is, tokens_of_is, tokens_in_is, used_is, staged_with_is, object_is, objects_in_is, objects_is, staged_is, chunk_at_is, numbered_is, retired_as_is, retired_in_is, all_repos_is, all_locks_is, all_tokens_is, all_retired_is, all_uploads_is, chunk_keys_is}
use Rattle.tables.proofs.Parts.{whole_of, keyed, back, own, own_in, typed_at}
use Rattle.typed_rows.proofs.Selects.{selected}
use Rattle.tables.proofs.Selects.{sorted, named, by_names}

module _ (old new : State) (rows : List Row) (kept : IsKept old.now) where
  -- the rows of one table, in the order of their rowids
  part_read : (p : Part) (sql : List ℕ) (params : Row) (tests project : List Term) → IsQuery old.now.schema sql (query_of tests project (tree_of old.now.schema p)) → (passes : RowOf p → Bool)
      → ((x : RowOf p) → list_all (holds (params ∷ encode p x ∷ [])) tests ≡ passes x) → (show : RowOf p → Row) → ((x : RowOf p) → eval_all project (params ∷ encode p x ∷ []) ≡ show x)
      → Shown sql params old new rows → rows ≡ map show (filter passes (rows_in p old.now.schema old.now.trees))
  part_read p sql params tests project m passes tested show shows h =
      selected (id_of p) (encode p) (decode p) (keyed p) (back p) sql params old new old.now.schema refl m.plain m.unlisted _ _ (tree_of old.now.schema p) m.names m.command (typed_at p old.now.schema old.now.trees kept.typed) (own old.now.schema (whole_of old.now kept) p old.now.trees) passes tested show shows rows h

  -- all rows of one table
  whole_read : (p : Part) (sql : List ℕ) (params : Row) (project : List Term) → IsQuery old.now.schema sql (query_of [] project (tree_of old.now.schema p)) → (show : RowOf p → Row)
      → ((x : RowOf p) → eval_all project (params ∷ encode p x ∷ []) ≡ show x) → Shown sql params old new rows → rows ≡ map show (rows_in p old.now.schema old.now.trees)
  whole_read p sql params project m show shows h =
      part_read p sql params [] project m (λ _. true) (λ _. refl) show shows h
      ∙ ap (map show) (filter_all _ _ (all_of _ (λ _. refl) (rows_in p old.now.schema old.now.trees)))

  pub answers : (r : Read) → Shown (read_text r) (read_params r) old new rows → rows ≡ answer r (tables_in old)
  unfolding reading tables_under
  answers (made_by repo) h = part_read part.repos _ _ _ _ (made_is old.now.schema (whole_of old.now kept) repo) (is_named repo) (λ r. last_term (at_texts false Eq r.name repo)) show_made (λ _. refl) h
  answers (lock_at repo ref_name path) h =
      part_read part.locks _ _ _ _ (lock_at_is old.now.schema (whole_of old.now kept) repo ref_name path) (is_at repo ref_name path)
      (λ l. then_term (at_texts false Eq l.repo repo) (then_term (at_texts false Eq l.ref_name ref_name) (last_term (at_texts false Eq l.path path)))) show_lock (λ _. refl) h
  answers (lock_with_id repo id) h = part_read part.locks _ _ _ _ (lock_with_id_is old.now.schema (whole_of old.now kept) repo id) (has_id repo (pos id)) (λ l. then_term (at_texts false Eq l.repo repo) (last_term (at_ints false Eq l.id (pos id)))) show_lock (λ _. refl) h
  answers (locks_in repo) h =
      sorted _ old new rows kept _ _ _ (locks_in_is old.now.schema (whole_of old.now kept) repo) (is_in repo) (λ l. last_term (at_texts false Eq l.repo repo)) h
  answers (locks_from repo id) h =
      sorted _ old new rows kept _ _ _ (locks_from_is old.now.schema (whole_of old.now kept) repo id) (is_from repo (pos id)) (λ l. then_term (at_texts false Eq l.repo repo) (last_term (at_ints false Ge l.id (pos id)))) h
      ∙ take-map show_lock 64 (by_id (filter (is_from repo (pos id)) (map lock_in (old.now.trees (tree_of old.now.schema part.locks)))))
  answers (token digest) h = part_read part.tokens _ _ _ _ (token_is old.now.schema (whole_of old.now kept) digest) (has_digest digest) (λ t. last_term (at_blobs false Eq t.digest digest)) show_token (λ _. refl) h
  answers (tokens_of user repo) h = part_read part.tokens _ _ _ _ (tokens_of_is old.now.schema (whole_of old.now kept) user repo) (is_held_by user repo) (λ t. then_term (at_texts false Eq t.user user) (last_term (at_texts false Eq t.repo repo))) show_token (λ _. refl) h
  answers (tokens_in repo) h = part_read part.tokens _ _ _ _ (tokens_in_is old.now.schema (whole_of old.now kept) repo) (is_for repo) (λ t. last_term (at_texts false Eq t.repo repo)) show_token (λ _. refl) h
  answers (used_by repo) h = part_read part.repos _ _ _ _ (used_is old.now.schema (whole_of old.now kept) repo) (is_named repo) (λ r. last_term (at_texts false Eq r.name repo)) show_used (λ _. refl) h
  answers (staged_with id) h = part_read part.uploads _ _ _ _ (staged_with_is old.now.schema (whole_of old.now kept) id) (is_staged_with id) (λ u. then_term (at_ints false Eq u.id id) (last_term (at_ints false Eq u.done (pos 0)))) show_upload (λ _. refl) h
  answers (object repo oid) h =
      part_read part.uploads _ _ _ _ (object_is old.now.schema (whole_of old.now kept) repo oid) (is_object repo oid) (λ u. then_term (at_texts false Eq u.repo repo) (then_term (at_texts false Eq u.oid oid) (last_term (at_ints false Eq u.done (pos 1))))) show_upload (λ _. refl) h
  answers (objects_in repo) h = named old new rows kept _ _ _ (objects_in_is old.now.schema (whole_of old.now kept) repo) (is_object_in repo) (λ u. then_term (at_texts false Eq u.repo repo) (last_term (at_ints false Eq u.done (pos 1)))) h
  answers objects h = named old new rows kept _ _ _ (objects_is old.now.schema (whole_of old.now kept)) is_complete (λ u. last_term (at_ints false Eq u.done (pos 1))) h
  answers staged h = part_read part.uploads _ _ _ _ (staged_is old.now.schema (whole_of old.now kept)) is_staged (λ u. last_term (at_ints false Eq u.done (pos 0))) show_upload (λ _. refl) h
  answers (retired_as repo oid) h = part_read part.retired _ _ _ _ (retired_as_is old.now.schema (whole_of old.now kept) repo oid) (is_retired_as repo oid) (λ r. then_term (at_texts false Eq r.repo repo) (last_term (at_texts false Eq r.oid oid))) show_retired (λ _. refl) h
  answers (retired_in repo) h = by_names old new rows kept _ _ _ (retired_in_is old.now.schema (whole_of old.now kept) repo) (is_retired_in repo) (λ r. last_term (at_texts false Eq r.repo repo)) h
  answers (numbered n) h = part_read part.chunks _ _ _ _ (numbered_is old.now.schema (whole_of old.now kept) n) (has_number (pos n)) (λ c. last_term (at_ints false Eq c.n (pos n))) show_numbered (λ _. refl) h
  answers (chunk_at upload n) h =
      part_read part.chunks _ _ _ _ (chunk_at_is old.now.schema (whole_of old.now kept) upload n) (is_chunk upload (pos n)) (λ c. then_term (at_ints false Eq c.upload upload) (last_term (at_ints false Eq c.n (pos n)))) show_bytes (λ _. refl) h
  answers all_repos h = whole_read part.repos _ _ _ (all_repos_is old.now.schema (whole_of old.now kept)) show_repo (λ _. refl) h
  answers all_locks h = whole_read part.locks _ _ _ (all_locks_is old.now.schema (whole_of old.now kept)) show_repo_lock (λ _. refl) h
  answers all_tokens h = whole_read part.tokens _ _ _ (all_tokens_is old.now.schema (whole_of old.now kept)) show_token (λ _. refl) h
  answers all_retired h = whole_read part.retired _ _ _ (all_retired_is old.now.schema (whole_of old.now kept)) show_repo_retired (λ _. refl) h
  answers all_uploads h = whole_read part.uploads _ _ _ (all_uploads_is old.now.schema (whole_of old.now kept)) show_upload (λ _. refl) h
  answers chunk_keys h = whole_read part.chunks _ _ _ (chunk_keys_is old.now.schema (whole_of old.now kept)) show_chunk_key (λ _. refl) h

pub plain_read : (schema : Schema) (whole : HasWhole schema) (r : Read) → IsPlain (understood schema (read_text r))
plain_read schema whole (made_by repo) = (made_is schema whole repo).plain
plain_read schema whole (lock_at repo ref_name path) = (lock_at_is schema whole repo ref_name path).plain
plain_read schema whole (lock_with_id repo id) = (lock_with_id_is schema whole repo id).plain
plain_read schema whole (locks_in repo) = (locks_in_is schema whole repo).plain
plain_read schema whole (locks_from repo id) = (locks_from_is schema whole repo id).plain
plain_read schema whole (token digest) = (token_is schema whole digest).plain
plain_read schema whole (tokens_of user repo) = (tokens_of_is schema whole user repo).plain
plain_read schema whole (tokens_in repo) = (tokens_in_is schema whole repo).plain
plain_read schema whole (used_by repo) = (used_is schema whole repo).plain
plain_read schema whole (staged_with id) = (staged_with_is schema whole id).plain
plain_read schema whole (object repo oid) = (object_is schema whole repo oid).plain
plain_read schema whole (objects_in repo) = (objects_in_is schema whole repo).plain
plain_read schema whole objects = (objects_is schema whole).plain
plain_read schema whole staged = (staged_is schema whole).plain
plain_read schema whole (chunk_at upload n) = (chunk_at_is schema whole upload n).plain
plain_read schema whole (numbered n) = (numbered_is schema whole n).plain
plain_read schema whole (retired_as repo oid) = (retired_as_is schema whole repo oid).plain
plain_read schema whole (retired_in repo) = (retired_in_is schema whole repo).plain
plain_read schema whole all_repos = (all_repos_is schema whole).plain
plain_read schema whole all_locks = (all_locks_is schema whole).plain
plain_read schema whole all_tokens = (all_tokens_is schema whole).plain
plain_read schema whole all_retired = (all_retired_is schema whole).plain
plain_read schema whole all_uploads = (all_uploads_is schema whole).plain
plain_read schema whole chunk_keys = (chunk_keys_is schema whole).plain

-- a statement that is run while the store is ready
pub answered : (old new : State) (sql : List ℕ) (params : Row) (rows : List Row) → (IsTrue old.is_open → IsKept old.now) → Shown sql params old new rows → Answered sql params (tables_in old) rows
answered old new sql params rows when_open h r text given =
    let kept = when_open (shown_open old new sql params rows h) in
    answers old new rows kept r (subst (λ p. Shown (read_text r) p old new rows) given (subst (λ s. Shown s params old new rows) text h))

pub read_steps : (old new : State) (sql : List ℕ) (params : Row) (rows : List Row) (r : Read) → (IsTrue old.is_open → IsKept old.now) → old.in_transaction ≡ true → sql ≡ read_text r → Shown sql params old new rows
    → Steps (λ t. t) old new
read_steps old new sql params rows r when_open inside text h =
    let kept = when_open (shown_open old new sql params rows h) in
    let plain : IsPlain (understood old.now.schema sql) = subst (λ s. IsPlain (understood old.now.schema s)) (sym text) (plain_read old.now.schema (whole_of old.now kept) r) in
    let same = shown_same old new sql params plain rows h in
    record {
      was_open = same.0.was_open;
      is_open = same.0.is_open;
      kept = subst IsKept (sym same.0.now_is) kept;
      tables = ap tables_of same.0.now_is;
      inside = same.0.mode ∙ inside;
    }

-- the rows of `meta`, in a database of any version
pub meta_read : (v : Version) (old new : State) (rows : List Row) → HasMeta v old.now → Shown meta_query_text [] old new rows → rows ≡ map show_meta (tables_in old).meta
unfolding tables_under
meta_read v old new rows has h =
    let schema = old.now.schema in
    let tree = tree_of schema part.meta in
    let m = meta_is v schema has.laid has.part in
    selected (id_of part.meta) (encode part.meta) (decode part.meta) (keyed part.meta) (back part.meta) meta_query_text [] old new schema refl m.plain m.unlisted _ _ tree m.names m.command has.typed (own_in v schema has.laid part.meta has.part old.now.trees) (λ _. true) (λ _. refl) show_meta (λ _. refl) rows h
    ∙ ap (map show_meta) (filter_all _ _ (all_of _ (λ _. refl) (rows_in part.meta schema old.now.trees)))
