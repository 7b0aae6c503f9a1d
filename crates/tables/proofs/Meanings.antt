-- The meaning of each statement under a schema that has them tables, computed from the texts.
use Rattle.tables.proofs.Prelude.{◌≡◌, ℕ, ℤ, pos, negsuc, List, [], ◌∷◌, false, codes, refl, Null, Int, Term, lit, col, op2, Insert, Select, Update, Delete, Values, Eq, Le, Ge, understood, reads_listing, IsPlain, command_of, query_of, plain_query, sorted_by, ordered_by, is_given, Schema, first, Means, Plans, means, HasWhole, Part, name_of, table_for, place_of, tree_of, Token, Chunk, Lock, made_by, lock_at, lock_with_id, locks_in, locks_from, token, tokens_of, tokens_in, used_by, object, objects_in, objects, staged, chunk_at, read_text, add_lock, add_repo, set_made, remove_lock, add_token, remove_expired, add_chunk, remove_row, remove_chunks, remove_chunks_from, set_done, add_used, set_used, write_text}
use Rattle.sqlite.specs.Query.{Query}
use Rattle.sqlite.specs.Command.{Command}
use Rattle.sqlite_sql.specs.declared.ops.BinaryOp.TheVariants.{Compare}
use Rattle.sqlite.specs.Collation.TheVariants.{Binary}
use Rattle.sqlite_tied.specs.Compute.{everything}
use Rattle.tables.specs.Rows as part
use Rattle.tables.proofs.Parts.{low_in, by_tree_in}
use Rattle.tables.specs.Layout.{Version, version_of}
use Rattle.tables.specs.Schemas.{HasPart, IsLaid}
use Rattle.tables.specs.Statements.{staged_with, numbered, meta_query_text, retired_as, retired_in, all_repos, all_locks, all_tokens, all_retired, all_uploads, chunk_keys, add_retired, add_counts, reading, writing}

abbrev pub lock_columns : List Term
lock_columns = col 1 2 ∷ col 1 3 ∷ col 1 4 ∷ col 1 5 ∷ col 1 6 ∷ []

abbrev lock_names : List (List ℕ)
lock_names = codes "id" ∷ codes "ref" ∷ codes "path" ∷ codes "owner" ∷ codes "moment" ∷ []

abbrev pub token_columns : List Term
token_columns = col 1 1 ∷ col 1 2 ∷ col 1 3 ∷ col 1 4 ∷ col 1 5 ∷ []

abbrev token_names : List (List ℕ)
token_names = codes "digest" ∷ codes "user" ∷ codes "repo" ∷ codes "op" ∷ codes "expires" ∷ []

pub record IsQuery (schema : Schema) (sql : List ℕ) (q : Query) : Type 0 where
  pub names : List (List ℕ)
  pub plain : IsPlain (understood schema sql)
  pub unlisted : reads_listing schema sql ≡ false
  pub command : command_of (understood schema sql) ≡ Select (record { lets = []; body = q }) names

pub record IsCommand (schema : Schema) (sql : List ℕ) (command : Command) : Type 0 where
  pub plain : IsPlain (understood schema sql)
  pub is : command_of (understood schema sql) ≡ command

abbrev pub upload_columns : List Term
upload_columns = col 1 0 ∷ col 1 2 ∷ col 1 3 ∷ col 1 4 ∷ col 1 5 ∷ []

abbrev upload_names : List (List ℕ)
upload_names = codes "id" ∷ codes "repo" ∷ codes "oid" ∷ codes "size" ∷ codes "done" ∷ []

-- the column is this number
abbrev pub is_number : ℕ → ℕ → Term
is_number place n = op2 (Compare Eq Binary) (col 1 place) (lit (Int (pos n)))

abbrev pub lock_terms : List Term
lock_terms = lit Null ∷ col 0 0 ∷ col 0 1 ∷ col 0 2 ∷ col 0 3 ∷ col 0 4 ∷ col 0 5 ∷ []

abbrev pub repo_terms : List Term
repo_terms = lit Null ∷ col 0 0 ∷ col 0 1 ∷ lit (Int (pos 0)) ∷ []

abbrev pub made_columns : List Term
made_columns = col 1 0 ∷ col 1 0 ∷ col 1 1 ∷ col 0 1 ∷ col 1 3 ∷ []

abbrev pub token_terms : List Term
token_terms = lit Null ∷ col 0 0 ∷ col 0 1 ∷ col 0 2 ∷ col 0 3 ∷ col 0 4 ∷ []

abbrev pub chunk_terms : List Term
chunk_terms = lit Null ∷ col 0 0 ∷ col 0 1 ∷ col 0 2 ∷ []

abbrev pub done_columns : List Term
done_columns = col 1 0 ∷ col 1 0 ∷ lit Null ∷ col 1 2 ∷ col 1 3 ∷ col 1 4 ∷ lit (Int (pos 1)) ∷ []

abbrev pub retired_terms : List Term
retired_terms = lit Null ∷ col 0 0 ∷ col 0 1 ∷ []

abbrev pub count_terms : List Term
count_terms = lit Null ∷ col 0 0 ∷ col 0 1 ∷ col 0 2 ∷ []

abbrev pub used_terms : List Term
used_terms = lit Null ∷ col 0 0 ∷ lit (Int (pos 0)) ∷ col 0 1 ∷ []

abbrev pub used_columns : List Term
used_columns = col 1 0 ∷ col 1 0 ∷ col 1 1 ∷ col 1 2 ∷ col 0 1 ∷ []

-- what the text means, if it names this table of the version alone
abbrev SaysIn : Version → Schema → Part → List ℕ → Command → Type 0
SaysIn v schema p sql command = Plans schema (place_of schema p) (table_for v p (tree_of schema p)) (name_of p) (first sql) command

meant_in : (v : Version) (schema : Schema) (laid : IsLaid schema) (p : Part) (has : HasPart v schema p) (sql : List ℕ) (command : Command) → SaysIn v schema p sql command → Means schema sql command
meant_in v schema laid p has sql command says =
    let low = low_in v schema laid p has in
    means schema (place_of schema p) (table_for v p (tree_of schema p)) (name_of p) has.found low.0 low.1 (by_tree_in v schema laid p has) has.named sql command says

-- the number of the version is read in a database of any
pub meta_is : (v : Version) (schema : Schema) → IsLaid schema → HasPart v schema part.meta → IsQuery schema meta_query_text (query_of [] (col 1 0 ∷ col 1 2 ∷ []) (tree_of schema part.meta))
unfolding everything
meta_is v schema laid has =
    let it = meant_in v schema laid part.meta has _ (Select (record { lets = []; body = query_of [] (col 1 0 ∷ col 1 2 ∷ []) (tree_of schema part.meta) }) (codes "one" ∷ codes "version" ∷ []))
    (refl, (record { alone = refl; single = refl; source = (refl, refl, refl, refl, refl); ungrouped = refl; whole = refl; shown = refl; filter = refl; order = refl }, (refl, refl))) in
    record { names = codes "one" ∷ codes "version" ∷ []; plain = it.plain; unlisted = it.unlisted; command = it.command }

module _ (schema : Schema) (whole : HasWhole schema) where
  abbrev pub Says : Part → List ℕ → Command → Type 0
  Says = SaysIn (version_of whole.layout) schema

  meant : (p : Part) (sql : List ℕ) (command : Command) → Says p sql command → Means schema sql command
  meant p = meant_in (version_of whole.layout) schema whole.laid p (whole.parts p)

  asks : (p : Part) (sql : List ℕ) (q : Query) (names : List (List ℕ)) → Says p sql (Select (record { lets = []; body = q }) names) → IsQuery schema sql q
  asks p sql q names says = let it = meant p sql (Select (record { lets = []; body = q }) names) says in record { names = names; plain = it.plain; unlisted = it.unlisted; command = it.command }

  pub has_meaning : (p : Part) (sql : List ℕ) (command : Command) → Says p sql command → IsCommand schema sql command
  has_meaning p sql command says = let it = meant p sql command says in record { plain = it.plain; is = it.command }

  pub made_is : (repo : List ℕ) → IsQuery schema (read_text (made_by repo)) (query_of (is_given 1 0 ∷ []) (col 1 0 ∷ col 1 2 ∷ []) (tree_of schema part.repos))
  unfolding reading everything
  made_is repo = asks part.repos _ _ (codes "rowid" ∷ codes "made" ∷ []) (refl, (record { alone = refl; single = refl; source = (refl, refl, refl, refl, refl); ungrouped = refl; whole = refl; shown = refl; filter = refl; order = refl }, (refl, refl)))

  pub lock_at_is : (repo ref_name path : List ℕ) → IsQuery schema (read_text (lock_at repo ref_name path)) (query_of (is_given 1 0 ∷ is_given 3 1 ∷ is_given 4 2 ∷ []) lock_columns (tree_of schema part.locks))
  unfolding reading everything
  lock_at_is repo ref_name path = asks part.locks _ _ (lock_names) (refl, (record { alone = refl; single = refl; source = (refl, refl, refl, refl, refl); ungrouped = refl; whole = refl; shown = refl; filter = refl; order = refl }, (refl, refl)))

  pub lock_with_id_is : (repo : List ℕ) (id : ℕ) → IsQuery schema (read_text (lock_with_id repo id)) (query_of (is_given 1 0 ∷ is_given 2 1 ∷ []) lock_columns (tree_of schema part.locks))
  unfolding reading everything
  lock_with_id_is repo id = asks part.locks _ _ (lock_names) (refl, (record { alone = refl; single = refl; source = (refl, refl, refl, refl, refl); ungrouped = refl; whole = refl; shown = refl; filter = refl; order = refl }, (refl, refl)))

  pub locks_in_is : (repo : List ℕ) → IsQuery schema (read_text (locks_in repo)) (sorted_by 2 (negsuc 0) (is_given 1 0 ∷ []) lock_columns (tree_of schema part.locks))
  unfolding reading everything
  locks_in_is repo = asks part.locks _ _ (lock_names) (refl, (record { alone = refl; single = refl; source = (refl, refl, refl, refl, refl); ungrouped = refl; whole = refl; shown = refl; filter = refl; order = refl }, (refl, refl)))

  pub locks_from_is : (repo : List ℕ) (id : ℕ) → IsQuery schema (read_text (locks_from repo id)) (sorted_by 2 (pos 64) (is_given 1 0 ∷ op2 (Compare Ge Binary) (col 1 2) (col 0 1) ∷ []) lock_columns (tree_of schema part.locks))
  unfolding reading everything
  locks_from_is repo id = asks part.locks _ _ (lock_names) (refl, (record { alone = refl; single = refl; source = (refl, refl, refl, refl, refl); ungrouped = refl; whole = refl; shown = refl; filter = refl; order = refl }, (refl, refl)))

  pub token_is : (digest : List ℕ) → IsQuery schema (read_text (token digest)) (query_of (is_given 1 0 ∷ []) token_columns (tree_of schema part.tokens))
  unfolding reading everything
  token_is digest = asks part.tokens _ _ (token_names) (refl, (record { alone = refl; single = refl; source = (refl, refl, refl, refl, refl); ungrouped = refl; whole = refl; shown = refl; filter = refl; order = refl }, (refl, refl)))

  pub tokens_of_is : (user repo : List ℕ) → IsQuery schema (read_text (tokens_of user repo)) (query_of (is_given 2 0 ∷ is_given 3 1 ∷ []) token_columns (tree_of schema part.tokens))
  unfolding reading everything
  tokens_of_is user repo = asks part.tokens _ _ (token_names) (refl, (record { alone = refl; single = refl; source = (refl, refl, refl, refl, refl); ungrouped = refl; whole = refl; shown = refl; filter = refl; order = refl }, (refl, refl)))

  pub tokens_in_is : (repo : List ℕ) → IsQuery schema (read_text (tokens_in repo)) (query_of (is_given 3 0 ∷ []) token_columns (tree_of schema part.tokens))
  unfolding reading everything
  tokens_in_is repo = asks part.tokens _ _ (token_names) (refl, (record { alone = refl; single = refl; source = (refl, refl, refl, refl, refl); ungrouped = refl; whole = refl; shown = refl; filter = refl; order = refl }, (refl, refl)))

  pub used_is : (repo : List ℕ) → IsQuery schema (read_text (used_by repo)) (query_of (is_given 1 0 ∷ []) (col 1 0 ∷ col 1 3 ∷ []) (tree_of schema part.repos))
  unfolding reading everything
  used_is repo = asks part.repos _ _ (codes "rowid" ∷ codes "used" ∷ []) (refl, (record { alone = refl; single = refl; source = (refl, refl, refl, refl, refl); ungrouped = refl; whole = refl; shown = refl; filter = refl; order = refl }, (refl, refl)))

  pub staged_with_is : (id : ℤ) → IsQuery schema (read_text (staged_with id)) (query_of (is_given 0 0 ∷ is_number 5 0 ∷ []) upload_columns (tree_of schema part.uploads))
  unfolding reading everything
  staged_with_is id = asks part.uploads _ _ (upload_names) (refl, (record { alone = refl; single = refl; source = (refl, refl, refl, refl, refl); ungrouped = refl; whole = refl; shown = refl; filter = refl; order = refl }, (refl, refl)))

  pub object_is : (repo oid : List ℕ) → IsQuery schema (read_text (object repo oid)) (query_of (is_given 2 0 ∷ is_given 3 1 ∷ is_number 5 1 ∷ []) upload_columns (tree_of schema part.uploads))
  unfolding reading everything
  object_is repo oid = asks part.uploads _ _ (upload_names) (refl, (record { alone = refl; single = refl; source = (refl, refl, refl, refl, refl); ungrouped = refl; whole = refl; shown = refl; filter = refl; order = refl }, (refl, refl)))

  pub objects_in_is : (repo : List ℕ) → IsQuery schema (read_text (objects_in repo)) (ordered_by (2 ∷ 3 ∷ 0 ∷ []) (is_given 2 0 ∷ is_number 5 1 ∷ []) upload_columns (tree_of schema part.uploads))
  unfolding reading everything
  objects_in_is repo = asks part.uploads _ _ (upload_names) (refl, (record { alone = refl; single = refl; source = (refl, refl, refl, refl, refl); ungrouped = refl; whole = refl; shown = refl; filter = refl; order = refl }, (refl, refl)))

  pub objects_is : IsQuery schema (read_text objects) (ordered_by (2 ∷ 3 ∷ 0 ∷ []) (is_number 5 1 ∷ []) upload_columns (tree_of schema part.uploads))
  unfolding reading everything
  objects_is = asks part.uploads _ _ (upload_names) (refl, (record { alone = refl; single = refl; source = (refl, refl, refl, refl, refl); ungrouped = refl; whole = refl; shown = refl; filter = refl; order = refl }, (refl, refl)))

  pub staged_is : IsQuery schema (read_text staged) (query_of (is_number 5 0 ∷ []) upload_columns (tree_of schema part.uploads))
  unfolding reading everything
  staged_is = asks part.uploads _ _ (upload_names) (refl, (record { alone = refl; single = refl; source = (refl, refl, refl, refl, refl); ungrouped = refl; whole = refl; shown = refl; filter = refl; order = refl }, (refl, refl)))

  pub chunk_at_is : (upload : ℤ) (n : ℕ) → IsQuery schema (read_text (chunk_at upload n)) (query_of (is_given 1 0 ∷ is_given 2 1 ∷ []) (col 1 3 ∷ []) (tree_of schema part.chunks))
  unfolding reading everything
  chunk_at_is upload n = asks part.chunks _ _ (codes "bytes" ∷ []) (refl, (record { alone = refl; single = refl; source = (refl, refl, refl, refl, refl); ungrouped = refl; whole = refl; shown = refl; filter = refl; order = refl }, (refl, refl)))

  pub numbered_is : (n : ℕ) → IsQuery schema (read_text (numbered n)) (query_of (is_given 2 0 ∷ []) (col 1 1 ∷ col 1 3 ∷ []) (tree_of schema part.chunks))
  unfolding reading everything
  numbered_is n = asks part.chunks _ _ (codes "upload" ∷ codes "bytes" ∷ []) (refl, (record { alone = refl; single = refl; source = (refl, refl, refl, refl, refl); ungrouped = refl; whole = refl; shown = refl; filter = refl; order = refl }, (refl, refl)))

  pub add_lock_is : (l : Lock) → IsCommand schema (write_text (add_lock l)) (Insert (place_of schema part.locks) (Values lock_terms 7))
  unfolding writing everything
  add_lock_is l = has_meaning part.locks _ _ (refl, (refl, refl, refl))

  pub add_repo_is : (name : List ℕ) (made : ℤ) → IsCommand schema (write_text (add_repo name made)) (Insert (place_of schema part.repos) (Values repo_terms 4))
  unfolding writing everything
  add_repo_is name made = has_meaning part.repos _ _ (refl, (refl, refl, refl))

  pub set_made_is : (rowid made : ℤ) → IsCommand schema (write_text (set_made rowid made)) (Update (place_of schema part.repos) (record { lets = []; body = plain_query (is_given 0 0 ∷ []) made_columns (tree_of schema part.repos) }))
  unfolding writing everything
  set_made_is rowid made = has_meaning part.repos _ _ (refl, (refl, refl, refl, (refl, refl)))

  pub remove_lock_is : (repo : List ℕ) (id : ℕ) → IsCommand schema (write_text (remove_lock repo id)) (Delete (place_of schema part.locks) (record { lets = []; body = plain_query (is_given 1 0 ∷ is_given 2 1 ∷ []) (col 1 0 ∷ []) (tree_of schema part.locks) }))
  unfolding writing everything
  remove_lock_is repo id = has_meaning part.locks _ _ (refl, (refl, refl, (refl, refl)))

  pub add_token_is : (t : Token) → IsCommand schema (write_text (add_token t)) (Insert (place_of schema part.tokens) (Values token_terms 6))
  unfolding writing everything
  add_token_is t = has_meaning part.tokens _ _ (refl, (refl, refl, refl))

  pub remove_expired_is : (moment : ℤ) → IsCommand schema (write_text (remove_expired moment)) (Delete (place_of schema part.tokens) (record { lets = []; body = plain_query (op2 (Compare Le Binary) (col 1 5) (col 0 0) ∷ []) (col 1 0 ∷ []) (tree_of schema part.tokens) }))
  unfolding writing everything
  remove_expired_is moment = has_meaning part.tokens _ _ (refl, (refl, refl, (refl, refl)))

  pub add_chunk_is : (c : Chunk) → IsCommand schema (write_text (add_chunk c)) (Insert (place_of schema part.chunks) (Values chunk_terms 4))
  unfolding writing everything
  add_chunk_is c = has_meaning part.chunks _ _ (refl, (refl, refl, refl))

  pub remove_row_is : (id : ℤ) → IsCommand schema (write_text (remove_row id)) (Delete (place_of schema part.uploads) (record { lets = []; body = plain_query (is_given 0 0 ∷ []) (col 1 0 ∷ []) (tree_of schema part.uploads) }))
  unfolding writing everything
  remove_row_is id = has_meaning part.uploads _ _ (refl, (refl, refl, (refl, refl)))

  pub remove_chunks_is : (upload : ℤ) → IsCommand schema (write_text (remove_chunks upload)) (Delete (place_of schema part.chunks) (record { lets = []; body = plain_query (is_given 1 0 ∷ []) (col 1 0 ∷ []) (tree_of schema part.chunks) }))
  unfolding writing everything
  remove_chunks_is upload = has_meaning part.chunks _ _ (refl, (refl, refl, (refl, refl)))

  pub remove_chunks_from_is : (upload : ℤ) (n : ℕ) → IsCommand schema (write_text (remove_chunks_from upload n)) (Delete (place_of schema part.chunks) (record { lets = []; body = plain_query (is_given 1 0 ∷ op2 (Compare Ge Binary) (col 1 2) (col 0 1) ∷ []) (col 1 0 ∷ []) (tree_of schema part.chunks) }))
  unfolding writing everything
  remove_chunks_from_is upload n = has_meaning part.chunks _ _ (refl, (refl, refl, (refl, refl)))

  pub set_done_is : (id : ℤ) → IsCommand schema (write_text (set_done id)) (Update (place_of schema part.uploads) (record { lets = []; body = plain_query (is_given 0 0 ∷ []) done_columns (tree_of schema part.uploads) }))
  unfolding writing everything
  set_done_is id = has_meaning part.uploads _ _ (refl, (refl, refl, refl, (refl, refl)))

  pub add_used_is : (name : List ℕ) (used : ℤ) → IsCommand schema (write_text (add_used name used)) (Insert (place_of schema part.repos) (Values used_terms 4))
  unfolding writing everything
  add_used_is name used = has_meaning part.repos _ _ (refl, (refl, refl, refl))

  pub set_used_is : (rowid used : ℤ) → IsCommand schema (write_text (set_used rowid used)) (Update (place_of schema part.repos) (record { lets = []; body = plain_query (is_given 0 0 ∷ []) used_columns (tree_of schema part.repos) }))
  unfolding writing everything
  set_used_is rowid used = has_meaning part.repos _ _ (refl, (refl, refl, refl, (refl, refl)))

  pub retired_as_is : (repo oid : List ℕ) → IsQuery schema (read_text (retired_as repo oid)) (query_of (is_given 1 0 ∷ is_given 2 1 ∷ []) (col 1 2 ∷ []) (tree_of schema part.retired))
  unfolding reading everything
  retired_as_is repo oid = asks part.retired _ _ (codes "oid" ∷ []) (refl, (record { alone = refl; single = refl; source = (refl, refl, refl, refl, refl); ungrouped = refl; whole = refl; shown = refl; filter = refl; order = refl }, (refl, refl)))

  pub retired_in_is : (repo : List ℕ) → IsQuery schema (read_text (retired_in repo)) (ordered_by (2 ∷ 0 ∷ []) (is_given 1 0 ∷ []) (col 1 2 ∷ []) (tree_of schema part.retired))
  unfolding reading everything
  retired_in_is repo = asks part.retired _ _ (codes "oid" ∷ []) (refl, (record { alone = refl; single = refl; source = (refl, refl, refl, refl, refl); ungrouped = refl; whole = refl; shown = refl; filter = refl; order = refl }, (refl, refl)))

  pub add_retired_is : (repo oid : List ℕ) → IsCommand schema (write_text (add_retired repo oid)) (Insert (place_of schema part.retired) (Values retired_terms 3))
  unfolding writing everything
  add_retired_is repo oid = has_meaning part.retired _ _ (refl, (refl, refl, refl))

  pub all_repos_is : IsQuery schema (read_text all_repos) (query_of [] (col 1 1 ∷ col 1 2 ∷ col 1 3 ∷ []) (tree_of schema part.repos))
  unfolding reading everything
  all_repos_is = asks part.repos _ _ (codes "name" ∷ codes "made" ∷ codes "used" ∷ []) (refl, (record { alone = refl; single = refl; source = (refl, refl, refl, refl, refl); ungrouped = refl; whole = refl; shown = refl; filter = refl; order = refl }, (refl, refl)))

  pub all_locks_is : IsQuery schema (read_text all_locks) (query_of [] (col 1 1 ∷ lock_columns) (tree_of schema part.locks))
  unfolding reading everything
  all_locks_is = asks part.locks _ _ (codes "repo" ∷ lock_names) (refl, (record { alone = refl; single = refl; source = (refl, refl, refl, refl, refl); ungrouped = refl; whole = refl; shown = refl; filter = refl; order = refl }, (refl, refl)))

  pub all_tokens_is : IsQuery schema (read_text all_tokens) (query_of [] token_columns (tree_of schema part.tokens))
  unfolding reading everything
  all_tokens_is = asks part.tokens _ _ token_names (refl, (record { alone = refl; single = refl; source = (refl, refl, refl, refl, refl); ungrouped = refl; whole = refl; shown = refl; filter = refl; order = refl }, (refl, refl)))

  pub all_retired_is : IsQuery schema (read_text all_retired) (query_of [] (col 1 1 ∷ col 1 2 ∷ []) (tree_of schema part.retired))
  unfolding reading everything
  all_retired_is = asks part.retired _ _ (codes "repo" ∷ codes "oid" ∷ []) (refl, (record { alone = refl; single = refl; source = (refl, refl, refl, refl, refl); ungrouped = refl; whole = refl; shown = refl; filter = refl; order = refl }, (refl, refl)))

  pub all_uploads_is : IsQuery schema (read_text all_uploads) (query_of [] upload_columns (tree_of schema part.uploads))
  unfolding reading everything
  all_uploads_is = asks part.uploads _ _ upload_names (refl, (record { alone = refl; single = refl; source = (refl, refl, refl, refl, refl); ungrouped = refl; whole = refl; shown = refl; filter = refl; order = refl }, (refl, refl)))

  pub chunk_keys_is : IsQuery schema (read_text chunk_keys) (query_of [] (col 1 1 ∷ col 1 2 ∷ []) (tree_of schema part.chunks))
  unfolding reading everything
  chunk_keys_is = asks part.chunks _ _ (codes "upload" ∷ codes "n" ∷ []) (refl, (record { alone = refl; single = refl; source = (refl, refl, refl, refl, refl); ungrouped = refl; whole = refl; shown = refl; filter = refl; order = refl }, (refl, refl)))

  pub add_counts_is : (name : List ℕ) (made used : ℤ) → IsCommand schema (write_text (add_counts name made used)) (Insert (place_of schema part.repos) (Values count_terms 4))
  unfolding writing everything
  add_counts_is name made used = has_meaning part.repos _ _ (refl, (refl, refl, refl))
