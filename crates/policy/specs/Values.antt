-- The crate's values as values of the definitions.
use Rattle.std.specs.Prelude.{◌≡◌, ◌≤◌, List, IsTrue, length, map, string_bytes, option_map}
use Rattle.names.specs.Names.{user_text, repo_text, ref_text, path_text}
use Rattle.model.specs.Policy as model
use Rattle.policy.specs.Ranges.{texts, are_distinct, is_base, longest_life, most_repos, most_rows}
use Rattle.policy.specs.Reading.{text_in, number_in, entries_in}
use Rattle.policy.specs.declared.keys.Key.TheVariants as key
use Rattle.policy.specs.declared.reading.Top.{Top}
use Rattle.names.specs.Texts.{between}
use Rattle.toml.specs.Data.{Members}
use Rattle.toml.specs.View.{view}
use Rattle.policy.specs.Repos.{names_of}
use Rattle.policy.specs.declared.repos.Repo.{Repo}
use Rattle.policy.specs.declared.rows.Row.{Row}
use Rattle.policy.specs.declared.questions.Question.{Question}
use Rattle.policy.specs.declared.questions.Verdict.{Verdict}
use Rattle.policy.specs.declared.questions.Verdict.TheVariants.{Allow, Deny}
use Rattle.policy.specs.declared.policies.Policy.{Policy}
use Rattle.policy.specs.declared.numbered.NumberedRow.{NumberedRow}
use Rattle.policy.specs.Applicable as numbered

-- a repository, as the definitions have it
abbrev pub repo_view : Repo → model.Repo
repo_view r = record { name = repo_text r.name; default_ref = ref_text r.default_ref; quota = r.quota }

-- a row, as the definitions have it
abbrev pub row_view : Row → model.Row
row_view r = record {
  effect = r.effect;
  users = texts r.users.items;
  repos = texts r.repos.items;
  refs = texts r.refs.items;
  paths = texts r.paths.items;
  rights = r.rights.items;
}

-- a policy, as the definitions have it
abbrev pub policy_view : Policy → model.Policy
policy_view p = record {
  base = string_bytes p.base;
  token_seconds = p.token_seconds;
  repos = map repo_view p.repos.items;
  rows = map row_view p.rows.items;
}

-- a question, as the definitions have it
abbrev pub question_view : Question → model.Question
question_view q = record {
  user = user_text q.user.now;
  repo = repo_text q.repo.now;
  right = q.right;
  ref = option_map (λ name. ref_text name.now) q.ref_name;
  path = option_map (λ path. path_text path.now) q.path;
}

-- a row with its number, as the definitions have it
abbrev pub numbered_view : NumberedRow → numbered.NumberedRow
numbered_view n = record { number = n.number; row = row_view n.row.now }

-- an answer, as the definitions have it
abbrev pub decision_view : Verdict → model.Decision
decision_view (Allow n) = model.allowed n
decision_view (Deny n) = model.denied n

-- these are the repositories, and no name occurs twice
pub record AreRepos (repos : List model.Repo) (held : List Repo) : Type 0 where
  pub values : map repo_view held ≡ repos
  pub distinct : IsTrue (are_distinct (names_of held))

-- these are the values of the keys at the top of the table, and they are in range
pub record IsTop (t : Members) (top : Top) : Type 0 where
  pub base : text_in t key.Base ≡ top.base.now
  pub token_seconds : number_in t key.TokenSeconds ≡ top.token_seconds
  pub repos : entries_in t key.Repo ≡ map view top.repos.now
  pub rows : entries_in t key.Row ≡ map view top.rows.now
  pub base_in_range : IsTrue (is_base top.base.now)
  pub token_seconds_in_range : IsTrue (between 1 longest_life top.token_seconds)
  pub few_repos : length top.repos.now ≤ most_repos
  pub few_rows : length top.rows.now ≤ most_rows
