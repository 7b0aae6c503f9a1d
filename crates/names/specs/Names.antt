-- The contents of the types of names.
use Rattle.std.specs.Prelude.{ℕ, List, string_bytes}
use Rattle.names.specs.declared.texts.UserName.{UserName}
use Rattle.names.specs.declared.texts.RepoName.{RepoName}
use Rattle.names.specs.declared.texts.RefName.{RefName}
use Rattle.names.specs.declared.texts.LockPath.{LockPath}

-- the text of a user
abbrev pub user_text : UserName → List ℕ
user_text name = string_bytes name.user

-- the text of a repository
abbrev pub repo_text : RepoName → List ℕ
repo_text name = string_bytes name.repo

-- the text of a ref
abbrev pub ref_text : RefName → List ℕ
ref_text name = string_bytes name.name

-- the text of a path that may be locked
abbrev pub path_text : LockPath → List ℕ
path_text name = string_bytes name.path
