-- What an object that is sent in parts is, and which of its bytes are next.
use Rattle.std.specs.Prelude.{◌≡◌, ◌-◌, ◌+◌, ℕ, Bool, List, length, min, take, drop, Some}
use Rattle.names.specs.Names.{repo_text}
use Rattle.names.specs.declared.texts.RepoName.{RepoName}
use Rattle.model.specs.World.{World, Object, object_named}
use Rattle.downloads.specs.declared.download.Download.{Download}

-- its repository
abbrev pub download_repo : Download → RepoName
download_repo d = d.repo

-- its name
abbrev pub name_of : Download → List ℕ
name_of d = d.name

-- how many bytes it has
abbrev pub size_of : Download → ℕ
size_of d = d.size

-- how many of them were sent
abbrev pub sent_of : Download → ℕ
sent_of d = d.sent

-- the connection is closed after it
abbrev pub closes_of : Download → Bool
closes_of d = d.closes

-- how many were not
abbrev pub left_of : Download → ℕ
left_of d = size_of d - sent_of d

-- the repository has an object of the name, and these are bytes of it, after those that were sent
abbrev pub AreNextBytes : Download → List ℕ → World → Type 0
AreNextBytes d bytes world =
    (o : Object) × (object_named (repo_text (download_repo d)) (name_of d) world ≡ Some o)
    × (bytes ≡ take (length bytes) (drop (sent_of d) o.bytes))

-- the same object, of which this many more bytes were sent, but no more than it has
pub record IsAdvanced (d : Download) (count : ℕ) (e : Download) : Type 0 where
  pub repo : download_repo e ≡ download_repo d
  pub name : name_of e ≡ name_of d
  pub size : size_of e ≡ size_of d
  pub sent : sent_of e ≡ min (sent_of d + count) (size_of d)
