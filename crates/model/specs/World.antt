-- The contents of the server's store.
use Rattle.std.specs.Prelude.{◌≡◌, ℕ, ◌+◌, ◌≤◌, Bool, ◌&&◌, ◌==◌, not, List, [], ◌∷◌, length, if◌then◌else◌, IsTrue, All, AllPairs, bytes_eq, Option, is_some, find, filter, nat_lt, sum_by}
use Rattle.sha2.specs.Sha256.{sha256}
use Rattle.hex.specs.Hex.{encode_lower}
use Rattle.names.specs.Texts.{largest_object, last_lock_id, last_moment, is_hex_64, is_user, is_repo, is_ref, is_lock_path}
use Rattle.names.specs.declared.operations.Operation.{Operation}

-- the bytes that a repository has under a name
pub record Object : Type 0 where
  pub repo : List ℕ
  pub name : List ℕ
  pub bytes : List ℕ

-- a path of a ref that only one user may change, and since when
pub record Lock : Type 0 where
  pub repo : List ℕ
  pub id : ℕ
  pub ref : List ℕ
  pub path : List ℕ
  pub owner : List ℕ
  pub at : ℕ

-- a bearer token that was issued
pub record Token : Type 0 where
  pub text : List ℕ
  pub user : List ℕ
  pub repo : List ℕ
  pub operation : Operation
  pub expires : ℕ

-- a name whose object a repository removed for good
pub record Retired : Type 0 where
  pub repo : List ℕ
  pub name : List ℕ

-- the four lists are sets: their order does not matter; made is how many locks each repository ever made
pub record World : Type 0 where
  pub objects : List Object
  pub retired : List Retired
  pub locks : List Lock
  pub made : List ℕ → ℕ
  pub tokens : List Token

-- the world of a new server
abbrev pub nothing : World
nothing = record { objects = []; retired = []; locks = []; made = λ _. 0; tokens = [] }

-- ---- the laws of worlds

-- the name of the bytes: their SHA-256 (FIPS 180-4), in lower hexadecimal digits
abbrev pub name_of : List ℕ → List ℕ
name_of bytes = encode_lower (sha256 bytes)

-- an object has the name of its bytes, and a size in range
pub record IsObject (o : Object) : Type 0 where
  pub repo : IsTrue (is_repo o.repo)
  pub name : o.name ≡ name_of o.bytes
  pub size : length o.bytes ≤ largest_object

-- a lock's parts are in range, and its id is one of those that its repository made
pub record IsLock (made : List ℕ → ℕ) (l : Lock) : Type 0 where
  pub repo : IsTrue (is_repo l.repo)
  pub ref : IsTrue (is_ref l.ref)
  pub path : IsTrue (is_lock_path l.path)
  pub owner : IsTrue (is_user l.owner)
  pub at : l.at ≤ last_moment
  pub first : 1 ≤ l.id
  pub last : l.id ≤ made l.repo

-- a token's parts are in range
pub record IsToken (t : Token) : Type 0 where
  pub text : IsTrue (is_hex_64 t.text)
  pub user : IsTrue (is_user t.user)
  pub repo : IsTrue (is_repo t.repo)
  pub expires : t.expires ≤ last_moment

-- a retired name's parts are in range
pub record IsRetired (r : Retired) : Type 0 where
  pub repo : IsTrue (is_repo r.repo)
  pub name : IsTrue (is_hex_64 r.name)

-- two retired names of one repository differ
abbrev pub DiffersInRetired : Retired → Retired → Type 0
DiffersInRetired a b = a.repo ≡ b.repo → a.name ≡ b.name → ⊥

-- two objects of one repository differ in name
abbrev pub DiffersInName : Object → Object → Type 0
DiffersInName a b = a.repo ≡ b.repo → a.name ≡ b.name → ⊥

-- two locks of one repository differ in id
abbrev pub DiffersInId : Lock → Lock → Type 0
DiffersInId a b = a.repo ≡ b.repo → a.id ≡ b.id → ⊥

-- two locks of one ref of one repository differ in path
abbrev pub DiffersInPlace : Lock → Lock → Type 0
DiffersInPlace a b = a.repo ≡ b.repo → a.ref ≡ b.ref → a.path ≡ b.path → ⊥

-- two tokens differ in the digest of their texts
abbrev pub DiffersInDigest : Token → Token → Type 0
DiffersInDigest a b = sha256 a.text ≡ sha256 b.text → ⊥

-- the repository has retired the name
abbrev pub is_retired : List ℕ → List ℕ → World → Bool
is_retired repo name world = is_some (find (λ r. bytes_eq r.repo repo && bytes_eq r.name name) world.retired)

-- the name of the object is not retired
abbrev pub IsUnretired : World → Object → Type 0
IsUnretired world o = IsTrue (not (is_retired o.repo o.name world))

-- everything is in range and nothing occurs twice; no object has a retired name
pub record IsWorld (world : World) : Type 0 where
  pub objects : All IsObject world.objects
  pub names : AllPairs DiffersInName world.objects
  pub retired : All IsRetired world.retired
  pub once : AllPairs DiffersInRetired world.retired
  pub gone : All (IsUnretired world) world.objects
  pub locks : All (IsLock world.made) world.locks
  pub ids : AllPairs DiffersInId world.locks
  pub places : AllPairs DiffersInPlace world.locks
  pub made : (repo : List ℕ) → world.made repo ≤ last_lock_id
  pub tokens : All IsToken world.tokens
  pub digests : AllPairs DiffersInDigest world.tokens

-- ---- reading a world

-- the object that the repository has under the name
abbrev pub object_named : List ℕ → List ℕ → World → Option Object
object_named repo name world = find (λ o. bytes_eq o.repo repo && bytes_eq o.name name) world.objects

-- the sizes of the repository's objects, added up
abbrev pub total : List ℕ → World → ℕ
total repo world = sum_by (λ o. length o.bytes) (filter (λ o. bytes_eq o.repo repo) world.objects)

-- the token whose text has the digest of this text
abbrev pub find_token : List ℕ → World → Option Token
find_token text world = find (λ t. bytes_eq (sha256 t.text) (sha256 text)) world.tokens

-- ---- changing a world

-- the counts of made locks, with one more of the repository
abbrev pub one_more : List ℕ → (List ℕ → ℕ) → List ℕ → ℕ
one_more repo made other = if bytes_eq other repo then made other + 1 else made other

-- the world with a new lock
abbrev pub with_lock : Lock → World → World
with_lock l world = record world { locks = l ∷ world.locks; made = one_more l.repo world.made }

-- the lock of the repository has this id
abbrev pub has_id : List ℕ → ℕ → Lock → Bool
has_id repo id l = bytes_eq l.repo repo && l.id == id

-- the world without a lock; its id is not reused
abbrev pub without_lock : Lock → World → World
without_lock l world = record world { locks = filter (λ k. not (has_id l.repo l.id k)) world.locks }

-- the world with an object, unless the repository has one of that name
abbrev pub with_object : Object → World → World
with_object o world =
    if is_some (object_named o.repo o.name world) then world
    else record world { objects = o ∷ world.objects }

-- the object is the repository's of this name
abbrev pub has_name : List ℕ → List ℕ → Object → Bool
has_name repo name o = bytes_eq o.repo repo && bytes_eq o.name name

-- the world without the object of this name, which is retired
abbrev pub without_object : List ℕ → List ℕ → World → World
without_object repo name world = record world {
  objects = filter (λ o. not (has_name repo name o)) world.objects;
  retired = record { repo = repo; name = name } ∷ world.retired;
}

-- the world with a new token
abbrev pub with_token : Token → World → World
with_token t world = record world { tokens = t ∷ world.tokens }

-- the world without the tokens that are not valid at the moment
abbrev pub without_expired : ℕ → World → World
without_expired now world = record world { tokens = filter (λ t. nat_lt now t.expires) world.tokens }

-- the number of tokens that are not valid at the moment
abbrev pub expired_count : ℕ → World → ℕ
expired_count now world = length (filter (λ t. not (nat_lt now t.expires)) world.tokens)
