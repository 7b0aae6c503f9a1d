-- What one repository has, as far as requests depend on it.
use Rattle.std.specs.Prelude.{ℕ, Bool, ◌&&◌, List, length, map, filter, find, Option, is_some, option_map, bytes_eq, nat_lt, ℤ, pos, ◌-ℤ◌, int_le}
use Rattle.model.specs.Orders.{sort_by, text_before}
use Rattle.model.specs.Policy.{Repo}
use Rattle.model.specs.World.{World, Object, Lock, total}

-- the name and the size of an object
pub record ObjectSize : Type 0 where
  pub name : List ℕ
  pub size : ℕ

-- objects and retired names rise by name, locks by id; room is the quota less the stored total, and below 0 once the quota was lowered
pub record RepoState : Type 0 where
  pub objects : List ObjectSize
  pub retired : List (List ℕ)
  pub locks : List Lock
  pub made : ℕ
  pub room : ℤ

-- an object without its bytes
abbrev pub object_size : Object → ObjectSize
object_size o = record { name = o.name; size = length o.bytes }

-- the repository's objects, by name
abbrev pub objects_of : List ℕ → World → List ObjectSize
objects_of repo world =
    sort_by (λ a b. text_before a.name b.name)
    (map object_size (filter (λ o. bytes_eq o.repo repo) world.objects))

-- the names that the repository retired
abbrev pub retired_of : List ℕ → World → List (List ℕ)
retired_of repo world = sort_by text_before (map (λ r. r.name) (filter (λ r. bytes_eq r.repo repo) world.retired))

-- the repository's locks, by id
abbrev pub locks_of : List ℕ → World → List Lock
locks_of repo world = sort_by (λ a b. nat_lt a.id b.id) (filter (λ l. bytes_eq l.repo repo) world.locks)

-- the part of a world that requests to a repository depend on
abbrev pub repo_state : Repo → World → RepoState
repo_state repo world = record {
  objects = objects_of repo.name world;
  retired = retired_of repo.name world;
  locks = locks_of repo.name world;
  made = world.made repo.name;
  room = pos repo.quota -ℤ pos (total repo.name world);
}

-- the size of the object of that name
abbrev pub size_of : List ℕ → RepoState → Option ℕ
size_of name state = option_map (λ o. o.size) (find (λ o. bytes_eq o.name name) state.objects)

-- the name is retired
abbrev pub is_gone : List ℕ → RepoState → Bool
is_gone name state = is_some (find (λ other. bytes_eq other name) state.retired)

-- the quota holds this many bytes more
abbrev pub has_room : ℕ → RepoState → Bool
has_room size state = int_le (pos size) state.room

-- the lock on the path of the ref
abbrev pub lock_at : List ℕ → List ℕ → RepoState → Option Lock
lock_at ref path state = find (λ l. bytes_eq l.ref ref && bytes_eq l.path path) state.locks
