-- The sizes of a repository's objects, and its room, as its state has them, for proofs in other crates.
use Rattle.uploads.proofs.Prelude.{◌≡◌, ◌∙◌, ℕ, ◌+◌, nat_le, List, length, Option, Some, None, option_map, refl, sym, ap, Ghosts, World, IsWorld, Object, object_named, ObjectRow}
use Rattle.std.specs.Cmp.{both_ways}
use Rattle.std.proofs.lemmas.Bool.{leb-true, le-leb}
use Rattle.model.specs.Policy.{Repo}
use Rattle.model.specs.World.{total}
use Rattle.model.specs.RepoState.{ObjectSize, object_size, repo_state, size_of, has_room}
use Rattle.model.proofs.Rooms.{room_is_quota}
use Rattle.model.proofs.Views.{size_stored}
use Rattle.uploads.specs.Finding.{Finds}

size_twice : (o : Option Object) → option_map (λ (s : ObjectSize). s.size) (option_map object_size o) ≡ option_map (λ (p : Object). length p.bytes) o
size_twice None = refl
size_twice (Some o) = refl

-- the state has the size of the object of the name
pub size_named : (world : World) (repo : Repo) (name : List ℕ) → IsWorld world
    → size_of name (repo_state repo world) ≡ option_map (λ (o : Object). length o.bytes) (object_named repo.name name world)
size_named world repo name w = size_stored world repo name w ∙ size_twice (object_named repo.name name world)

-- the state has the size of the row that is found
pub size_found : {S : Type 0} (g : Ghosts S) (world : World) (s : S) (repo : Repo) (name : List ℕ) (found : Option ObjectRow) → IsWorld world
    → Finds g world s repo.name name found → size_of name (repo_state repo world) ≡ option_map (λ (r : ObjectRow). r.size) found
size_found g world s repo name None w is = size_named world repo name w ∙ ap (option_map (λ (o : Object). length o.bytes)) is
size_found g world s repo name (Some r) w is =
    size_named world repo name w ∙ ap (option_map (λ (o : Object). length o.bytes)) is.1 ∙ ap (λ (n : ℕ). Some n) (sym is.2)

-- the state has room for an object exactly if the stored total and its size are within the quota
pub room_left : (world : World) (repo : Repo) (size : ℕ) → has_room size (repo_state repo world) ≡ nat_le (total repo.name world + size) repo.quota
room_left world repo size =
    let room = room_is_quota world repo size in
    both_ways (has_room size (repo_state repo world)) (nat_le (total repo.name world + size) repo.quota)
    (λ has. le-leb (total repo.name world + size) repo.quota (room.0 has))
    (λ fits. room.1 (leb-true (total repo.name world + size) repo.quota fits))
