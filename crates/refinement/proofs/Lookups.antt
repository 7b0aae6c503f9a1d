-- What the calls read from the tables is what the world has.
use Rattle.refinement.proofs.Prelude.{◌≡◌, ℕ, pos, Bool, true, ◌&&◌, ◌==◌, List, [], ◌∷◌, find, filter, cond, nat_lt, Option, Some, None, option_map, IfSome, bytes_eq, refl, sym, ap, ◌∙◌, arith, int_eq, nat_tests, ints, is_eq-slice_cmp, bytes_eq-Decides, sha256, both_true, find_rising, find_filter, only_left, in_found, into, World, IsWorld, Lock, Token, DiffersInId, DiffersInPlace, DiffersInDigest, find_token, locks_of, Tables, is_at, has_id, has_digest, lock_kept, token_kept, lock_row, token_row, Represents, lock_on, lock_with}
use Rattle.model.proofs.Ordered.{locks_are_those}
use Rattle.model.proofs.Once.{only_of}
use Rattle.model.specs.World as model
use Rattle.refinement.proofs.Found.{same_found, Excludes}

pub find_alike : {A : Type 0} (p q : A → Bool) (xs : List A) → ((x : A) → p x ≡ q x) → find p xs ≡ find q xs
find_alike p q [] same = refl
find_alike p q (x ∷ xs) same = rw (same x) (ap (λ o. cond (q x) (Some x) o) (find_alike p q xs same))

pub same_is : (a b : List ℕ) → bytes_eq a b ≡ true → a ≡ b
same_is a b = (bytes_eq-Decides a b).0

-- the lock is on the path of the ref of the repository
abbrev is_on : List ℕ → List ℕ → List ℕ → Lock → Bool
is_on repo ref path l = bytes_eq l.repo repo && (bytes_eq l.ref ref && bytes_eq l.path path)

row_on : (repo ref path : List ℕ) (l : Lock) → is_at repo ref path (lock_row l) ≡ is_on repo ref path l
row_on repo ref path l = rw (is_eq-slice_cmp l.repo repo, is_eq-slice_cmp l.ref ref, is_eq-slice_cmp l.path path) refl

one_place : (repo ref path : List ℕ) → Excludes (is_on repo ref path) DiffersInPlace
one_place repo ref path x y differ a b =
    let p = both_true _ _ a in let q = both_true _ _ b in let r = both_true _ _ p.1 in let s = both_true _ _ q.1 in
    differ (same_is x.repo repo p.0 ∙ sym (same_is y.repo repo q.0)) (same_is x.ref ref r.0 ∙ sym (same_is y.ref ref s.0)) (same_is x.path path r.1 ∙ sym (same_is y.path path s.1))

-- the lock on a path of a ref is the same lock among all locks, whatever their order
found_in : (world : World) (repo ref path : List ℕ) → IsWorld world → lock_on repo ref path world ≡ find (is_on repo ref path) world.locks
found_in world repo ref path w =
    let on_place : Lock → Bool = λ l. bytes_eq l.ref ref && bytes_eq l.path path in
    let in_repo : Lock → Bool = λ l. bytes_eq l.repo repo in
    find_rising (λ (a b : Lock). nat_lt a.id b.id) on_place (filter in_repo world.locks)
    (only_left on_place in_repo world.locks (only_of DiffersInPlace (is_on repo ref path) world.locks (one_place repo ref path) w.places))
    ∙ find_filter on_place in_repo world.locks

pub lock_found : (t : Tables) (world : World) (repo ref path : List ℕ) → Represents t world → IsWorld world
    → option_map lock_kept (find (is_at repo ref path) t.locks) ≡ option_map lock_row (lock_on repo ref path world)
lock_found t world repo ref path s w =
    same_found lock_kept lock_row (is_at repo ref path) DiffersInPlace t.locks world.locks s.locks
    (λ x y differ a b. one_place repo ref path x y differ (sym (row_on repo ref path x) ∙ a) (sym (row_on repo ref path y) ∙ b)) w.places
    ∙ ap (option_map lock_row) (find_alike (λ l. is_at repo ref path (lock_row l)) (is_on repo ref path) world.locks (row_on repo ref path)
    ∙ sym (found_in world repo ref path w))

-- a lock that is found in a repository is the repository's
pub found_own : (world : World) (repo : List ℕ) (p : Lock → Bool) → IfSome (find p (locks_of repo world)) (λ l. l.repo ≡ repo)
found_own world repo p = at (find p (locks_of repo world)) refl
  where
    at : (o : Option Lock) → find p (locks_of repo world) ≡ o → IfSome o (λ l. l.repo ≡ repo)
    at None e = tt
    at (Some l) e = ((locks_are_those world repo l).0 (into (locks_of repo world) l (in_found p (locks_of repo world) l e))).1

-- ---- by an id

same_number : (a b : ℕ) → int_eq (pos a) (pos b) ≡ (a == b)
same_number a b = grind (arith, ints, nat_tests)

number_is : (a b : ℕ) → (a == b) ≡ true → a ≡ b
number_is a b h = grind (arith, nat_tests)

pub row_numbered : (repo : List ℕ) (id : ℕ) (l : Lock) → has_id repo (pos id) (lock_row l) ≡ model.has_id repo id l
row_numbered repo id l = rw (is_eq-slice_cmp l.repo repo, same_number l.id id) refl

one_number : (repo : List ℕ) (id : ℕ) → Excludes (model.has_id repo id) DiffersInId
one_number repo id x y differ a b =
    let p = both_true _ _ a in let q = both_true _ _ b in
    differ (same_is x.repo repo p.0 ∙ sym (same_is y.repo repo q.0)) (number_is x.id id p.1 ∙ sym (number_is y.id id q.1))

-- the lock with an id is the same lock among all locks, whatever their order
pub numbered_in : (world : World) (repo : List ℕ) (id : ℕ) → IsWorld world → lock_with repo id world ≡ find (model.has_id repo id) world.locks
numbered_in world repo id w =
    let numbered : Lock → Bool = λ l. l.id == id in
    let in_repo : Lock → Bool = λ l. bytes_eq l.repo repo in
    find_rising (λ (a b : Lock). nat_lt a.id b.id) numbered (filter in_repo world.locks)
    (only_left numbered in_repo world.locks (only_of DiffersInId (model.has_id repo id) world.locks (one_number repo id) w.ids))
    ∙ find_filter numbered in_repo world.locks

pub number_found : (t : Tables) (world : World) (repo : List ℕ) (id : ℕ) → Represents t world → IsWorld world
    → option_map lock_kept (find (has_id repo (pos id)) t.locks) ≡ option_map lock_row (lock_with repo id world)
number_found t world repo id s w =
    same_found lock_kept lock_row (has_id repo (pos id)) DiffersInId t.locks world.locks s.locks
    (λ x y differ a b. one_number repo id x y differ (sym (row_numbered repo id x) ∙ a) (sym (row_numbered repo id y) ∙ b)) w.ids
    ∙ ap (option_map lock_row) (find_alike (λ l. has_id repo (pos id) (lock_row l)) (model.has_id repo id) world.locks (row_numbered repo id)
    ∙ sym (numbered_in world repo id w))

-- ---- by a digest

one_digest : (text : List ℕ) → Excludes (λ (i : Token). bytes_eq (sha256 i.text) (sha256 text)) DiffersInDigest
one_digest text x y differ a b = differ (same_is (sha256 x.text) (sha256 text) a ∙ sym (same_is (sha256 y.text) (sha256 text) b))

row_of_digest : (text : List ℕ) (i : Token) → has_digest (sha256 text) (token_row i) ≡ bytes_eq (sha256 i.text) (sha256 text)
row_of_digest text i = is_eq-slice_cmp (sha256 i.text) (sha256 text)

pub token_found : (t : Tables) (world : World) (text : List ℕ) → Represents t world → IsWorld world
    → option_map token_kept (find (has_digest (sha256 text)) t.tokens) ≡ option_map token_row (find_token text world)
token_found t world text s w =
    same_found token_kept token_row (has_digest (sha256 text)) DiffersInDigest t.tokens world.tokens s.tokens
    (λ x y differ a b. one_digest text x y differ (sym (row_of_digest text x) ∙ a) (sym (row_of_digest text y) ∙ b)) w.digests
    ∙ ap (option_map token_row) (find_alike (λ i. has_digest (sha256 text) (token_row i)) (λ i. bytes_eq (sha256 i.text) (sha256 text)) world.tokens (row_of_digest text))
