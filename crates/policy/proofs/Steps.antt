-- The repositories and rows of a file, one by one.
use Rattle.policy.proofs.Prelude.{◌≡◌, ◌∙◌, ℕ, ◌+◌, ◌<◌, List, [], ◌∷◌, ◌++◌, length, map, drop, get_or, true, false, not, ◌||◌, Option, None, is_some, refl, sym, ap, bytes_eq, Bor, append_assoc, drop_more, map-append, list_any-append, true≢false, and_parts, or_parts, or_from, not-true, false_from_ne_true, bytes_eq-Decides, find, option_copied, repo_text, Data, is_among, are_distinct, repo_view, row_view, entry_fault, repos_fault, rows_fault, repo_in, table_in, repos_in, rows_in}
use Rattle.std.specs.Bool.{IsTrue}
use Rattle.policy.specs.declared.faults.Place.TheVariants as place
use Rattle.policy.specs.Language.{repo_keys}
use Rattle.policy.proofs.Lists.{list_any-map, is_some-find, is_some-copied}
use Rattle.policy.specs.declared.repos.Repo.{Repo}
use Rattle.policy.specs.declared.rows.Row.{Row}
use Rattle.policy.specs.Repos.{names_of}

-- the entries before number index + 1 were read without a fault
pub record ReposSoFar (all : List Data) (index : ℕ) (repos : List Repo) (rest : List Data) : Type 0 where
  pub faults : repos_fault 1 [] all ≡ repos_fault (index + 1) (names_of repos) rest
  pub values : repos_in all ≡ map repo_view repos ++ repos_in rest
  pub distinct : IsTrue (are_distinct (names_of repos))

pub record RowsSoFar (all : List Data) (index : ℕ) (rows : List Row) (rest : List Data) : Type 0 where
  pub faults : rows_fault 1 all ≡ rows_fault (index + 1) rest
  pub values : rows_in all ≡ map row_view rows ++ rows_in rest

-- the entry at an index, and the entries after it
pub map-drop : {A B : Type 0} (f : A → B) (xs : List A) (i : ℕ) (x : A) → i < length xs → x ≡ get_or xs i x
    → map f (drop i xs) ≡ f x ∷ map f (drop (i + 1) xs)
map-drop f xs i x inside same = rw (drop_more xs i x inside) (ap (λ y. f y ∷ map f (drop (i + 1) xs)) (sym same))

-- ---- names

same_text : (x y : List ℕ) → bytes_eq x y ≡ false → bytes_eq y x ≡ false
same_text x y other =
    false_from_ne_true (bytes_eq y x)
    (λ same. true≢false (sym ((bytes_eq-Decides x y).1 (sym ((bytes_eq-Decides y x).0 same))) ∙ other))

-- one more name, which differs from the others
are_distinct-append : (names : List (List ℕ)) (name : List ℕ) → are_distinct names ≡ true → is_among name names ≡ false → are_distinct (names ++ name ∷ []) ≡ true
are_distinct-append [] name distinct new = refl
are_distinct-append (x ∷ xs) name distinct new =
    let (apart, later) = and_parts (not (is_among x xs)) (are_distinct xs) distinct in
    let (other, others) = or_parts (bytes_eq x name) (is_among name xs) new in
    let alone : is_among x (xs ++ name ∷ []) ≡ false =
    list_any-append (λ y. bytes_eq y x) xs (name ∷ [])
    ∙ or_from (is_among x xs) (bytes_eq name x || false) (not-true (is_among x xs) apart) (or_from (bytes_eq name x) false (same_text x name other) refl) in
    rw (alone, are_distinct-append xs name later others)

pub is_among-names_of : (repos : List Repo) (name : List ℕ) (r : Option (Bor Repo)) → option_copied r ≡ find (λ repo. bytes_eq (repo_text repo.name) name) repos
    → is_some r ≡ is_among name (names_of repos)
is_among-names_of repos name r found =
    is_some-copied r ∙ ap is_some found ∙ is_some-find (λ repo. bytes_eq (repo_text repo.name) name) repos
    ∙ sym (list_any-map (λ other. bytes_eq other name) (λ repo. repo_text repo.name) repos)

-- ---- the next entry

-- the next repository, which has no fault
pub repos_next : (all : List Data) (i : ℕ) (repos : List Repo) (rest later : List Data) (d : Data) (repo : Repo) → ReposSoFar all i repos rest
    → rest ≡ d ∷ later → entry_fault (place.Repo (i + 1)) repo_keys d ≡ None → repo_view repo ≡ repo_in (table_in d)
    → is_among (repo_text repo.name) (names_of repos) ≡ false → ReposSoFar all (i + 1) (repos ++ repo ∷ []) later
repos_next all i repos rest later d repo so_far here fine value new =
    let name : (repo_in (table_in d)).name ≡ repo_text repo.name = ap (λ r. r.name) (sym value) in
    let free : is_among (repo_in (table_in d)).name (names_of repos) ≡ false = rw name new in
    record {
      faults = so_far.faults ∙ rw (here, fine, free, name, map-append (λ r. repo_text r.name) repos (repo ∷ [])) refl;
      values = so_far.values ∙ rw (here, map-append repo_view repos (repo ∷ []), ← value, append_assoc) refl;
      distinct = rw (map-append (λ r. repo_text r.name) repos (repo ∷ [])) (are_distinct-append (names_of repos) (repo_text repo.name) so_far.distinct new);
    }
