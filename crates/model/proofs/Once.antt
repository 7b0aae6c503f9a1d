-- Elements that occur once, and names that are retired once.
use Rattle.std.proofs.Common.{◌≡◌, ◌∙◌, ℕ, Bool, true, false, ◌&&◌, List, [], ◌∷◌, map, filter, find, Option, Some, None, option_map, is_some, bytes_eq, refl, sym, ap, arith, suc}
use Rattle.std.specs.List.{AllByRecursion, AllPairs}
use Rattle.std.proofs.lemmas.List.Elements.{recursion_from_All}
use Rattle.std.proofs.lemmas.Slice.Eq.{bytes_eq-Decides}
use Rattle.model.specs.Orders.{text_before}
use Rattle.model.specs.Policy.{Repo}
use Rattle.model.specs.World.{World, Retired, IsWorld, DiffersInRetired, is_retired}
use Rattle.model.specs.RepoState.{repo_state, is_gone}
use Rattle.model.proofs.Lists.{IsOnly, only_map, only_left, find_rising, find_map, find_filter}
use Rattle.model.proofs.Tests.{both_true}

-- ---- elements that occur once

fails : {A : Type 0} (p : A → Bool) (x y : A) → (p x ≡ true → p y ≡ true → ⊥) → p x ≡ true → (v : Bool) → p y ≡ v → v ≡ false
fails p x y apart e true is = absurd (apart e is)
fails p x y apart e false is = refl

others : {A : Type 0} (Differ : A → A → Type 0) (p : A → Bool) (x : A) → ((y : A) → Differ x y → p x ≡ true → p y ≡ true → ⊥) → p x ≡ true → (ys : List A)
    → AllByRecursion (Differ x) ys → AllByRecursion (λ y. p y ≡ false) ys
others Differ p x apart e [] all = tt
others Differ p x apart e (y ∷ ys) all = (fails p x y (apart y all.0) e (p y) refl, others Differ p x apart e ys all.1)

-- if no two elements that pass the test can be in the list, only one passes
pub only_of : {A : Type 0} (Differ : A → A → Type 0) (p : A → Bool) (xs : List A) → ((x y : A) → Differ x y → p x ≡ true → p y ≡ true → ⊥) → AllPairs Differ xs → IsOnly p xs
only_of Differ p [] apart all = tt
only_of Differ p (x ∷ xs) apart all = (
  λ e. others Differ p x (apart x) e xs (recursion_from_All (Differ x) xs (λ j d less. all 0 (suc j) d (omega arith) (omega (arith, less)))),
  only_of Differ p xs apart (λ i j d below less. all (suc i) (suc j) d (omega (arith, below)) (omega (arith, less))),
)

-- ---- retired names

is_some_map : {A B : Type 0} (f : A → B) (o : Option A) → is_some (option_map f o) ≡ is_some o
is_some_map f (Some x) = refl
is_some_map f None = refl

-- a repository shows just the names that it retired
pub gone_is : (world : World) (repo : Repo) (name : List ℕ) → IsWorld world → is_gone name (repo_state repo world) ≡ is_retired repo.name name world
gone_is world repo name w =
    let p : List ℕ → Bool = λ other. bytes_eq other name in
    let named : Retired → Bool = λ r. bytes_eq r.name name in
    let q : Retired → Bool = λ r. bytes_eq r.repo repo.name in
    let apart : (x y : Retired) → DiffersInRetired x y → (q x && named x) ≡ true → (q y && named y) ≡ true → ⊥ = λ x y differ a b.
    let at_x = both_true (q x) (named x) a in let at_y = both_true (q y) (named y) b in
    differ ((bytes_eq-Decides x.repo repo.name).0 at_x.0 ∙ sym ((bytes_eq-Decides y.repo repo.name).0 at_y.0)) ((bytes_eq-Decides x.name name).0 at_x.1 ∙ sym ((bytes_eq-Decides y.name name).0 at_y.1)) in
    ap is_some
    (find_rising text_before p (map (λ (r : Retired). r.name) (filter q world.retired))
    (only_map p (λ (r : Retired). r.name) (filter q world.retired) (only_left named q world.retired (only_of DiffersInRetired (λ r. q r && named r) world.retired apart w.once)))
    ∙ find_map p (λ (r : Retired). r.name) (filter q world.retired)
    ∙ ap (option_map (λ (r : Retired). r.name)) (find_filter named q world.retired))
    ∙ is_some_map (λ (r : Retired). r.name) (find (λ r. q r && named r) world.retired)
