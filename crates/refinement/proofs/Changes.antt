-- The effect of a change of the tables on the world.
use Rattle.refinement.proofs.Prelude.{◌≡◌, ℕ, ◌+◌, ℤ, pos, Bool, true, false, List, [], ◌∷◌, ◌++◌, map, find, cond, bytes_eq, refl, sym, ap, ◌∙◌, subst, IsPermutation, map-append, IsPermutation-refl, IsPermutation-trans, IsPermutation-cons, IsPermutation-to_front, bytes_eq-Decides, next_key, World, Lock, with_lock, one_more, nothing, Tables, made_in, made_of, set_made, fresh, DiffersInRepo, lock_kept, lock_row, Represents}
use Rattle.sqlite.specs.Schema.{Schema}
use Rattle.tables.specs.Layout.{current}
use Rattle.tables.specs.Rows as row
use Rattle.tables.specs.Statements.{is_named, with_lock as with_lock_row}
use Rattle.tables.specs.Steps.{with_made, with_new_lock}
use Rattle.refinement.proofs.Counts.{not_named, made_set, made_other, used_kept}
use Rattle.refinement.proofs.Sorting.{into_pairs}

-- ---- the tables of a new database

pub fresh_represented : (schema : Schema) → Represents (fresh current schema) nothing
fresh_represented schema = record {
  meta = refl;
  locks = IsPermutation-refl [];
  made = λ repo. refl;
  used = λ repo. refl;
  tokens = IsPermutation-refl [];
  objects = record {
    complete = IsPermutation-refl [];
    sizes = tt;
    numbered = λ id. refl;
    owned = tt;
    staged = into_pairs DiffersInRepo [] tt;
    rise = tt;
  };
  retired = IsPermutation-refl [];
  unretired = tt;
}

-- ---- one more lock

count_made : (world : World) (repo other : List ℕ) (t : Tables) (id : ℤ) → ((r : List ℕ) → made_of r t ≡ pos (world.made r)) → id ≡ pos (world.made repo + 1)
    → made_in (find (is_named other) (set_made repo id (next_key (λ x. x.rowid) t.repos) t.repos)) ≡ pos (one_more repo world.made other)
count_made world repo other t id made e = at (bytes_eq other repo) refl
  where
    at : (v : Bool) → bytes_eq other repo ≡ v
        → made_in (find (is_named other) (set_made repo id (next_key (λ x. x.rowid) t.repos) t.repos)) ≡ pos (cond v (world.made other + 1) (world.made other))
    at true is =
        let same : other ≡ repo = (bytes_eq-Decides other repo).0 is in
        ap (λ o. made_in (find (is_named o) (set_made repo id (next_key (λ x. x.rowid) t.repos) t.repos))) same
        ∙ made_set repo id (next_key (λ x. x.rowid) t.repos) t.repos ∙ e ∙ ap (λ r. pos (world.made r + 1)) (sym same)
    at false is = made_other repo id (next_key (λ x. x.rowid) t.repos) other t.repos (not_named repo other is) ∙ made other

-- one more row at the end, one more lock or token at the front
pub one_item_more : {A B K : Type 0} (kept : A → K) (row : B → K) (xs : List A) (ys : List B) (x : A) (y : B)
    → IsPermutation (map kept xs) (map row ys) → kept x ≡ row y → IsPermutation (map kept (xs ++ x ∷ [])) (map row (y ∷ ys))
one_item_more {K = K} kept row xs ys x y same e =
    let P : List K → Type 0 = λ ks. IsPermutation ks (map row (y ∷ ys)) in
    let Q : K → Type 0 = λ k. IsPermutation (map kept xs ++ k ∷ []) (map row (y ∷ ys)) in
    subst P (sym (map-append kept xs (x ∷ [])))
    (subst Q (sym e) (IsPermutation-trans (map kept xs ++ row y ∷ []) (row y ∷ map kept xs) (row y ∷ map row ys)
    (IsPermutation-to_front (map kept xs) (row y)) (IsPermutation-cons (row y) (map kept xs) (map row ys) same)))

pub new_lock_represented : (t : Tables) (world : World) (asked : row.Lock) (id : ℤ) (l : Lock) → Represents t world
    → lock_kept (record asked { id = id }) ≡ lock_row l → asked.repo ≡ l.repo → id ≡ pos (world.made l.repo + 1)
    → Represents (with_new_lock asked id t) (with_lock l world)
unfolding with_new_lock with_made with_lock_row
new_lock_represented t world asked id l s kept repo e = record {
  meta = s.meta;
  locks = one_item_more lock_kept lock_row t.locks world.locks _ l s.locks kept;
  made = λ other. subst (λ (r : List ℕ). made_in (find (is_named other) (set_made r id (next_key (λ x. x.rowid) t.repos) t.repos)) ≡ pos (one_more l.repo world.made other)) (sym repo)
      (count_made world l.repo other t id s.made e);
  used = λ other. used_kept asked.repo id (next_key (λ x. x.rowid) t.repos) other t.repos ∙ s.used other;
  tokens = s.tokens;
  objects = s.objects;
  retired = s.retired;
  unretired = s.unretired;
}
