-- Tables that are the same as others represent the world of the others.
use Rattle.std.proofs.Common.{◌≡◌, ◌∙◌, ◌⊎◌, inl, inr, ℤ, pos, Bool, true, false, not, ◌&&◌, cond, List, [], ◌∷◌, map, filter, find, Option, Some, None, option_map, unwrap_or, is_some, IsTrue, IsPermutation, AllPairs, length, arith, ◌<ℤ◌, refl, sym, ap, subst}
use Rattle.std.specs.List.{AllByRecursion}
use Rattle.std.specs.Ordering.{int_eq}
use Rattle.std.proofs.lemmas.Int.{ints}
use Rattle.std.proofs.lemmas.Bool.{true≢false}
use Rattle.sqlite_keyed.proofs.ListLemmas.{map-map, all_both, all-filter, ascending-filter, filter_all, filter_none}
use Rattle.model.proofs.Lists.{each_passes, each_weaker}
use Rattle.model.specs.World.{World, Object}
use Rattle.tables.specs.Rows as row
use Rattle.tables.specs.Rows.{Tables}
use Rattle.tables.specs.Runs.{current_meta}
use Rattle.tables.specs.Statements.{same_bytes, is_upload, is_complete, is_staged, is_staged_with}
use Rattle.tables.specs.Steps.{TokenFields, token_fields}
use Rattle.store.specs.Normal.{AreMarked, is_of_staged, settled}
use Rattle.refinement.specs.Objects.{RepresentObjects, HasSize, DiffersInRepo, bytes_of, object_in}
use Rattle.refinement.specs.Representation.{Represents, AreUnretired, lock_row, token_row, retired_row}
use Rattle.refinement.proofs.Found.{find_map}
use Rattle.refinement.proofs.Rearranged.{remains_represented}
use Rattle.tables.specs.Listing.{RepoLockFields, RetiredFields, repo_fields, repo_lock_fields, retired_fields}
use Rattle.compared.specs.Same.{AreSame}

-- ---- rows that are the same in the columns that are read

module _ {A B C : Type 0} (f : A → B) (g : B → C) where
  read_same : (xs ys : List A) → map f ys ≡ map f xs → map (λ x. g (f x)) xs ≡ map (λ x. g (f x)) ys
  read_same xs ys same = sym (map-map g f xs) ∙ ap (map g) (sym same) ∙ map-map g f ys

  read_found : (o : Option A) → option_map (λ x. g (f x)) o ≡ option_map g (option_map f o)
  read_found None = refl
  read_found (Some x) = refl

  found_same : (p : B → Bool) (xs ys : List A) → map f ys ≡ map f xs
      → option_map (λ x. g (f x)) (find (λ x. p (f x)) ys) ≡ option_map (λ x. g (f x)) (find (λ x. p (f x)) xs)
  found_same p xs ys same =
      read_found (find (λ x. p (f x)) ys) ∙ ap (option_map g) (sym (find_map p f ys) ∙ ap (find p) same ∙ find_map p f xs) ∙ sym (read_found (find (λ x. p (f x)) xs))

abbrev lock_from : RepoLockFields → row.Lock
lock_from l = record { rowid = pos 0; repo = l.repo; id = l.lock.id; ref_name = l.lock.ref_name; path = l.lock.path; owner = l.lock.owner; moment = l.lock.moment }

abbrev token_from : TokenFields → row.Token
token_from t = record { rowid = pos 0; digest = t.digest; user = t.user; repo = t.repo; op = t.op; expires = t.expires }

abbrev retired_from : RetiredFields → row.Retired
retired_from r = record { rowid = pos 0; repo = r.repo; oid = r.oid }

-- ---- complete uploads, and chunks that are not of staged ones

abbrev IsMarked : row.Upload → Type 0
IsMarked u = (u.done ≡ pos 0) ⊎ (u.done ≡ pos 1)

-- the upload of a chunk that is not of a staged one is complete
still_owned : (id : ℤ) (us : List row.Upload) → AllByRecursion IsMarked us → IsTrue (is_some (find (is_upload id) us)) → is_some (find (is_staged_with id) us) ≡ false
    → IsTrue (is_some (find (is_upload id) (filter is_complete us)))
still_owned id [] marked found other = found
still_owned id (u ∷ us) marked found other = at (is_upload id u) refl marked.0 found other (still_owned id us marked.1)
  where
    at : (b : Bool) → is_upload id u ≡ b → IsMarked u → IsTrue (is_some (cond b (Some u) (find (is_upload id) us))) → is_some (cond (b && is_staged u) (Some u) (find (is_staged_with id) us)) ≡ false
        → (IsTrue (is_some (find (is_upload id) us)) → is_some (find (is_staged_with id) us) ≡ false → IsTrue (is_some (find (is_upload id) (filter is_complete us))))
        → IsTrue (is_some (find (is_upload id) (cond (is_complete u) (u ∷ filter is_complete us) (filter is_complete us))))
    at true is (inl staged) found other rest = absurd (true≢false (rw staged at other))
    at true is (inr complete) found other rest = rw (complete, is) refl
    at false is mark found other rest =
        elim (is_complete u) as (λ c. IsTrue (is_some (find (is_upload id) (cond c (u ∷ filter is_complete us) (filter is_complete us)))))
        [ true ↦ rw is (rest found other) | false ↦ rest found other ]

whole_only : (u : row.Upload) → is_complete u ≡ true → is_staged u ≡ false
whole_only u whole = whole_mark u.done whole
  where
    whole_mark : (n : ℤ) → int_eq n (pos 1) ≡ true → int_eq n (pos 0) ≡ false
    whole_mark n e = grind (arith, ints)

module _ (us : List row.Upload) (cs : List row.Chunk) (marked : AllByRecursion IsMarked us) where
  abbrev HasUpload : List row.Upload → row.Chunk → Type 0
  HasUpload uploads c = IsTrue (is_some (find (is_upload c.upload) uploads))

  abbrev rest : List row.Chunk
  rest = filter (λ c. not (is_of_staged us c)) cs

  negated : (b : Bool) → not b ≡ true → b ≡ false
  negated true e = sym e
  negated false e = refl

  -- the objects are the same without the staged uploads
  only_complete : (objects : List Object) → RepresentObjects us rest objects → RepresentObjects (filter is_complete us) rest objects
  only_complete objects r = record {
    complete = subst (λ l. IsPermutation (map (object_in rest) l) objects) (sym (filter_all is_complete (filter is_complete us) (each_passes is_complete us))) r.complete;
    sizes = all-filter (λ u. HasSize (length (bytes_of u.id rest)) u) is_complete us r.sizes;
    numbered = r.numbered;
    owned = all_both (HasUpload us) (λ c. not (is_of_staged us c) ≡ true) (HasUpload (filter is_complete us))
        (λ c found other. still_owned c.upload us marked found (negated (is_of_staged us c) other)) rest r.owned (each_passes (λ c. not (is_of_staged us c)) cs);
    staged = subst (AllPairs DiffersInRepo) (sym (filter_none is_staged (filter is_complete us) (each_weaker (λ u. is_complete u ≡ true) (λ u. is_staged u ≡ false) (filter is_complete us) whole_only (each_passes is_complete us))))
        (λ i j d below within. absurd (omega (arith, within)));
    rise = ascending-filter (λ (a b : row.Upload). a.id <ℤ b.id) is_complete us r.rise;
  }

-- ---- the tables

pub same_represented : (old new : Tables) (world : World) → AreSame old new → AreMarked old → new.meta ≡ current_meta ∷ [] → Represents old world → Represents new world
same_represented old new world same marked meta represented =
    let r = remains_represented old (settled old) world (inr refl) represented in
    record {
      meta = meta;
      locks = subst (λ l. IsPermutation l (map lock_row world.locks)) (read_same repo_lock_fields lock_from old.locks new.locks same.locks) r.locks;
      made = λ repo. ap (λ o. unwrap_or o (pos 0)) (found_same repo_fields (λ f. f.made) (λ f. same_bytes f.name repo) old.repos new.repos same.repos) ∙ r.made repo;
      used = λ repo. ap (λ o. unwrap_or o (pos 0)) (found_same repo_fields (λ f. f.used) (λ f. same_bytes f.name repo) old.repos new.repos same.repos) ∙ r.used repo;
      tokens = subst (λ l. IsPermutation l (map token_row world.tokens)) (read_same token_fields token_from old.tokens new.tokens same.tokens) r.tokens;
      objects = subst (λ cs. RepresentObjects new.uploads cs world.objects) (sym same.chunks.kept)
          (subst (λ us. RepresentObjects us (settled old).chunks world.objects) (sym same.uploads) (only_complete old.uploads old.chunks marked world.objects r.objects));
      retired = subst (λ l. IsPermutation l (map retired_row world.retired)) (read_same retired_fields retired_from old.retired new.retired same.retired) r.retired;
      unretired = subst (AreUnretired world) (sym same.uploads) (all-filter _ is_complete old.uploads r.unretired);
    }
