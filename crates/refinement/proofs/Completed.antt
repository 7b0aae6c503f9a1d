-- A staged upload that is completed: what the tables represent then.
use Rattle.refinement.proofs.Prelude.{◌≡◌, ◌∙◌, ℕ, ◌+◌, ◌+ℤ◌, ◌<ℤ◌, ℤ, pos, Bool, true, false, not, List, [], ◌∷◌, map, filter, find, cond, length, Some, is_some, bytes_eq, IsTrue, refl, sym, ap, subst, AllPairs, IsPermutation, arith, sum_by, AllByRecursion, int_eq, ints, AllPairs-filter, IsPermutation-refl, IsPermutation-trans, IsPermutation-cons, IsPermutation-middle, is_eq-slice_cmp, IsKeyedBy, next_key, update_where, all_both, all_map, all_weaker, World, Object, total, Repo, Tables, same_bytes, is_upload, is_complete, is_staged, used_in, used_of, set_used, bytes_of, object_in, HasSize, DiffersInRepo, RepresentObjects, Represents}
use Rattle.std.proofs.lemmas.List.Sums.{sum_by-cons}
use Rattle.sqlite_keyed.proofs.KeyedLemmas.{IsKeyedBy-update_where, has_key-update_where}
use Rattle.model.specs.World.{is_retired}
use Rattle.refinement.specs.Representation.{AreUnretired}
use Rattle.tables.specs.Rows as row
use Rattle.tables.specs.Statements.{is_named, with_done}
use Rattle.tables.specs.Staging.{with_used, with_kept}
use Rattle.refinement.proofs.Counts.{same_text, used_set, used_other, made_kept}
use Rattle.refinement.proofs.Uploads.{found_alone}

abbrev done : row.Upload → row.Upload
done u = record u { done = pos 1 }

-- ---- the rows

none_updated : (id : ℤ) (a : ℤ) (us : List row.Upload) → int_eq a id ≡ true → AllByRecursion (λ (u : row.Upload). a <ℤ u.id) us → update_where (is_upload id) done us ≡ us
none_updated id a [] here above = refl
none_updated id a (u ∷ us) here above = rw (passed a u.id id here above.0) (ap (λ vs. u ∷ vs) (none_updated id a us here above.1))
  where
    passed : (a b id : ℤ) → int_eq a id ≡ true → a <ℤ b → int_eq b id ≡ false
    passed a b id here below = grind (arith, ints)

-- the completed upload is one more complete one
done_added : {A : Type 0} (f : row.Upload → A) (us : List row.Upload) (s : row.Upload) → IsKeyedBy (λ (u : row.Upload). u.id) us → find (is_upload s.id) us ≡ Some s → is_complete s ≡ false
    → IsPermutation (map f (filter is_complete (update_where (is_upload s.id) done us))) (f (done s) ∷ map f (filter is_complete us))
done_added f [] s up e staged = absurd (cc)
done_added {A} f (u ∷ us) s up e staged = at (is_upload s.id u) (is_complete u) refl refl e (done_added f us s up.1)
  where
    here : u ≡ s → map f (filter is_complete (done u ∷ us)) ≡ f (done s) ∷ map f (filter is_complete (u ∷ us))
    here same = rw (ap is_complete same ∙ staged) (ap (λ (v : row.Upload). f (done v) ∷ map f (filter is_complete us)) same)

    at : (v w : Bool) → is_upload s.id u ≡ v → is_complete u ≡ w → cond v (Some u) (find (is_upload s.id) us) ≡ Some s
        → (find (is_upload s.id) us ≡ Some s → is_complete s ≡ false → IsPermutation (map f (filter is_complete (update_where (is_upload s.id) done us))) (f (done s) ∷ map f (filter is_complete us)))
        → IsPermutation (map f (filter is_complete (cond v (done u) u ∷ update_where (is_upload s.id) done us))) (f (done s) ∷ map f (cond (is_complete u) (u ∷ filter is_complete us) (filter is_complete us)))
    at true w is whole e rest =
        let same : u ≡ s = cc in
        subst (λ (xs : List A). IsPermutation xs (f (done s) ∷ map f (filter is_complete (u ∷ us))))
        (sym (ap (λ (vs : List row.Upload). map f (filter is_complete (done u ∷ vs))) (none_updated s.id u.id us is up.0) ∙ here same))
        (IsPermutation-refl (f (done s) ∷ map f (filter is_complete (u ∷ us))))
    at false true is whole e rest =
        rw whole (IsPermutation-trans _ (f u ∷ f (done s) ∷ map f (filter is_complete us)) _ (IsPermutation-cons (f u) _ _ (rest e staged)) (IsPermutation-middle (f u ∷ []) (f (done s)) (map f (filter is_complete us))))
    at false false is whole e rest = rw whole (rest e staged)

-- and no longer a staged one
done_removed : (id : ℤ) (us : List row.Upload) → filter is_staged (update_where (is_upload id) done us) ≡ filter (λ u. not (is_upload id u)) (filter is_staged us)
done_removed id [] = refl
done_removed id (u ∷ us) = at (is_upload id u) (is_staged u) refl refl (done_removed id us)
  where
    at : (v w : Bool) → is_upload id u ≡ v → is_staged u ≡ w → filter is_staged (update_where (is_upload id) done us) ≡ filter (λ x. not (is_upload id x)) (filter is_staged us)
        → filter is_staged (cond v (done u) u ∷ update_where (is_upload id) done us) ≡ filter (λ x. not (is_upload id x)) (cond w (u ∷ filter is_staged us) (filter is_staged us))
    at true true is staged rest = rw is rest
    at true false is staged rest = rest
    at false true is staged rest = rw (is, staged) (ap (λ vs. u ∷ vs) rest)
    at false false is staged rest = rw staged rest

module _ (us : List row.Upload) (cs : List row.Chunk) (objects : List Object) (s : row.Upload) (r : RepresentObjects us cs objects) (there : find (is_upload s.id) us ≡ Some s)
    (staged : is_complete s ≡ false) (whole : s.size ≡ pos (length (bytes_of s.id cs))) where
  abbrev pub now : List row.Upload
  now = update_where (is_upload s.id) done us

  same_pos : (a b : ℕ) → pos a ≡ pos b → a ≡ b
  same_pos a b e = omega (arith, ints)

  done_size : HasSize (length (bytes_of s.id cs)) s → HasSize (length (bytes_of s.id cs)) (done s)
  done_size h = record { size = h.size; is = h.is; in_range = h.in_range; fits = h.fits; whole = λ _. same_pos (length (bytes_of s.id cs)) h.size (sym whole ∙ h.is) }

  size_now : (u : row.Upload) → (is_upload s.id u ≡ true → u ≡ s) → HasSize (length (bytes_of u.id cs)) u
      → HasSize (length (bytes_of (cond (is_upload s.id u) (done u) u).id cs)) (cond (is_upload s.id u) (done u) u)
  size_now u only h = at (is_upload s.id u) refl
    where
      at : (v : Bool) → is_upload s.id u ≡ v → HasSize (length (bytes_of (cond v (done u) u).id cs)) (cond v (done u) u)
      at true e =
          let same = only e in
          subst (λ (v : row.Upload). HasSize (length (bytes_of v.id cs)) (done v)) (sym same) (done_size (subst (λ (v : row.Upload). HasSize (length (bytes_of v.id cs)) v) same h))
      at false e = h

  pub objects_with : RepresentObjects now cs (object_in cs s ∷ objects)
  objects_with = record {
    complete = IsPermutation-trans _ _ _ (done_added (object_in cs) us s r.rise there staged) (IsPermutation-cons (object_in cs s) _ _ r.complete);
    sizes = all_map (λ u. HasSize (length (bytes_of u.id cs)) u) (λ u. cond (is_upload s.id u) (done u) u) us
        (all_both (λ u. is_upload s.id u ≡ true → u ≡ s) (λ u. HasSize (length (bytes_of u.id cs)) u)
        (λ u. HasSize (length (bytes_of (cond (is_upload s.id u) (done u) u).id cs)) (cond (is_upload s.id u) (done u) u)) size_now us (found_alone us s.id s r.rise there) r.sizes);
    numbered = r.numbered;
    owned = all_weaker (λ (c : row.Chunk). IsTrue (is_some (find (is_upload c.upload) us))) (λ (c : row.Chunk). IsTrue (is_some (find (is_upload c.upload) now)))
        (λ c has. has_key-update_where (λ (u : row.Upload). u.id) (is_upload s.id) done (λ u. refl) us c.upload ∙ has) cs r.owned;
    staged = subst (AllPairs DiffersInRepo) (sym (done_removed s.id us)) (AllPairs-filter DiffersInRepo (λ u. not (is_upload s.id u)) (filter is_staged us) r.staged);
    rise = IsKeyedBy-update_where (λ (u : row.Upload). u.id) (is_upload s.id) done (λ u. refl) us r.rise;
  }

-- ---- the tables

done_unretired : (world : World) (id : ℤ) (us : List row.Upload) → AreUnretired world us → AreUnretired world (update_where (is_upload id) done us)
done_unretired world id us all =
    all_map (λ u. is_staged u ≡ true → is_retired u.repo u.oid world ≡ false) (λ u. cond (is_upload id u) (done u) u) us
    (all_weaker (λ u. is_staged u ≡ true → is_retired u.repo u.oid world ≡ false) (λ u. is_staged (cond (is_upload id u) (done u) u) ≡ true → is_retired (cond (is_upload id u) (done u) u).repo (cond (is_upload id u) (done u) u).oid world ≡ false)
    (λ u was. at u (is_upload id u) was) us all)
  where
    at : (u : row.Upload) (v : Bool) → (is_staged u ≡ true → is_retired u.repo u.oid world ≡ false) → is_staged (cond v (done u) u) ≡ true → is_retired (cond v (done u) u).repo (cond v (done u) u).oid world ≡ false
    at u true was is = absurd (let e : false ≡ true = is in cc)
    at u false was is = was is

more_of : (a b : ℕ) (x y : ℤ) → x ≡ pos a → y ≡ pos b → x +ℤ y ≡ pos (b + a)
more_of a b x y p q = omega (arith, ints, p, q)

-- the number of bytes of each repository, with one more object
used_more : (repos : List Repo) (next : ℤ) (world : World) (o : Object) (used size : ℤ) → ((repo : List ℕ) → used_in (find (is_named repo) repos) ≡ pos (total repo world))
    → used ≡ used_in (find (is_named o.repo) repos) → size ≡ pos (length o.bytes) → (other : List ℕ)
    → used_in (find (is_named other) (set_used o.repo (used +ℤ size) next repos)) ≡ pos (total other (record world { objects = o ∷ world.objects }))
used_more repos next world o used size all is length_is other = at (same_bytes o.repo other) refl
  where
    own : List ℕ → Object → Bool
    own repo p = bytes_eq p.repo repo

    counted : (v : Bool) → same_bytes o.repo other ≡ v → total other (record world { objects = o ∷ world.objects }) ≡ sum_by (λ p. length p.bytes) (cond v (o ∷ filter (λ p. bytes_eq p.repo other) world.objects) (filter (λ p. bytes_eq p.repo other) world.objects))
    counted v e = ap (λ b. sum_by (λ p. length p.bytes) (cond b (o ∷ filter (λ p. bytes_eq p.repo other) world.objects) (filter (λ p. bytes_eq p.repo other) world.objects))) (sym (is_eq-slice_cmp o.repo other) ∙ e)

    at : (v : Bool) → same_bytes o.repo other ≡ v → used_in (find (is_named other) (set_used o.repo (used +ℤ size) next repos)) ≡ pos (total other (record world { objects = o ∷ world.objects }))
    at true e =
        ap (λ n. used_in (find (is_named n) (set_used o.repo (used +ℤ size) next repos))) (sym (same_text o.repo other e))
        ∙ used_set o.repo (used +ℤ size) next repos
        ∙ more_of (total other world) (length o.bytes) used size (is ∙ ap (λ n. used_in (find (is_named n) repos)) (same_text o.repo other e) ∙ all other) length_is
        ∙ ap pos (sym (sum_by-cons (λ p. length p.bytes) o (filter (λ p. bytes_eq p.repo other) world.objects)) ∙ sym (counted true e))
    at false e = used_other o.repo (used +ℤ size) next other repos e ∙ all other ∙ ap pos (sym (counted false e))

-- the tables in which a staged upload is complete represent the world with its object
pub kept_represented : (t : Tables) (world : World) (s : row.Upload) → Represents t world → find (is_upload s.id) t.uploads ≡ Some s → is_complete s ≡ false
    → s.size ≡ pos (length (bytes_of s.id t.chunks)) → Represents (with_kept s t) (record world { objects = object_in t.chunks s ∷ world.objects })
unfolding with_kept with_used with_done
kept_represented t world s r there staged whole = record {
  meta = r.meta;
  locks = r.locks;
  made = λ other. made_kept s.repo (used_of s.repo t +ℤ s.size) (next_key (λ x. x.rowid) t.repos) other t.repos ∙ r.made other;
  used = used_more t.repos (next_key (λ x. x.rowid) t.repos) world (object_in t.chunks s) (used_of s.repo t) s.size r.used refl whole;
  tokens = r.tokens;
  objects = objects_with t.uploads t.chunks world.objects s r.objects there staged whole;
  retired = r.retired;
  unretired = done_unretired world s.id t.uploads r.unretired;
}
