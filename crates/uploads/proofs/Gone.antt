-- An object that is removed for good.
use Rattle.uploads.proofs.Prelude.{◌≡◌, ◌∙◌, ℕ, Bool, true, false, cond, List, Option, Some, None, Result, Ok, Err, find, filter, not, is_some, inl, refl, sym, ap, subst, Ghosts, World, IsWorld, object_named, Tables, Upload, IsHonest, IsOpen, HasTables, Makes, Fails, shown, StoreFault, From, Keeps, Holds, Represents, upload_number, without_staged, leads_none, leads_still, keeps_still, keeps_then, holds_made, from_weaker, all-filter}
use Rattle.names.specs.Texts.{is_hex_64, is_repo}
use Rattle.std.specs.Prelude.{IsTrue, IfOk}
use Rattle.model.specs.World.{is_retired, without_object}
use Rattle.model.specs.Bounds.{failed, ending_of, intended_world}
use Rattle.model.specs.Steps.{Event, IsStep, retires}
use Rattle.model.specs.Operator.{Removal, removed_now, removed_before, no_object, removal_of, after_removal, by_success, by_fault}
use Rattle.model.proofs.Keeping.{keeps_without_object}
use Rattle.model.proofs.Lists.{none_where}
use Rattle.tables.specs.Retiring as removing
use Rattle.tables.specs.Retiring.{after_retire}
use Rattle.store.proofs.Moved.{moves_then}
use Rattle.store.specs.Shown.{Finds}
use Rattle.tables.specs.Statements.{is_object, is_staged_in, is_upload, with_retired, without_chunks, without_row}
use Rattle.tables.specs.Staging.{IsUploadOf, UploadFields, upload_fields, read_upload, with_used, without_upload}
use Rattle.tables.specs.declared.rows.UploadRow.{UploadRow}
use Rattle.refinement.specs.Left.{KeepsTables, Reads, Takes}
use Rattle.refinement.specs.Staging.{StagesNoneIn}
use Rattle.refinement.proofs.Found.{none_passes}
use Rattle.refinement.proofs.Kept.{object_known}
use Rattle.refinement.proofs.Leading.{ends_failed_or, ends_still, keeps_ends, reads_lead, takes_still, takes_made, takes_then}
use Rattle.refinement.proofs.Retired.{would_retire, staged_in_gone}
use Rattle.refinement.proofs.Staged.{keeps_removed}
use Rattle.uploads.specs.Removing.{Shortens}
use Rattle.uploads.specs.Retiring.{IsSeen, LeavesStaged, Retires}
use Rattle.uploads.specs.declared.retiring.Retired.{Retired}
use Rattle.uploads.specs.declared.retiring.Retired.TheVariants.{Now, Already, Unknown}

-- ---- what the definitions say of the object

removal_by : (gone there : Bool) → Removal
removal_by gone there = cond gone removed_before (cond there removed_now no_object)

-- the object is to be removed
now_by : (gone there : Bool) → cond gone removed_before (cond there removed_now no_object) ≡ removed_now → (gone ≡ false) × (there ≡ true)
now_by true there e = absurd (cc)
now_by false true e = (refl, refl)
now_by false false e = absurd (cc)

pub is_now : (world : World) (repo name : List ℕ) → removal_of world repo name ≡ removed_now → (is_retired repo name world ≡ false) × (is_some (object_named repo name world) ≡ true)
is_now world repo name e = now_by (is_retired repo name world) (is_some (object_named repo name world)) e

-- nothing is to be removed
pub is_unknown : (world : World) (repo name : List ℕ) → is_retired repo name world ≡ false → object_named repo name world ≡ None → removal_of world repo name ≡ no_object
is_unknown world repo name gone none = rw (gone, none) refl

-- the object is there
pub is_there : (world : World) (repo name : List ℕ) → is_retired repo name world ≡ false → is_some (object_named repo name world) ≡ true → removal_of world repo name ≡ removed_now
is_there world repo name gone there = rw (gone, there) refl

-- ---- what is staged

-- nothing is found in a part of a list where nothing is found
none_in_part : {A : Type 0} (p q : A → Bool) (xs : List A) → find p xs ≡ None → find p (filter q xs) ≡ None
none_in_part p q xs none = none_where p (filter q xs) (all-filter (λ x. p x ≡ false) q xs (none_passes p xs none))

-- if nothing of the repository is staged, nothing is after an object is removed
none_after : (t : Tables) (repo name : List ℕ) → find (is_staged_in repo) t.uploads ≡ None → find (is_staged_in repo) (after_retire repo name t).uploads ≡ None
unfolding removing.after_retire removing.without_object with_retired with_used without_upload without_row without_chunks
none_after t repo name none = at (find (is_object repo name) t.uploads)
  where
    at : (o : Option Upload) → find (is_staged_in repo) (removing.without_found_object repo name o t).uploads ≡ None
    at None = none
    at (Some u) = none_in_part (is_staged_in repo) (λ v. not (is_upload u.id v)) t.uploads none

module _ {S : Type 0} (g : Ghosts S) (repo name : List ℕ) (in_repo : IsTrue (is_repo repo)) (in_name : IsTrue (is_hex_64 name)) where
  -- ---- steps

  refused_step : (world : World) → IsStep world (retires repo name None) world
  refused_step world = (in_repo, in_name, by_fault refl refl)

  told_step : (world : World) (given : Removal) → removal_of world repo name ≡ given → IsStep world (retires repo name (Some given)) (after_removal world repo name given)
  told_step world given is = (in_repo, in_name, by_success (ap Some (sym is)) (ap (after_removal world repo name) (sym is)))

  -- the store refused after calls that kept the world
  refused : (a b : S) (world : World) → Keeps g a b world → Takes g a b world (retires repo name None) world
  refused a b world keeps = record {
    step = refused_step world;
    leads = keeps_ends g a b b failed world (intended_world world (retires repo name None)) world keeps (ends_still g b b failed world (intended_world world (retires repo name None)) refl (leads_none g b world keeps.holds));
  }

  pub refused_from : (a b : S) (fault : StoreFault) → From g a b (Keeps g a b) → From g a b (λ world. Retires g world repo name a b (Err fault))
  refused_from a b fault p = from_weaker g a b _ _ (λ world keeps. refused a b world keeps) p

  -- ---- there is nothing to remove

  told : (a b : S) (world : World) (seen : Retired) → IsSeen world repo name (Some seen) → Holds g a world → Reads g a b (λ w. IsSeen w repo name (Some seen)) → Retires g world repo name a b (Ok seen)
  told a b world Now is h r = absurd is
  told a b world Already is h r = (takes_still g a b world (retires repo name (Some removed_before)) refl (told_step world removed_before is) (reads_lead g a b _ world r h), r.same)
  told a b world Unknown is h r = (takes_still g a b world (retires repo name (Some no_object)) refl (told_step world no_object is) (reads_lead g a b _ world r h), r.same)

  pub told_from : (a b : S) (seen : Retired) → Reads g a b (λ w. IsSeen w repo name (Some seen)) → From g a b (λ world. Retires g world repo name a b (Ok seen))
  told_from a b seen r = record { honest = r.same.was_honest; each = λ k world h. told a b world seen (r.each k world h) h r }

  pub unread_from : {P : World → Type 0} (a b : S) (fault : StoreFault) → Reads g a b P → From g a b (λ world. Retires g world repo name a b (Err fault))
  unread_from a b fault r = refused_from a b fault record { honest = r.same.was_honest; each = λ k world h. keeps_still g a b world (reads_lead g a b _ world r h) }

  staged_then : (a b c : S) (given : Retired) → KeepsTables g a b → LeavesStaged g repo b c given → LeavesStaged g repo a c given
  staged_then a b c Now same left = left
  staged_then a b c Already same left = moves_then g a b c same left
  staged_then a b c Unknown same left = moves_then g a b c same left

  after_reading : (a b c : S) (world : World) (r : Result Retired StoreFault) → Holds g a world → (p : Reads g a b (λ w. IsSeen w repo name None)) → Retires g world repo name b c r → Retires g world repo name a c r
  after_reading a b c world (Ok given) h p it = (takes_then g a b c world _ _ (reads_lead g a b _ world p h) it.0, staged_then a b c given p.same it.1)
  after_reading a b c world (Err fault) h p it = takes_then g a b c world _ _ (reads_lead g a b _ world p h) it

  pub then_removed : (a b c : S) (r : Result Retired StoreFault) → Reads g a b (λ w. IsSeen w repo name None) → From g b c (λ world. removal_of world repo name ≡ removed_now → Retires g world repo name b c r)
      → From g a c (λ world. Retires g world repo name a c r)
  then_removed a b c r p q = record {
    honest = λ k. p.same.was_honest (q.honest k);
    each = λ k world h.
        let before = q.honest k in
        after_reading a b c world r h p (q.each k world (reads_lead g a b _ world p h).holds (p.each before world h));
  }

  -- ---- it is removed

  would : (a : S) (world : World) → StagesNoneIn g a repo → removal_of world repo name ≡ removed_now → IsWorld world → IsHonest g a → IsOpen g a → Represents (shown g a) world
      → IsWorld (without_object repo name world) × Represents (after_retire repo name (shown g a)) (without_object repo name world)
  would a world none now laws k o s = let it = is_now world repo name now in would_retire (shown g a) world repo name s laws in_repo in_name it.0 (none k o) it.1

  none_left : (a b : S) → Makes g (after_retire repo name) a b → HasTables g a → StagesNoneIn g a repo → StagesNoneIn g b repo
  none_left a b m ready none k o =
      ap (λ (t : Tables). find (is_staged_in repo) t.uploads) (m.moves.shows k ready o) ∙ none_after (shown g a) repo name (none (m.moves.was_honest k) (m.moves.was_open k o))

  pub removed : (a b : S) (world : World) (m : Makes g (after_retire repo name) a b) → StagesNoneIn g a repo → removal_of world repo name ≡ removed_now → Holds g a world → Retires g world repo name a b (Ok Now)
  removed a b world m none now h =
      let laws = keeps_without_object repo name world in_repo in_name (is_now world repo name now).0 h.laws in (
        takes_made g a b world (without_object repo name world) (retires repo name (Some removed_now)) (after_retire repo name) h.ready m (told_step world removed_now now)
            (holds_made g a b (without_object repo name world) (after_retire repo name) h.ready m laws (λ k o. (would a world none now h.laws k o (h.shows k o)).1)),
        none_left a b m h.ready none,
      )

  pub removal_failed : (a b : S) (world : World) (fault : StoreFault) → Fails g (after_retire repo name) a b → StagesNoneIn g a repo → removal_of world repo name ≡ removed_now → Holds g a world → Retires g world repo name a b (Err fault)
  removal_failed a b world fault miss none now h = record {
    step = refused_step world;
    leads = subst (λ (w : World). Rattle.refinement.specs.Left.Ends g a b failed world w world) (ap (after_removal world repo name) (sym now))
        (ends_failed_or g a b world (without_object repo name world) (after_retire repo name) miss (λ k o s. inl (would a world none now h.laws k o s)) h);
  }

  -- an object that the world has is found
  not_lacking : (a : S) (world : World) → removal_of world repo name ≡ removed_now → IsWorld world → Represents (shown g a) world → false ≡ is_some (find (is_object repo name) (shown g a).uploads) → ⊥
  not_lacking a world now laws s lacking =
      let e : false ≡ true = lacking ∙ object_known (shown g a) world repo name s laws ∙ (is_now world repo name now).1 in
      absurd (cc)

  -- ---- after what was staged is removed

  abbrev pub Clears : S → S → Type 0
  Clears a b = From g a b (λ world. Keeps g a b world × StagesNoneIn g b repo)

  then_kept : (a b c : S) (world kept : World) (event : Event) → Keeps g a b world → Takes g b c world event kept → Takes g a c world event kept
  then_kept a b c world kept event p q = record { step = q.step; leads = keeps_ends g a b c (ending_of world event) world (intended_world world event) kept p q.leads }

  pub removed_from : (a b c : S) → Clears a b → Makes g (after_retire repo name) b c → From g a c (λ world. removal_of world repo name ≡ removed_now → Retires g world repo name a c (Ok Now))
  removed_from a b c p m = record {
    honest = λ k. p.honest (m.moves.was_honest k);
    each = λ k world h now. let it = p.each (m.moves.was_honest k) world h in let done = removed b c world m it.1 now it.0.holds in (then_kept a b c world _ _ it.0 done.0, done.1);
  }

  pub failed_from : (a b c : S) (fault : StoreFault) → Clears a b → Fails g (after_retire repo name) b c → From g a c (λ world. removal_of world repo name ≡ removed_now → Retires g world repo name a c (Err fault))
  failed_from a b c fault p miss = record {
    honest = λ k. p.honest (miss.moves.was_honest k);
    each = λ k world h now. let it = p.each (miss.moves.was_honest k) world h in then_kept a b c world _ _ it.0 (removal_failed b c world fault miss it.1 now it.0.holds);
  }

  pub lacking_from : (a b c : S) → Clears a b → Makes g (after_retire repo name) b c → (IsHonest g c → HasTables g b → IsOpen g b × (false ≡ is_some (find (is_object repo name) (shown g b).uploads)))
      → From g a c (λ world. removal_of world repo name ≡ removed_now → Retires g world repo name a c (Ok Unknown))
  lacking_from a b c p m said = record {
    honest = λ k. p.honest (m.moves.was_honest k);
    each = λ k world h now.
        let before = m.moves.was_honest k in
        let holds = (p.each before world h).0.holds in
        let it = said k holds.ready in
        absurd (not_lacking b world now holds.laws (holds.shows before it.0) it.1);
  }

-- ---- what is staged is removed

module _ {S : Type 0} (g : Ghosts S) (repo : List ℕ) where
  none_of : (o : Option Upload) → IsUploadOf None o → o ≡ None
  none_of None h = refl
  none_of (Some u) h = absurd (let e : None ≡ Some (upload_fields u) = h in cc)

  -- nothing was staged
  pub none_staged : (a b : S) (r : Result (Option UploadRow) StoreFault) → r ≡ Ok None → Finds g a b repo r → From g a b (λ world. Keeps g a b world × StagesNoneIn g b repo)
  none_staged a b r is it = record {
    honest = it.same.was_honest;
    each = λ k world h. (
      keeps_still g a b world (leads_still g a b world it.same it.adds h),
      λ clean o. none_of (find (is_staged_in repo) (shown g b).uploads) (subst (λ (q : Result (Option UploadRow) StoreFault). IfOk q (λ found. IsOpen g b → IsUploadOf found (find (is_staged_in repo) (shown g b).uploads))) is (it.answers clean h.ready) o),
    );
  }

  one_of : (row : UploadRow) (o : Option Upload) → IsUploadOf (Some row) o → (u : Upload) × (o ≡ Some u) × (upload_fields u ≡ read_upload row)
  one_of row None h = absurd (let e : Some (read_upload row) ≡ None = h in cc)
  one_of row (Some u) h = (u, refl, let e : read_upload row ≡ upload_fields u = (let e : Some (read_upload row) ≡ Some (upload_fields u) = h in cc) in sym e)

  -- what was staged is removed
  pub cleared : (a b c d : S) (row : UploadRow) → Finds g a b repo (Ok (Some row)) → From g b c (Shortens g b c) → Makes g (without_staged (upload_number row.id)) c d → From g a d (λ world. Keeps g a d world × StagesNoneIn g d repo)
  cleared a b c d row finds cut m = record {
    honest = λ k. finds.same.was_honest (cut.honest (m.moves.was_honest k));
    each = λ k world h.
        let then = m.moves.was_honest k in
        let found = keeps_still g a b world (leads_still g a b world finds.same finds.adds h) in
        let short = cut.each then world found.holds in
        let kept = keeps_then g a b c world found short.0 in
        let gone : Result (Unit {0}) StoreFault = Ok tt in (
          keeps_then g a c d world kept (keeps_removed g c d (upload_number row.id) world gone m tt kept.holds),
          λ clean o.
              let opened = m.was_open clean in
              let same = short.1 then opened in
              let some = one_of row (find (is_staged_in repo) (shown g b).uploads) (finds.answers (cut.honest then) h.ready same.0) in
              ap (λ (t : Tables). find (is_staged_in repo) t.uploads) (m.moves.shows clean kept.holds.ready o)
              ∙ ap (λ n. find (is_staged_in repo) (without_staged n (shown g c)).uploads) (sym (ap (λ (f : UploadFields). f.id) some.2))
              ∙ staged_in_gone (shown g c) world repo some.0 (kept.holds.shows then opened) (ap (find (is_staged_in repo)) same.1 ∙ some.1),
        );
  }
