-- A store that learns which uploads are staged, and begins one.
use Rattle.tables.proofs.Prelude.{◌≡◌, inl, inr, filter, Some, None, Option, option_map, IfSome, Result, Ok, Err, IsErr, refl, sym, ap, subst, ◌∙◌, AllByRecursion, Vec, true≢false, IfOk-weaker, Database, Held, state, Ghosts, all_kept, repo_text, Store, Remembered, NewUpload, UploadId, StoreFault, Tables, tables_of, is_staged, upload_number, asked_upload, IsAbove, after_begin, remembered_in, IsLast, IsNoted, IsLastOf, HasLast, IsKept, Looks, Chooses, IsHonest, IsOpen, HasTables, Moves, AddsNothing, Begins, shown, Learns}
use Rattle.tables.proofs.Once.{same_tables}
use Rattle.tables.specs.Remembered.{KnowsStaged}
use Rattle.tables.specs.Calls as call
use Rattle.tables.proofs.Replacing.{last_is_remembered, begun_is_remembered}
use Rattle.tables.proofs.Stores.{was_open, keeps_moves, reads_from}

module _ {S : Type 0} (g : Ghosts S) where
  -- ---- learning

  -- what was remembered is taken out of the store
  pub learns_known : (old : Store S) (known : Vec Remembered) (rest : Option (Vec Remembered)) → old.staged ≡ Some known → rest ≡ None → Learns g old (record old { staged = rest }) (Ok known)
  unfolding KnowsStaged
  learns_known old known rest some none = record {
    answers = λ k had is_open. subst (λ m. KnowsStaged m (shown g old).uploads) some (had.known k is_open);
    same = keeps_moves g old (record old { staged = rest }) (λ us _. subst (λ m. KnowsStaged m us) (sym none) tt) (λ k. k) (λ k. record { was_open = λ o. o; now = λ _. refl; committed = λ _. refl });
    adds = record { was_honest = λ k. k; outcomes = λ _ t left. left; safe = λ _ s. s };
  }

  -- the staged uploads were read
  pub learns_read : {T : Type 0} (old : Store S) (conn : Held S) (rest : Option (Vec Remembered)) (r : Result T StoreFault) (q : Result (Vec Remembered) StoreFault) (P : Tables → T → Type 0) → rest ≡ None → Looks g old.conn conn r P
      → call.Answers g old.conn conn q (λ t known. AllByRecursion (IsLast known.items) (filter is_staged t.uploads)) → Learns g old (record { conn = conn; staged = rest }) q
  unfolding KnowsStaged
  learns_read old conn rest r q P none looks answers =
      let new : Store S = record { conn = conn; staged = rest } in
      let reads = reads_from g old new r q P (λ t k. AllByRecursion (IsLast k.items) (filter is_staged t.uploads)) (λ us _. subst (λ m. KnowsStaged m us) (sym none) tt) looks answers in
      record {
        answers = λ k had. IfOk-weaker q _ _
            (λ found read is_open. subst (λ (t : Tables). KnowsStaged (Some found) t.uploads) (sym (reads.same.shows k had is_open)) (all_kept (IsLast found.items) is_staged (shown g old).uploads read.1)) (reads.answers k had);
        same = reads.same;
        adds = reads.adds;
      }

  -- ---- beginning

  -- the staged uploads are unknown
  pub begins_none : (old mid : Store S) (asked : NewUpload) (r : Result UploadId StoreFault) → IsErr r → Moves g (λ t. t) old mid → AddsNothing g old mid → Begins g old mid r asked
  begins_none old mid asked (Ok id) err same adds = absurd (true≢false (sym err))
  begins_none old mid asked (Err fault) err same adds = record {
    answers = λ _ _. tt;
    made = tt;
    failed = record { moves = same; adds = λ _. record { was_honest = adds.was_honest; outcomes = λ k t left. inl (adds.outcomes k t left); safe = adds.safe } };
  }

  module _ (old mid : Store S) (asked : NewUpload) (known : Vec Remembered) (learned : Learns g old mid (Ok known)) (last : Option UploadId) (is_last : option_map upload_number last ≡ remembered_in known.items (repo_text asked.repo.now))
      (conn : Held S) where
    abbrev IsChosen : Result UploadId StoreFault → Type 0
    IsChosen r =
        Chooses g (HasLast (option_map upload_number last) (repo_text asked.repo.now) (state g mid.conn)) mid.conn conn r (λ id. after_begin (asked_upload asked (upload_number id))) (λ t id. IsAbove t (upload_number id))

    given : HasTables g old → HasLast (option_map upload_number last) (repo_text asked.repo.now) (state g mid.conn)
    given had = record {
      ready = (learned.same.ready had).ready;
      only = λ clean is_open. subst (λ l. IsLastOf l (repo_text asked.repo.now) (shown g mid)) (sym is_last) (last_is_remembered known (repo_text asked.repo.now) (shown g mid) (learned.answers clean had is_open));
    }

    -- the upload was begun, and its id is remembered
    pub begins_made : (id : UploadId) (noted : Option (Vec Remembered)) → IfSome noted (λ new. IsNoted known.items (repo_text asked.repo.now) (upload_number id) new.items) → IsChosen (Ok id)
        → Begins g old (record { conn = conn; staged = noted }) (Ok id) asked
    begins_made id noted is_noted it =
        let new : Store S = record { conn = conn; staged = noted } in
        let step = after_begin (asked_upload asked (upload_number id)) in
        let commits = it.made in
        let mid_open : IsHonest g new → HasTables g old → IsOpen g mid = λ k had. (commits.ok k (given had)).0 in
        let opened : IsHonest g new → IsOpen g old = was_open g old new (λ k had. learned.same.was_open (commits.clean k) (mid_open k had)) in
        let shows : (k : IsHonest g new) (had : HasTables g old) → shown g mid ≡ shown g old = λ k had. learned.same.shows (commits.clean k) had (mid_open k had) in
        record {
          answers = λ k had. let says = it.answers k (given had) in (learned.same.was_open (commits.clean k) says.0, subst (λ (t : Tables). IsAbove t (upload_number id)) (shows k had) says.1);
          made = record {
            moves = record {
              was_honest = λ k. learned.same.was_honest (commits.clean k);
              was_open = λ k _. opened k;
              ready = λ had. record {
                ready = λ clean _. (commits.ok clean (given had)).1.kept;
                known = λ clean _. subst (λ (t : Tables). KnowsStaged noted t.uploads) (sym (commits.ok clean (given had)).1.tables)
                    (begun_is_remembered known noted asked (upload_number id) (shown g mid) (learned.answers (commits.clean clean) had (mid_open clean had)) is_noted);
              };
              shows = λ k had _. (commits.ok k (given had)).1.tables ∙ ap step (shows k had);
            };
            was_open = opened;
            is_open = commits.is_open;
            durable = λ had. record {
              only = λ k t left. left.3 ∙ same_tables left.0 (state g conn).now left.1 (commits.ok k (given had)).1.kept (commits.saved k left.0.trees left.2);
              safe = λ k trees left. ((state g conn).now, (commits.ok k (given had)).1.kept, commits.saved k trees left);
            };
          };
          failed = tt;
        }

    -- it was not begun, and what was learned is remembered
    pub begins_failed : (fault : StoreFault) → IsChosen (Err fault) → Begins g old (record { conn = conn; staged = Some known }) (Err fault) asked
    begins_failed fault it = record {
      answers = λ _ _. tt;
      made = tt;
      failed = record {
        moves = record {
          was_honest = λ k. learned.same.was_honest (it.clean k);
          was_open = λ k o. learned.same.was_open (it.clean k) ((it.err k).was_open o);
          ready = λ had. record {
            ready = λ clean o. let kept = it.err clean in subst IsKept (sym (kept.now o)) ((learned.same.ready had).ready (it.clean clean) (kept.was_open o));
            known = λ clean o. let kept = it.err clean in subst (λ (d : Database). KnowsStaged (Some known) (tables_of d).uploads) (sym (kept.now o)) (learned.answers (it.clean clean) had (kept.was_open o));
          };
          shows = λ k had o. ap tables_of ((it.err k).now o) ∙ learned.same.shows (it.clean k) had ((it.err k).was_open o);
        };
        adds = λ had. record {
          was_honest = λ k. learned.same.was_honest (it.clean k);
          outcomes = λ k t left. elim ((it.stop (given had)).crash k left.0.trees left.2) [
            | inl before ↦ inl (learned.adds.outcomes (it.clean k) t (left.0, left.1, before, left.3))
            | inr after ↦
                let same : shown g mid ≡ shown g old = learned.same.shows (it.clean k) had after.2.1 in
                let id = upload_number after.0 in
                inr (learned.same.was_open (it.clean k) after.2.1, (id, subst (λ (u : Tables). IsAbove u id) same after.1, left.3 ∙ same_tables left.0 after.2.0 left.1 after.2.2.kept after.2.3 ∙ after.2.2.tables ∙ ap (after_begin (asked_upload asked id)) same))
          ];
          safe = λ k safe trees left. elim ((it.stop (given had)).crash k trees left) [ inl before ↦ learned.adds.safe (it.clean k) safe trees before | inr after ↦ (after.2.0, after.2.2.kept, after.2.3) ];
        };
      };
    }
