-- The staged upload of a repository is found.
use Rattle.tables.proofs.Prelude.{◌≡◌, ◌∙◌, inl, inr, ℕ, true, List, option_map, Option, Some, None, Result, Ok, Err, arith, refl, sym, ap, subst, IfOk, Vec, IfOk-weaker, Database, Held, state, Ghosts, Store, Remembered, UploadId, UploadRow, StoreFault, Tables, tables_of, IsKept, tables_in, same_bytes, UploadFields, upload_number, upload_fields, read_upload, IsUploadOf, remembered_in, KnowsStaged, IsLastOf, Looks, IsHonest, Moves, AddsNothing, shown, Learns, IsStagedOf, Seeks, Finds}
use Rattle.tables.specs.Staging.{staged_with}
use Rattle.tables.proofs.Completing.{none_found, one_found}
use Rattle.tables.proofs.Replacing.{no_last, none_found_last, found_last, last_is_remembered}

module _ {S : Type 0} (g : Ghosts S) (repo : List ℕ) where
  -- ---- on the connection

  -- the repository has begun no upload
  pub seeks_none : (a : Held S) → Seeks g a a None repo (Ok None)
  seeks_none a = record {
    answers = λ _ _ is_last. ap (option_map upload_fields) (sym (no_last repo (tables_in (state g a)) is_last));
    same = λ _. record { was_open = λ o. o; now = λ _. refl; committed = λ _. refl };
    survives = record { clean = omega arith; shield = λ s. s; counts = omega arith; limit = refl; closes = λ _ o. inl o; crash = λ _ db left. inl left };
  }

  module _ (a b : Held S) (id : UploadId) where
    abbrev pub IsRow : Result (Option UploadRow) StoreFault → Type 0
    IsRow r = Looks g a b r (λ t found. IsUploadOf found (staged_with (upload_number id) t))

    seeks_as : (r q : Result (Option UploadRow) StoreFault) → IsRow r
        → ((t : Tables) → IfOk r (λ found. IsUploadOf found (staged_with (upload_number id) t)) → IfOk q (λ found. IsLastOf (Some (upload_number id)) repo t → IsStagedOf repo t found))
        → Seeks g a b (Some id) repo q
    seeks_as r q looks says = record {
      answers = λ clean ready. says (tables_in (state g a)) (IfOk-weaker r _ _ (λ _ it. it.1) (looks.answers clean ready));
      same = looks.same;
      survives = looks.survives;
    }

    -- the last one is not staged
    pub seeks_nothing : IsRow (Ok None) → Seeks g a b (Some id) repo (Ok None)
    seeks_nothing looks =
        seeks_as (Ok None) (Ok None) looks (λ t h is_last. ap (option_map upload_fields) (sym (none_found_last repo t (upload_number id) is_last (none_found (staged_with (upload_number id) t) h))))

    -- it is
    pub seeks_one : (row : UploadRow) → ((f : UploadFields) → f ≡ read_upload row → same_bytes f.repo repo ≡ true) → IsRow (Ok (Some row)) → Seeks g a b (Some id) repo (Ok (Some row))
    seeks_one row named looks =
        seeks_as (Ok (Some row)) (Ok (Some row)) looks
        (λ t h is_last.
        let it = one_found row (staged_with (upload_number id) t) h in
        ap Some (sym it.2) ∙ ap (option_map upload_fields) (sym (found_last repo t (upload_number id) is_last it.0 it.1 (named (upload_fields it.0) it.2))))

    -- it was refused, or is another repository's
    pub seeks_failed : (r : Result (Option UploadRow) StoreFault) (fault : StoreFault) → IsRow r → Seeks g a b (Some id) repo (Err fault)
    seeks_failed r fault looks = seeks_as r (Err fault) looks (λ t h. tt)

  -- ---- on the store

  -- the staged uploads are unknown
  pub finds_unknown : (old mid : Store S) (fault : StoreFault) → Moves g (λ t. t) old mid → AddsNothing g old mid → Finds g old mid repo (Err fault)
  finds_unknown old mid fault same adds = record { answers = λ _ _. tt; same = same; adds = adds }

  -- what was learned is remembered
  pub finds : (old mid : Store S) (known : Vec Remembered) (last : Option UploadId) (conn : Held S) (r : Result (Option UploadRow) StoreFault) → Learns g old mid (Ok known) → option_map upload_number last ≡ remembered_in known.items repo
      → Seeks g mid.conn conn last repo r → Finds g old (record { conn = conn; staged = Some known }) repo r
  finds old mid known last conn r learned is_last it =
      let new : Store S = record { conn = conn; staged = Some known } in
      let clean : IsHonest g new → IsHonest g mid = λ k. omega (arith, k, it.survives.clean) in
      record {
        answers = λ k had. IfOk-weaker r _ _
            (λ found says is_open.
            let kept = it.same k in
            let same : shown g mid ≡ shown g new = sym (ap tables_of (kept.now is_open)) in
            subst (λ (t : Tables). IsStagedOf repo t found) same
            (says (subst (λ l. IsLastOf l repo (shown g mid)) (sym is_last) (last_is_remembered known repo (shown g mid) (learned.answers (clean k) had (kept.was_open is_open))))))
            (it.answers k (learned.same.ready had).ready);
        same = record {
          was_honest = λ k. learned.same.was_honest (clean k);
          was_open = λ k o. learned.same.was_open (clean k) ((it.same k).was_open o);
          ready = λ had. record {
            ready = λ k o. let kept = it.same k in subst IsKept (sym (kept.now o)) ((learned.same.ready had).ready (clean k) (kept.was_open o));
            known = λ k o. let kept = it.same k in subst (λ (d : Database). KnowsStaged (Some known) (tables_of d).uploads) (sym (kept.now o)) (learned.answers (clean k) had (kept.was_open o));
          };
          shows = λ k had o. ap tables_of ((it.same k).now o) ∙ learned.same.shows (clean k) had ((it.same k).was_open o);
        };
        adds = record {
          was_honest = λ k. learned.same.was_honest (clean k);
          outcomes = λ k t left. elim (it.survives.crash k left.0.trees left.2) [ inl before ↦ learned.adds.outcomes (clean k) t (left.0, left.1, before, left.3) | inr none ↦ absurd none ];
          safe = λ k safe trees left. elim (it.survives.crash k trees left) [ inl before ↦ learned.adds.safe (clean k) safe trees before | inr none ↦ absurd none ];
        };
      }
