-- A requested token, in the tables and in the definitions.
use Rattle.tokens.proofs.Prelude.{◌≡◌, ◌∙◌, ◌+◌, ◌≤◌, ℕ, pos, Bool, true, false, not, nat_le, List, length, filter, Option, Some, None, is_some, Result, Ok, Err, refl, sym, ap, subst, IsTrue, IfOk, OnOk, OnErr, IsErrAnd, MatchResult, leb-true, last_moment, is_hex_64, World, Token, IsToken, find_token, with_token, without_expired, token_verdict, already_issued, expires_too_late, after_token, IsTokenRequest, by_success, by_fault, has_expired, has_token, after_add, IsHonest, IsOpen, shown, Makes, Fails, Holds, token_kept, token_row, token_known, none_is, some_is, would_add, holds_token, still_if_known, holds_pruned, expired_counted, expired_gone, Issues, Refuses, denial_of, report_of, token_asked, token_until}
use Rattle.store.specs.declared.state.State.{Ghosts}
use Rattle.model.specs.Reading.{◌>>=◌, check, none_or}
use Rattle.model.specs.Steps.{IsStep, issues, prunes}
use Rattle.model.specs.Bounds.{changed, unchanged, failed, is_changed, left_by, ending_of}
use Rattle.model.proofs.Keeping.{keeps_without_expired}
use Rattle.tables.specs.Rows as row
use Rattle.tables.specs.Statements as tables
use Rattle.store.proofs.Moved.{moves_then}
use Rattle.tables.specs.declared.fault.StoreFault.{StoreFault}
use Rattle.refinement.specs.Left.{Leads, Ends, KeepsTables}
use Rattle.refinement.proofs.Leading.{still_then, ends_made, ends_failed, takes_made, takes_failed, takes_still}
use Rattle.refinement.proofs.Holding.{holds_still}
use Rattle.tokens.specs.Issuing.{Keeps}
use Rattle.tokens.specs.Pruning.{Prunes}
use Rattle.tokens.specs.declared.issuing.TokenFault.{TokenFault}
use Rattle.tokens.specs.declared.issuing.TokenFault.TheVariants.{AlreadyIssued, ExpiresTooLate}
use Rattle.tokens.specs.declared.issuing.TokenFault.TheVariants as fault
use Rattle.tokens.specs.declared.requests.TokenRequest.{TokenRequest}

-- ---- what the tables did

module _ {S : Type 0} (g : Ghosts S) (old new : S) (world : World) (h : Holds g old world) (honest : IsHonest g new) where
  -- the case in which they were asked for the row of the token
  pub keeps_by : (asked : TokenRequest) (text : List ℕ) (expires : ℕ) (k : row.Token) (r : Result Bool StoreFault) → token_kept k ≡ token_row (token_until asked text expires)
      → IfOk r (λ added. IsOpen g old × (has_token k.digest (shown g old) ≡ not added)) → OnOk r (Makes g (after_add k) old new) → OnErr r (Fails g (after_add k) old new) → Keeps g world asked text expires old new r
  keeps_by asked text expires k (Ok true) kept free made miss = λ in_range.
      let i = token_until asked text expires in
      let s = h.shows (made.moves.was_honest honest) (made.was_open honest) in
      let none = none_is (find_token text world) (sym (token_known (shown g old) world text s h.laws) ∙ ap (λ (r : row.Token). has_token r.digest (shown g old)) (sym kept) ∙ free.1) in
      (none, ends_made g old new changed world (with_token i world) (after_add k) h.ready made (holds_token g old new world k i made.moves free.1 kept in_range none h))
  keeps_by asked text expires k (Ok false) kept there made miss =
      let s = h.shows (made.moves.was_honest honest) (made.was_open honest) in (
        sym (token_known (shown g old) world text s h.laws) ∙ ap (λ (r : row.Token). has_token r.digest (shown g old)) (sym kept) ∙ there.1,
        ends_made g old new unchanged world world (after_add k) h.ready made (holds_still g old new world (still_if_known g old new world k made.moves there.1) h),
        still_if_known g old new world k made.moves there.1,
      )
  keeps_by asked text expires k (Err fault) kept there made miss = (
    λ in_range none.
        ends_failed g old new world (with_token (token_until asked text expires) world) (after_add k) miss (λ s. would_add (shown g old) world k (token_until asked text expires) s h.laws kept in_range none) h,
    miss.moves,
  )

  -- the case in which they were asked to remove what has expired
  pub prunes_by : (now : ℕ) (r : Result ℕ StoreFault) → now ≤ last_moment → IfOk r (λ n. IsOpen g old × (n ≡ length (filter (has_expired (pos now)) (shown g old).tokens)))
      → OnOk r (Makes g (tables.without_expired (pos now)) old new) → OnErr r (Fails g (tables.without_expired (pos now)) old new) → Prunes g world now old new r
  prunes_by now (Ok n) in_range is made miss =
      let counted = is.1 ∙ expired_counted (shown g old) world now (h.shows (made.moves.was_honest honest) (made.was_open honest)) in
      takes_made g old new world (without_expired now world) (prunes now (Some n)) (tables.without_expired (pos now)) h.ready made (in_range, by_success (ap Some counted) refl) (holds_pruned g old new world now made.moves h)
  prunes_by now (Err fault) in_range is made miss =
      (takes_failed g old new world (prunes now None) (tables.without_expired (pos now)) refl (in_range, by_fault refl refl) miss (λ s. (keeps_without_expired now world h.laws, expired_gone (shown g old) world now s)) h, miss.moves)

-- ---- the answer of the definitions

-- a granted token passed both checks
passed : (there : Option Token) (in_time : Bool) (asked granted : Token) → (none_or there (λ _. already_issued) >>= λ _. check in_time expires_too_late >>= λ _. Ok asked) ≡ Ok granted
    → (there ≡ None) × (in_time ≡ true) × (asked ≡ granted)
passed None true asked granted e = (refl, refl, cc)
passed None false asked granted e = absurd (cc)
passed (Some i) in_time asked granted e = absurd (cc)

module _ (world : World) (asked : TokenRequest) where
  pub is_there : is_some (find_token (token_asked asked).text world) ≡ true → token_verdict world (token_asked asked) ≡ Err already_issued
  is_there known = let there = some_is (find_token (token_asked asked).text world) known in rw there.1 refl

  pub is_request : IsTrue (is_hex_64 (token_asked asked).text) → IsTokenRequest (token_asked asked)
  is_request text = record { text = text; user = asked.user.now.in_range; repo = asked.repo.now.in_range; now = asked.in_range }

  in_range : IsTokenRequest (token_asked asked) → nat_le (asked.now + asked.seconds) last_moment ≡ true → IsToken (token_until asked (token_asked asked).text (asked.now + asked.seconds))
  in_range is in_time = record { text = is.text; user = is.user; repo = is.repo; expires = leb-true (asked.now + asked.seconds) last_moment in_time }

  -- a token that may be issued is a new one, in range
  is_new : (handed : List ℕ) (expires : ℕ) → handed ≡ (token_asked asked).text → IsTrue (is_hex_64 (token_asked asked).text) → token_verdict world (token_asked asked) ≡ Ok (token_until asked handed expires)
      → IsToken (token_until asked handed expires) × (find_token handed world ≡ None)
  is_new handed expires same hex verdict =
      let granted = passed (find_token (token_asked asked).text world) (nat_le (asked.now + asked.seconds) last_moment) (token_until asked (token_asked asked).text (asked.now + asked.seconds)) (token_until asked handed expires) verdict in
      (subst IsToken granted.2 (in_range (is_request hex) granted.1), ap (λ (t : List ℕ). find_token t world) same ∙ granted.0)

  refused_step : (f : TokenFault) → IsTokenRequest (token_asked asked) → denial_of f (token_verdict world (token_asked asked))
      → IsStep world (issues (token_asked asked) (report_of f)) world
  refused_step AlreadyIssued is e = (is, by_success (ap Some (sym e)) (sym (ap (after_token world) e)))
  refused_step ExpiresTooLate is e = (is, by_success (ap Some (sym e)) (sym (ap (after_token world) e)))
  refused_step (fault.Store f) is e = (is, by_fault refl refl)

  refusal_changes_none : (f : TokenFault) → is_changed (ending_of world (issues (token_asked asked) (report_of f))) ≡ false
  refusal_changes_none AlreadyIssued = refl
  refusal_changes_none ExpiresTooLate = refl
  refusal_changes_none (fault.Store f) = refl

  module _ {S : Type 0} (g : Ghosts S) (old mid new : S) where
    -- a token that may be issued and was stored is issued
    pub issues_by : (text handed : List ℕ) (expires : ℕ) → handed ≡ (token_asked asked).text → text ≡ (token_asked asked).text → IsTrue (is_hex_64 (token_asked asked).text)
        → token_verdict world (token_asked asked) ≡ Ok (token_until asked handed expires) → Leads g old mid world (λ bound. bound) → Keeps g world asked handed expires mid new (Ok true) → Issues g world old new asked text
    issues_by text handed expires same is hex verdict still kept =
        let token = token_until asked handed expires in
        let made = with_token token world in
        let there = kept (is_new handed expires same hex verdict).0 in
        record {
          token = token;
          verdict = verdict;
          text_is = same ∙ sym is;
          takes = record {
            step = (is_request hex, by_success (ap Some (sym verdict)) (sym (ap (after_token world) verdict)));
            leads = subst (λ (w : World). Ends g old new changed world w made) (sym (ap (after_token world) verdict)) (still_then g old mid new world made (left_by changed world made) still there.1);
          };
        }

    -- a token that was not stored is issued already
    pub refuses_by : (handed : List ℕ) (expires : ℕ) → IsTrue (is_hex_64 (token_asked asked).text) → handed ≡ (token_asked asked).text → Leads g old mid world (λ bound. bound) → KeepsTables g old mid
        → Keeps g world asked handed expires mid new (Ok false) → Refuses g world old new asked AlreadyIssued
    refuses_by handed expires hex same still tables kept =
        let verdict = is_there (ap (λ t. is_some (find_token t world)) (sym same) ∙ kept.0) in
        record {
          verdict = verdict;
          takes = record { step = refused_step AlreadyIssued (is_request hex) verdict; leads = still_then g old mid new world world (left_by unchanged world world) still kept.1 };
          tables = moves_then g old mid new tables kept.2;
        }

    -- a token that the store refused is not issued
    pub fails_by : (handed : List ℕ) (expires : ℕ) (f : StoreFault) → handed ≡ (token_asked asked).text → IsTrue (is_hex_64 (token_asked asked).text)
        → token_verdict world (token_asked asked) ≡ Ok (token_until asked handed expires) → Leads g old mid world (λ bound. bound) → KeepsTables g old mid → Keeps g world asked handed expires mid new (Err f)
        → Refuses g world old new asked (fault.Store f)
    fails_by handed expires f same hex verdict still tables kept =
        let new_one = is_new handed expires same hex verdict in
        let made = with_token (token_until asked handed expires) world in
        record {
          verdict = tt;
          takes = record {
            step = refused_step (fault.Store f) (is_request hex) tt;
            leads = subst (λ (w : World). Ends g old new failed world w world) (sym (ap (after_token world) verdict))
                (still_then g old mid new world world (left_by failed world made) still (kept.0 new_one.0 new_one.1));
          };
          tables = moves_then g old mid new tables kept.1;
        }

  -- a refusal before the store is asked to add the token is passed on
  pub refused_early : {S T : Type 0} (g : Ghosts S) (old new : S) (P : T → Type 0) (r : Result T TokenFault) (f : TokenFault) → IsErrAnd r (λ e. e ≡ f) → IsTrue (is_hex_64 (token_asked asked).text)
      → denial_of f (token_verdict world (token_asked asked)) → Leads g old new world (λ bound. bound) → KeepsTables g old new → MatchResult r P (λ e. Refuses g world old new asked e)
  refused_early g old new P (Ok text) f is hex verdict p same = absurd is
  refused_early g old new P (Err e) f is hex verdict p same =
      subst (λ (x : TokenFault). Refuses g world old new asked x) (sym is) (record {
        verdict = verdict;
        takes = takes_still g old new world (issues (token_asked asked) (report_of f)) (refusal_changes_none f) (refused_step f (is_request hex) verdict) p;
        tables = same;
      })
