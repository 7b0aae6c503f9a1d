-- The verdict on a request to release a lock, from the lock that is found.
use Rattle.desk.proofs.Prelude.{ap₂, lock_seen, LockRow, ◌≡◌, ◌∙◌, ◌<◌, ◌==◌, ◌&&◌, ℕ, Bool, true, false, List, [], ◌∷◌, find, cond, Option, Some, None, is_some, Result, Ok, Err, if◌then◌else◌, refl, sym, ap, subst, arith, IsErrAnd, Ghosts, Question, changed, failed, found_passes, StoreFault, Ends, Removes, Reply, IsReplyOf, AnswersAlone, NotGranted, AllByRecursion, nat_tests, L2, L3, ◌>>=◌, check, ok_or, World, Lock, IsWorld, locks_of, UnlockForm, lock_question, sees, Denial, permit, releases, by_rule, by_rules, store_refusal, release_verdict, unlock_verdict, IsBelow, lock_with, case_policy, case_repo, case_user, case_seen, case_with, RepoState, repo_state, denial_view, IsUserOf, Judges, right_to_release, found_verdict}
use Rattle.std.proofs.lemmas.Bool.{true≢false}
use Rattle.model.specs.declared.Right.{Right}
use Rattle.refinement.specs.Left.{Gives}
use Rattle.refinement.specs.Removal.{without_found}
use Rattle.desk.specs.declared.cases.Denial as code
use Rattle.model.specs.declared.Right.TheVariants as right
use Rattle.model.specs.Callers.{Caller, is_own}
use Rattle.model.proofs.Pages.{Rise, rise_from, locks_rise}
use Rattle.desk.specs.declared.cases.Case.{Case}
use Rattle.desk.specs.declared.rights.Asker.{Asker}
use Rattle.desk.specs.Askers.{asker_policy, asker_repo, asker_user}
use Rattle.desk.specs.Unlocking.{lock_verdict}

-- ---- the lock that the caller sees

-- the caller sees what the asker of the case sees
pub asker_sees : (case : Case) (a : Asker) (row : LockRow) → asker_policy a ≡ case_policy case → asker_user a ≡ case_user case → asker_repo a ≡ (case_repo case).name
    → sees (asker_policy a) (asker_user a) (lock_seen (asker_repo a) row) ≡ sees (case_policy case) (case_user case) (lock_seen (case_repo case).name row)
asker_sees case a row policy user repo =
    ap (λ p. sees p (asker_user a) (lock_seen (asker_repo a) row)) policy
    ∙ ap₂ (λ u n. sees (case_policy case) u (lock_seen n row)) user repo

later : (a b id : ℕ) → a < b → (a == id) ≡ true → (b == id) ≡ false
later a b id below is = grind (arith, nat_tests)

-- after the lock with the id there is no other
none_later : (id : ℕ) (v : Lock → Bool) (x : Lock) (xs : List Lock) → (x.id == id) ≡ true → AllByRecursion (IsBelow x) xs → find (λ l. l.id == id && v l) xs ≡ None
none_later id v x [] is above = refl
none_later id v x (y ∷ ys) is above = rw (later x.id y.id id above.0 is) (none_later id v x ys is above.1)

module _ (state : RepoState) (case : Case) (who : Caller) (is_user : IsUserOf case who) (force : Bool) where
  -- the verdict on a lock that the caller sees is the one of the definitions
  pub released_alike : (l : Lock) → release_verdict (case_with case who state) force l ≡ lock_verdict case force l
  released_alike l = rw (← is_user) (elim (is_own (case_user case) l) as (λ own.
      (if own then (permit (case_policy case) (lock_question right.Lock (case_user case) l) 403 >>= λ may. Ok (releases l))
      else (by_rules (check force L3) >>= λ forced. permit (case_policy case) (lock_question right.Force (case_user case) l) 403 >>= λ may. Ok (releases l)))
      ≡ ((if own then Ok right.Lock else (by_rules (check force L3) >>= λ forced. Ok right.Force)) >>= λ r. permit (case_policy case) (lock_question r (case_user case) l) 403 >>= λ may. Ok (releases l))) [
        | true ↦ refl
        | false ↦ elim force as (λ f.
            (by_rules (check f L3) >>= λ forced. permit (case_policy case) (lock_question right.Force (case_user case) l) 403 >>= λ may. Ok (releases l))
            ≡ ((by_rules (check f L3) >>= λ forced. Ok right.Force) >>= λ r. permit (case_policy case) (lock_question r (case_user case) l) 403 >>= λ may. Ok (releases l))) [
              | true ↦ refl
              | false ↦ refl
            ]
      ])

  -- the verdict on the lock that the caller sees, if there is one
  pub seen_alike : (v : Bool) (l : Lock) → sees (case_policy case) who.user l ≡ v
      → (by_rules (ok_or (cond v (Some l) None) L2) >>= release_verdict (case_with case who state) force) ≡ found_verdict case force (Some l)
  seen_alike true l is = released_alike l ∙ rw (ap (λ u. sees (case_policy case) u l) is_user ∙ is) refl
  seen_alike false l is = rw (ap (λ u. sees (case_policy case) u l) is_user ∙ is) refl

  found_among : (id : ℕ) (xs : List Lock) → Rise xs
      → (by_rules (ok_or (find (λ l. l.id == id && sees (case_policy case) who.user l) xs) L2) >>= release_verdict (case_with case who state) force)
      ≡ found_verdict case force (find (λ l. l.id == id) xs)
  found_among id [] up = refl
  found_among id (x ∷ xs) up = at (x.id == id) refl (found_among id xs up.1)
    where
      seen : Lock → Bool
      seen l = sees (case_policy case) who.user l

      there : (v : Bool) → seen x ≡ v → (x.id == id) ≡ true
          → (by_rules (ok_or (cond v (Some x) (find (λ l. l.id == id && seen l) xs)) L2) >>= release_verdict (case_with case who state) force) ≡ found_verdict case force (Some x)
      there true is same = seen_alike true x is
      there false is same = rw (none_later id seen x xs same up.0) (seen_alike false x is)

      at : (b : Bool) → (x.id == id) ≡ b
          → (by_rules (ok_or (find (λ l. l.id == id && seen l) xs) L2) >>= release_verdict (case_with case who state) force) ≡ found_verdict case force (find (λ l. l.id == id) xs)
          → (by_rules (ok_or (cond (b && seen x) (Some x) (find (λ l. l.id == id && seen l) xs)) L2) >>= release_verdict (case_with case who state) force)
          ≡ found_verdict case force (cond b (Some x) (find (λ l. l.id == id) xs))
      at true same rest = there (seen x) refl same
      at false same rest = rest

-- the verdict on the request, from the lock that is found by its id
pub verdict_on_found : (world : World) (case : Case) (who : Caller) (asked : UnlockForm) → IsUserOf case who → IsWorld world
    → unlock_verdict (case_seen world case who) asked ≡ found_verdict case asked.force (lock_with (case_repo case).name asked.id world)
verdict_on_found world case who asked is_user w =
    found_among (repo_state (case_repo case) world) case who is_user asked.force asked.id (locks_of (case_repo case).name world)
    (rise_from (locks_of (case_repo case).name world) (locks_rise world (case_repo case).name w))

-- ---- the checks of the code

pub own_right : (user : List ℕ) (force : Bool) (l : Lock) → is_own user l ≡ true → right_to_release user force l ≡ Ok right.Lock
own_right user force l is = rw is refl

pub forced_right : (user : List ℕ) (force : Bool) (l : Lock) → is_own user l ≡ false → force ≡ true → right_to_release user force l ≡ Ok right.Force
forced_right user force l is forced = rw (is, forced) refl

pub no_right : (user : List ℕ) (force : Bool) (l : Lock) → is_own user l ≡ false → force ≡ false → right_to_release user force l ≡ Err (by_rule L3)
no_right user force l is forced = rw (is, forced) refl

module _ (case : Case) (force : Bool) (l : Lock) where
  pub refused_right : (denial : Denial) → right_to_release (case_user case) force l ≡ Err denial → lock_verdict case force l ≡ Err denial
  refused_right denial is = rw is refl

  pub by_right : (r : Right) (q : Question) (judged : Result Unit code.Denial) → right_to_release (case_user case) force l ≡ Ok r → q ≡ lock_question r (case_user case) l
      → Judges (λ _. tt) judged (permit (case_policy case) q 403) → Judges (λ _. releases l) judged (lock_verdict case force l)
  by_right r q (Ok x) is asks judged = rw is (ap (λ may. may >>= λ _. Ok (releases l)) (subst (λ asked. permit (case_policy case) asked 403 ≡ Ok tt) asks judged))
  by_right r q (Err denial) is asks judged =
      rw is (ap (λ may. may >>= λ _. Ok (releases l)) (subst (λ asked. permit (case_policy case) asked 403 ≡ Err (denial_view denial)) asks judged))

  pub unseen : sees (case_policy case) (case_user case) l ≡ false → found_verdict case force (Some l) ≡ Err (by_rule L2)
  unseen is = rw is refl

  pub seen : sees (case_policy case) (case_user case) l ≡ true → found_verdict case force (Some l) ≡ lock_verdict case force l
  seen is = rw is refl

-- a denial that a `?` returns
pub passed_on : {X Y : Type 0} (view : X → Y) (e : code.Denial) (r : Result X code.Denial) (judged : Result Y Denial) → IsErrAnd r (λ d. d ≡ e) → judged ≡ Err (denial_view e) → Judges view r judged
passed_on view e (Ok x) judged is given = absurd is
passed_on view e (Err d) judged is given = given ∙ ap (λ x. Err (denial_view x)) (sym is)

-- ---- the lock that is removed

number_is : (a b : ℕ) → (a == b) ≡ true → a ≡ b
number_is a b h = grind (arith, nat_tests)

-- the lock that is found has the id
pub id_found : (repo : List ℕ) (id : ℕ) (world : World) (l : Lock) → lock_with repo id world ≡ Some l → lock_with repo l.id world ≡ Some l
id_found repo id world l there =
    subst (λ n. lock_with repo n world ≡ Some l) (sym (number_is l.id id (found_passes (λ (k : Lock). k.id == id) (locks_of repo world) l there))) there

module _ {S : Type 0} (g : Ghosts S) (old new : S) (world : World) (repo : List ℕ) (id : ℕ) (l : Lock) (there : lock_with repo id world ≡ Some l) where
  pub removed : (reply : Reply) → IsReplyOf reply (Ok (releases l)) → Removes g world repo id old new (Ok true) → AnswersAlone g old new world (Ok (releases l)) (Ok reply)
  removed reply shows done = (
    record {
      shows = shows;
      gives = subst (λ (o : Option Lock). Ends g old new changed world (without_found o world) (without_found o world)) there done.1;
    },
    tt,
  )

  -- the lock is there, so it is removed
  pub not_removed : (r : Result Reply NotGranted) → Removes g world repo id old new (Ok false) → AnswersAlone g old new world (Ok (releases l)) r
  not_removed r done = absurd (true≢false (sym (ap is_some there) ∙ done.0))

  pub removal_refused : (fault : StoreFault) → Removes g world repo id old new (Err fault) → Gives g old new world (Ok (releases l)) store_refusal
  removal_refused fault done = subst (λ (o : Option Lock). Ends g old new failed world (without_found o world) world) there done.0
