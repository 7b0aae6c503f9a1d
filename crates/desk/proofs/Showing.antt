-- Pages of locks, from their rows to what a client sees.
use Rattle.desk.proofs.Prelude.{◌≡◌, ◌∙◌, ℕ, Bool, true, false, ◌&&◌, not, List, [], ◌∷◌, map, filter, Option, Some, None, option_map, Bor, Result, Ok, Err, bytes_eq, refl, sym, ap, AllZip, ◌>>=◌, RepoState, Lock, ListForm, VerifyLocksForm, may_list, pull_question, push_question, Answer, Denial, Page, lists, splits, by_rules, permit, meets, list_verdict, listed_locks, ref_locks, ref_or_default, verify_locks_verdict, cursor_in, page_limit, page_of, IsOf, lock_shown, LockRow, lock_seen, form_of_filter, is_wanted, lock_part, IsUserOf, case_policy, case_repo, case_user, case_with}
use Rattle.std.specs.Option.{option_copied}
use Rattle.sqlite_trees.proofs.ListLemmas.{filter-map}
use Rattle.model.specs.Callers.{Caller, is_own}
use Rattle.forms.specs.declared.shown_lock.ShownLock.{ShownLock}
use Rattle.refinement.proofs.Tokens.{filter_alike}
use Rattle.cursor.specs.Owners.{is_owned, is_other}
use Rattle.cursor.specs.declared.filters.Filter.{Filter}
use Rattle.desk.specs.Paging.{filter_by_ref, filters_of, list_start, verify_start}
use Rattle.desk.specs.declared.cases.Case.{Case}

-- what is read through a reference is what is read from the value
pub read_alike : {A B : Type 0} (f : A → B) (value : Option A) (o : Option (Bor A)) → option_copied o ≡ value → option_map (λ (x : Bor A). f x.now) o ≡ option_map f value
read_alike f value None e = ap (option_map f) e
read_alike f value (Some x) e = ap (option_map f) e

-- ---- what a client sees

shown_row : (repo : List ℕ) (shown : ShownLock) (row : LockRow) → lock_shown shown ≡ lock_part row → IsOf shown (lock_seen repo row)
shown_row repo shown row same = record {
  id = ap (λ (l : Lock). l.id) (sym same);
  at = ap (λ (l : Lock). l.at) (sym same);
  owner = ap (λ (l : Lock). l.owner) (sym same);
  path = ap (λ (l : Lock). l.path) (sym same);
}

pub all_shown : (repo : List ℕ) (shown : List ShownLock) (rows : List LockRow) → map lock_shown shown ≡ map lock_part rows → AllZip IsOf shown (map (lock_seen repo) rows)
all_shown repo [] [] same = tt
all_shown repo [] (row ∷ rows) same = absurd (cc)
all_shown repo (one ∷ shown) [] same = absurd (cc)
all_shown repo (one ∷ shown) (row ∷ rows) same =
    let first : lock_shown one ≡ lock_part row = cc in
    let rest : map lock_shown shown ≡ map lock_part rows = cc in
    (shown_row repo one row first, all_shown repo shown rows rest)

-- the user's rows are the user's locks
pub own_rows : (repo user : List ℕ) (rows : List LockRow) → map (lock_seen repo) (filter (is_owned user) rows) ≡ filter (is_own user) (map (lock_seen repo) rows)
own_rows repo user rows = sym (filter-map (is_own user) (lock_seen repo) rows)

pub other_rows : (repo user : List ℕ) (rows : List LockRow) → map (lock_seen repo) (filter (is_other user) rows) ≡ filter (λ l. not (is_own user l)) (map (lock_seen repo) rows)
other_rows repo user rows = sym (filter-map (λ l. not (is_own user l)) (lock_seen repo) rows)

-- ---- which locks are wanted

module _ (case : Case) (who : Caller) (is_user : IsUserOf case who) (state : RepoState) where
  -- the locks that meet the filters, and that the caller may list
  pub listed_alike : (wanted : Filter) (asked : ListForm) → form_of_filter wanted ≡ filters_of asked
      → filter (is_wanted wanted (may_list (case_policy case) (case_user case))) state.locks ≡ listed_locks (case_with case who state) asked
  listed_alike wanted asked same =
      ap (λ (f : ListForm). filter (λ l. meets f l && may_list (case_policy case) (case_user case) l) state.locks) same
      ∙ ap (λ user. filter (λ l. meets asked l && may_list (case_policy case) user l) state.locks) is_user

  and_true : (b : Bool) → (b && true) ≡ b
  and_true true = refl
  and_true false = refl

  -- the locks of the ref
  pub ref_alike : (wanted : Filter) (ref : List ℕ) → form_of_filter wanted ≡ filter_by_ref ref
      → filter (is_wanted wanted (λ _. true)) state.locks ≡ ref_locks (case_with case who state) ref
  ref_alike wanted ref same =
      ap (λ (f : ListForm). filter (λ l. meets f l && true) state.locks) same
      ∙ filter_alike (λ l. bytes_eq l.ref ref && true) (λ l. bytes_eq l.ref ref) state.locks (λ l. and_true (bytes_eq l.ref ref))

-- ---- the verdicts

after_start : {A B C : Type 0} (may : Result A Denial) (cursor : Result B Denial) (f : B → Result C Denial) → (may >>= λ _. cursor >>= f) ≡ ((may >>= λ _. cursor) >>= f)
after_start (Ok x) cursor f = refl
after_start (Err denial) cursor f = refl

module _ (case : Case) (who : Caller) (is_user : IsUserOf case who) (state : RepoState) where
  -- the page of a list that begins at this id
  abbrev pub listed_from : ListForm → ℕ → Answer
  listed_from asked cursor = Ok (lists (page_of cursor (page_limit asked.limit) (listed_locks (case_with case who state) asked)))

  -- the verdict on a request for a list, by where the list begins
  pub list_by : (asked : ListForm) (start : Result ℕ Denial) → list_start case asked ≡ start → list_verdict (case_with case who state) asked ≡ (start >>= listed_from asked)
  list_by asked start is =
      ap (λ user. permit (case_policy case) (pull_question user (case_repo case).name) 403 >>= λ may. by_rules (cursor_in asked.cursor) >>= listed_from asked) (sym is_user)
      ∙ after_start (permit (case_policy case) (pull_question (case_user case) (case_repo case).name) 403) (by_rules (cursor_in asked.cursor)) (listed_from asked)
      ∙ ap (λ s. s >>= listed_from asked) is

  -- the page of the locks of a ref that begins at this id
  abbrev pub split_from : VerifyLocksForm → List ℕ → ℕ → Answer
  split_from asked ref cursor = Ok (splits (case_user case) (page_of cursor (page_limit asked.limit) (ref_locks (case_with case who state) ref)))

  -- the verdict on a request for the locks of a ref, by where the page begins
  pub verify_by : (asked : VerifyLocksForm) (ref : List ℕ) (start : Result ℕ Denial) → ref ≡ ref_or_default asked.ref (case_repo case) → verify_start case ref asked ≡ start
      → verify_locks_verdict (case_with case who state) asked ≡ (start >>= split_from asked ref)
  verify_by asked ref start named is =
      rw (← named) (ap (λ user. permit (case_policy case) (push_question user (case_repo case).name ref) 403 >>= λ may. by_rules (cursor_in asked.cursor) >>= λ cursor.
      Ok (splits user (page_of cursor (page_limit asked.limit) (ref_locks (case_with case who state) ref)))) (sym is_user))
      ∙ after_start (permit (case_policy case) (push_question (case_user case) (case_repo case).name ref) 403) (by_rules (cursor_in asked.cursor)) (split_from asked ref)
      ∙ ap (λ s. s >>= split_from asked ref) is
