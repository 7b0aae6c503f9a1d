-- What is served was uploaded.
use Rattle.std.proofs.Common.{not, ◌≡◌, ℕ, inl, inr, ◌⊎◌, Bool, true, false, ◌||◌, List, [], ◌∷◌, refl, sym, ap, subst, ◌∙◌, arith, Result, Ok, Err, Option, Some, None, bytes_eq, cond, IfOk, ◌==◌, is_some, ◌&&◌, nat_lt, suc}
use Rattle.std.specs.Bool.{⊤}
use Rattle.std.proofs.lemmas.Option.{none-some, same_Some}
use Rattle.std.proofs.lemmas.Bool.{cond_both}
use Rattle.std.proofs.lemmas.List.Elements.{recursion_from_All, All-from_recursion}
use Rattle.std.proofs.lemmas.Slice.Eq.{bytes_eq-Decides}
use Rattle.httparse.specs.Grammar.{RequestHead}
use Rattle.names.specs.Texts.{is_hex_64, last_lock_id}
use Rattle.names.specs.declared.rules.Rule.{Rule}
use Rattle.names.specs.declared.rules.Rule.TheVariants as rule
use Rattle.model.specs.declared.Form.{Form}
use Rattle.model.specs.declared.Form.TheVariants as form
use Rattle.model.specs.declared.Right.TheVariants as right
use Rattle.model.specs.Reading.{◌>>=◌, check, ok_or, none_or}
use Rattle.model.specs.Policy.{repo_named}
use Rattle.model.specs.World.{World, Object, Lock, Token, IsObject, IsUnretired, is_retired, object_named, has_name, name_of, nothing, with_object}
use Rattle.model.specs.RepoState.{lock_at, size_of, is_gone, has_room}
use Rattle.model.specs.Forms.{PutForm, Request, asks_batch, asks_get, asks_put, asks_verify, asks_lock, asks_list, asks_verify_locks, asks_unlock, request_of, put_form, query_ref, batch_form, verify_form, lock_form, list_form, verify_locks_form, unlock_form}
use Rattle.model.specs.Heads.{Target, head_verdict, query_of}
use Rattle.model.specs.Callers.{caller_by, lock_question, push_question}
use Rattle.model.specs.Cases.{Setting, Case, case_in, DeskRequest}
use Rattle.model.specs.Answers.{Grant, stores, makes_lock, offers, serves, confirms, lists, splits, releases, Answer, Denial, by_lock, by_rules, permit, may_pull, may_push, Plan, grants, sends, receives}
use Rattle.model.specs.Locks.{ref_or_default, new_lock, lock_verdict, list_verdict, verify_locks_verdict, unlock_verdict, visible_lock, release_verdict}
use Rattle.model.specs.Batch.{may_batch, batch_verdict}
use Rattle.model.specs.Pages.{cursor_in}
use Rattle.model.specs.Objects.{finish, verify_verdict}
use Rattle.model.specs.Verdict.{plan_to, plan_for, is_covered, desk_plan, desk_request, verdict, early_verdict, desk_verdict}
use Rattle.model.specs.Operator.{TokenDenial, token_verdict, after_token, Outcome, issue_outcome, prune_outcome, Removal, removed_now, removed_before, no_object, removal_of, after_removal, retire_outcome, Reports, by_success, by_fault}
use Rattle.model.specs.Steps.{verdict_on, denial_alone, after, Message, message, bad_head, Exchange, judgement, Carries, by_verdict, by_refusal, Event, exchanged, issues, prunes, retires, IsStep, Run}
use Rattle.model.specs.Laws.{IsPutOf, IsGetOf, ServesWhatIsAsked, ServesWhatIsKept, ServedHasItsName, Removes, ServedWasPut, WasPut}
use Rattle.model.proofs.Checks.{passed, then_any, by_rules_ok, ok_is}
use Rattle.model.proofs.Keeping.{makes_world}
use Rattle.model.proofs.Lists.{In, into, each_in, in_before_filter, in_found, found_passes}
use Rattle.model.proofs.Retired.{none_removes}
use Rattle.model.proofs.Tests.{both_true}

-- ---- which requests touch contents

-- a grant without a content
abbrev pub IsPlain : Grant → Type 0
IsPlain (serves o) = ⊥
IsPlain (stores o) = ⊥
IsPlain _ = ⊤

-- a content is stored only for a Put, under the name of its target
abbrev pub IsFrom : Form → List ℕ → Plan → Type 0
IsFrom f parameter (grants g) = IsPlain g
IsFrom f parameter (sends name size) = (f ≡ form.Get) × (parameter ≡ name)
IsFrom f parameter (receives name) = (f ≡ form.Put) × (parameter ≡ name)

abbrev pub IsAsked : Form → List ℕ → Request → Type 0
IsAsked f parameter (asks_put asked) = (f ≡ form.Put) × (parameter ≡ asked.name)
IsAsked f parameter (asks_get name) = (f ≡ form.Get) × (parameter ≡ name)
IsAsked f parameter _ = ⊤

put_asked : (parameter query : List ℕ) → IfOk (put_form parameter query) (λ asked. parameter ≡ asked.name)
unfolding put_form
put_asked parameter query =
    then_any (λ (asked : PutForm). parameter ≡ asked.name) (check (is_hex_64 parameter) rule.J2) _ (λ name.
    then_any (λ (asked : PutForm). parameter ≡ asked.name) (query_ref query) _ (λ ref. refl))

pub request_asked : (f : Form) (parameter query body : List ℕ) → IfOk (request_of f parameter query body) (IsAsked f parameter)
request_asked form.Put parameter query body = passed (λ (asked : PutForm). parameter ≡ asked.name) (IsAsked form.Put parameter) (put_form parameter query) _ (put_asked parameter query) (λ asked e. (refl, e))
request_asked form.Lock parameter query body = then_any (IsAsked form.Lock parameter) (lock_form body) _ (λ asked. tt)
request_asked form.Batch parameter query body = then_any (IsAsked form.Batch parameter) (batch_form body) _ (λ asked. tt)
request_asked form.Get parameter query body = then_any (IsAsked form.Get parameter) (check (is_hex_64 parameter) rule.J2) _ (λ asked. (refl, refl))
request_asked form.Verify parameter query body = then_any (IsAsked form.Verify parameter) (verify_form query body) _ (λ asked. tt)
request_asked form.List parameter query body = then_any (IsAsked form.List parameter) (list_form query) _ (λ asked. tt)
request_asked form.VerifyLocks parameter query body = then_any (IsAsked form.VerifyLocks parameter) (verify_locks_form body) _ (λ asked. tt)
request_asked form.Unlock parameter query body = then_any (IsAsked form.Unlock parameter) (unlock_form parameter body) _ (λ asked. tt)

-- ---- the plans

module _ (c : Case) (f : Form) (parameter : List ℕ) where
  plan_from : (answer : Answer) → IfOk answer IsPlain → IfOk (plan_to answer) (IsFrom f parameter)
  plan_from answer is = passed IsPlain (IsFrom f parameter) answer _ is (λ g plain. plain)

  release_plain : (force : Bool) (l : Lock) → IfOk (release_verdict c force l) IsPlain
  release_plain force l =
      cond_both (bytes_eq l.owner c.caller.user) _ _ (λ a. IfOk a IsPlain)
      (λ _. then_any IsPlain (permit c.setting.policy (lock_question right.Lock c.caller.user l) 403) _ (λ may. tt))
      (λ _. then_any IsPlain (by_rules (check force rule.L3)) _ (λ forced. then_any IsPlain (permit c.setting.policy (lock_question right.Force c.caller.user l) 403) _ (λ may. tt)))

  lock_plain : (may : Result ⊤ Denial) (there : Option Lock) (room : Bool) (l : Lock)
      → IfOk (may >>= λ _. none_or there by_lock >>= λ _. by_rules (check room rule.L5) >>= λ _. Ok (makes_lock l)) IsPlain
  lock_plain (Ok x) None true l = tt
  lock_plain (Ok x) None false l = tt
  lock_plain (Ok x) (Some k) room l = tt
  lock_plain (Err e) there room l = tt

  plans_from : (left : ℕ) (asked : Request) → IsAsked f parameter asked → IfOk (plan_for c left asked) (IsFrom f parameter)
  plans_from left (asks_lock asked) is =
      plan_from (lock_verdict c asked)
      (lock_plain (permit c.setting.policy (lock_question right.Lock c.caller.user (new_lock c asked)) 403)
      (lock_at (ref_or_default asked.ref c.repo) asked.path c.state) (nat_lt c.state.made last_lock_id) (new_lock c asked))
  plans_from left (asks_batch asked) is = plan_from (batch_verdict c asked) (then_any IsPlain (may_batch c asked asked.operation) _ (λ may. tt))
  plans_from left (asks_get name) is =
      then_any (IsFrom f parameter) (may_pull c.setting.policy c.caller.user c.repo.name 404) _ (λ may.
      then_any (IsFrom f parameter) (by_rules (check (not (is_gone name c.state)) rule.X4)) _ (λ there.
      then_any (IsFrom f parameter) (by_rules (ok_or (size_of name c.state) rule.X1)) _ (λ size. is)))
  plans_from left (asks_put asked) is =
      then_any (IsFrom f parameter) (may_push c.setting.policy c.caller.user c.repo.name (ref_or_default asked.ref c.repo)) _ (λ may.
      then_any (IsFrom f parameter) (by_rules (check (not (is_gone asked.name c.state)) rule.X4)) _ (λ there.
      then_any (IsFrom f parameter) (by_rules (check (has_room left c.state || is_some (size_of asked.name c.state)) rule.X3)) _ (λ fits. is)))
  plans_from left (asks_verify asked) is =
      plan_from (verify_verdict c asked)
      (then_any IsPlain (may_push c.setting.policy c.caller.user c.repo.name (ref_or_default asked.ref c.repo)) _ (λ may.
      then_any IsPlain (by_rules (ok_or (size_of asked.name c.state) rule.V1)) _ (λ size.
      then_any IsPlain (by_rules (check (size == asked.size) rule.V2)) _ (λ same. tt))))
  plans_from left (asks_list asked) is =
      plan_from (list_verdict c asked)
      (then_any IsPlain (may_pull c.setting.policy c.caller.user c.repo.name 403) _ (λ may. then_any IsPlain (by_rules (cursor_in asked.cursor)) _ (λ cursor. tt)))
  plans_from left (asks_verify_locks asked) is =
      plan_from (verify_locks_verdict c asked)
      (then_any IsPlain (permit c.setting.policy (push_question c.caller.user c.repo.name (ref_or_default asked.ref c.repo)) 403) _ (λ may.
      then_any IsPlain (by_rules (cursor_in asked.cursor)) _ (λ cursor. tt)))
  plans_from left (asks_unlock asked) is =
      plan_from (unlock_verdict c asked)
      (then_any IsPlain (by_rules (ok_or (visible_lock c asked.id) rule.L2)) _ (λ l. release_plain asked.force l))

pub desk_from : (world : World) (setting : Setting) (asked : DeskRequest) (f : Form) (parameter : List ℕ) → IfOk asked.request (IsAsked f parameter)
    → IfOk (desk_plan world setting asked) (IsFrom f parameter)
desk_from world setting asked f parameter is =
    let P : Plan → Type 0 = IsFrom f parameter in
    then_any P (by_rules (caller_by world setting.now asked.bearers)) _ (λ caller.
    then_any P (by_rules (check (bytes_eq caller.repo asked.repo) rule.A4)) _ (λ own.
    then_any P (by_rules (ok_or (repo_named asked.repo setting.policy) rule.R1)) _ (λ repo.
    passed (IsAsked f parameter) P (by_rules asked.request) _ (by_rules_ok (IsAsked f parameter) asked.request is) (λ request what.
    then_any P (by_rules (check (is_covered caller request) rule.A5)) _ (λ covered.
    plans_from (case_in world setting caller repo) f parameter asked.left request what)))))

-- ---- the origin of a grant

-- the head and the body of a Put of just this object
pub record IsPut (head : RequestHead) (body : List ℕ) (o : Object) : Type 0 where
  pub target : Target
  pub verdict_is : head_verdict head ≡ Ok target
  pub form_is : target.form ≡ form.Put
  pub repo_is : target.repo ≡ o.repo
  pub name_is : target.parameter ≡ o.name
  pub bytes_are : body ≡ o.bytes

-- the head of a Get of this object, which is stored
pub record IsGet (world : World) (head : RequestHead) (o : Object) : Type 0 where
  pub target : Target
  pub verdict_is : head_verdict head ≡ Ok target
  pub form_is : target.form ≡ form.Get
  pub repo_is : target.repo ≡ o.repo
  pub name_is : target.parameter ≡ o.name
  pub stored : In world.objects o

abbrev CameFrom : World → RequestHead → List ℕ → Grant → Type 0
CameFrom world head body (serves o) = IsGet world head o
CameFrom world head body (stores o) = IsPut head body o
CameFrom world head body _ = ⊤

plain_came : (world : World) (head : RequestHead) (body : List ℕ) (g : Grant) → IsPlain g → CameFrom world head body g
plain_came world head body (serves o) is = absurd is
plain_came world head body (stores o) is = absurd is
plain_came world head body (makes_lock l) is = tt
plain_came world head body (offers some) is = tt
plain_came world head body confirms is = tt
plain_came world head body (lists page) is = tt
plain_came world head body (splits user page) is = tt
plain_came world head body (releases l) is = tt

stored_came : (world : World) (head : RequestHead) (body : List ℕ) (target : Target) (name : List ℕ) → head_verdict head ≡ Ok target → target.form ≡ form.Get → target.parameter ≡ name
    → IfOk (by_rules (ok_or (object_named target.repo name world) rule.X1) >>= λ o. Ok (serves o)) (CameFrom world head body)
stored_came world head body target name j get same = at (object_named target.repo name world) refl
  where
    at : (there : Option Object) → object_named target.repo name world ≡ there → IfOk (by_rules (ok_or there rule.X1) >>= λ o. Ok (serves o)) (CameFrom world head body)
    at (Some o) e =
        let both = both_true (bytes_eq o.repo target.repo) (bytes_eq o.name name) (found_passes (λ (p : Object). bytes_eq p.repo target.repo && bytes_eq p.name name) world.objects o e) in
        record {
          target = target;
          verdict_is = j;
          form_is = get;
          repo_is = sym ((bytes_eq-Decides o.repo target.repo).0 both.0);
          name_is = same ∙ sym ((bytes_eq-Decides o.name name).0 both.1);
          stored = in_found (λ p. bytes_eq p.repo target.repo && bytes_eq p.name name) world.objects o e;
        }
    at None e = tt

finish_came : (world : World) (head : RequestHead) (body : List ℕ) (target : Target) (plan : Plan) → head_verdict head ≡ Ok target → IsFrom target.form target.parameter plan
    → IfOk (finish world target.repo body plan) (CameFrom world head body)
finish_came world head body target (grants g) j is = plain_came world head body g is
finish_came world head body target (sends name size) j is = stored_came world head body target name j is.0 is.1
finish_came world head body target (receives name) j is =
    then_any (CameFrom world head body) (by_rules (check (bytes_eq name (name_of body)) rule.X2)) _ (λ same.
    record { target = target; verdict_is = j; form_is = is.0; repo_is = refl; name_is = is.1; bytes_are = refl })

verdict_came : (world : World) (setting : Setting) (head : RequestHead) (body : List ℕ) → IfOk (verdict world setting head body) (CameFrom world head body)
unfolding verdict
verdict_came world setting head body = at (head_verdict head) refl
  where
    at : (r : Result Target Rule) → head_verdict head ≡ r
        → IfOk (by_rules r >>= λ target. desk_verdict world setting (desk_request head target body) body) (CameFrom world head body)
    at (Err e) j = tt
    at (Ok target) j =
        passed (IsFrom target.form target.parameter) (CameFrom world head body) (desk_plan world setting (desk_request head target body)) _
        (desk_from world setting (desk_request head target body) target.form target.parameter (request_asked target.form target.parameter (query_of head.target) body))
        (λ plan from. finish_came world head body target plan j from)

-- ---- exchanges

-- the exchange has a head and its whole body, and its grant comes from this
pub record IsGrant (old : World) (e : Exchange) (g : Grant) : Type 0 where
  pub head : RequestHead
  pub body : List ℕ
  pub asked : e.asked ≡ message head body true
  pub came : CameFrom old head body g

no_denial : {A : Type 0} (r : Result A Denial) (g : Grant) → denial_alone r ≡ Some (Ok g) → ⊥
no_denial (Ok x) g e = none-some (Ok g) e
no_denial (Err d) g e = absurd (cc)

message_grants : (old : World) (setting : Setting) (asked : Message) (g : Grant) → verdict_on old setting asked ≡ Some (Ok g)
    → (head : RequestHead) × (body : List ℕ) × (asked ≡ message head body true) × CameFrom old head body g
message_grants old setting (message head body true) g e =
    (head, body, refl, ok_is (CameFrom old head body) (verdict old setting head body) g (same_Some (verdict old setting head body) (Ok g) e) (verdict_came old setting head body))
message_grants old setting (message head body false) g e = absurd (no_denial (early_verdict old setting head) g e)
message_grants old setting bad_head g e = absurd (cc)

pub grant_of : (old : World) (e : Exchange) (g : Grant) (new : World) → Carries old e new → e.given ≡ Some (Ok g) → IsGrant old e g
grant_of old e g new (by_verdict given is) given_is =
    let m = message_grants old e.setting e.asked g (sym given ∙ given_is) in
    record { head = m.0; body = m.1; asked = m.2; came = m.3 }
grant_of old e g new (by_refusal given sure is) given_is = absurd (cc)

pub serves_what_is_kept : ServesWhatIsKept
serves_what_is_kept old e o new step given_is = let g = grant_of old e (serves o) new step.carries given_is in into old.objects o g.came.stored

pub served_has_its_name : ServedHasItsName
served_has_its_name old e o new w step given_is =
    let g = grant_of old e (serves o) new step.carries given_is in
    (each_in IsObject old.objects o (recursion_from_All IsObject old.objects w.objects) g.came.stored).name

-- the served object is the one that the head asks for
get_of : (old : World) (e : Exchange) (o : Object) (new : World) → Carries old e new → e.given ≡ Some (Ok (serves o)) → IsGetOf o e
get_of old e o new carries given_is =
    let g = grant_of old e (serves o) new carries given_is in
    record {
      head = g.head;
      body = g.body;
      target = g.came.target;
      asked = g.asked;
      verdict = g.came.verdict_is;
      form = g.came.form_is;
      repo = g.came.repo_is;
      name = g.came.name_is;
    }

pub serves_what_is_asked : ServesWhatIsAsked
serves_what_is_asked old e o new step given_is = get_of old e o new step.carries given_is

-- the stored object was uploaded
put_of : (old : World) (e : Exchange) (o : Object) (new : World) → Carries old e new → e.given ≡ Some (Ok (stores o)) → IsPutOf o e
put_of old e o new carries given_is =
    let g = grant_of old e (stores o) new carries given_is in
    record {
      head = g.head;
      target = g.came.target;
      asked = g.asked ∙ ap (λ b. message g.head b true) g.came.bytes_are;
      verdict = g.came.verdict_is;
      form = g.came.form_is;
      repo = g.came.repo_is;
      name = g.came.name_is;
      given = given_is;
    }

-- ---- steps and runs

-- a new object was uploaded by the step
abbrev IsOldOrPut : World → Event → Object → Type 0
IsOldOrPut old event o = In old.objects o ⊎ ((e : Exchange) × (event ≡ exchanged e) × IsPutOf o e)

kept_or_old : (old : World) (p o : Object) → In (with_object p old).objects o → (p ≡ o) ⊎ In old.objects o
kept_or_old old p o = at (object_named p.repo p.name old)
  where
    at : (there : Option Object) → In (cond (is_some there) old (record old { objects = p ∷ old.objects })).objects o → (p ≡ o) ⊎ In old.objects o
    at (Some q) is = inr is
    at None is = is

after_old : (old : World) (given : Option Answer) (o : Object) → In (after old given).objects o → In old.objects o ⊎ (given ≡ Some (Ok (stores o)))
after_old old (Some (Ok (stores p))) o is = moved (kept_or_old old p o is)
  where
    moved : (p ≡ o) ⊎ In old.objects o → In old.objects o ⊎ (◌≡◌ {A = Option Answer} (Some (Ok (stores p))) (Some (Ok (stores o))))
    moved (inl e) = inr (ap (λ q. Some (Ok (stores q))) e)
    moved (inr x) = inl x
after_old old (Some (Ok (makes_lock l))) o is = inl is
after_old old (Some (Ok (releases l))) o is = inl is
after_old old (Some (Ok (serves p))) o is = inl is
after_old old (Some (Ok (offers some))) o is = inl is
after_old old (Some (Ok confirms)) o is = inl is
after_old old (Some (Ok (lists page))) o is = inl is
after_old old (Some (Ok (splits user page))) o is = inl is
after_old old (Some (Err d)) o is = inl is
after_old old None o is = inl is

exchange_old : (old : World) (e : Exchange) (new : World) (o : Object) → Carries old e new → In new.objects o → IsOldOrPut old (exchanged e) o
exchange_old old e new o (by_refusal given sure is) there = inl (subst (λ (w : World). In w.objects o) is there)
exchange_old old e new o (by_verdict given is) there = moved (after_old old (judgement old e) o (subst (λ (w : World). In w.objects o) is there))
  where
    moved : In old.objects o ⊎ (judgement old e ≡ Some (Ok (stores o))) → IsOldOrPut old (exchanged e) o
    moved (inl x) = inl x
    moved (inr j) = inr (e, refl, put_of old e o new (by_verdict given is) (given ∙ j))

report_old : {A : Type 0} (given : Option A) (outcome : Outcome A) (old new : World) (o : Object) → Reports given outcome old new
    → outcome.world.objects ≡ old.objects → In new.objects o → In old.objects o
report_old given outcome old new o (by_success t is) same there = subst (λ (os : List Object). In os o) (ap (λ (w : World). w.objects) is ∙ same) there
report_old given outcome old new o (by_fault t is) same there = subst (λ (w : World). In w.objects o) is there

pub token_same : (old : World) (v : Result Token TokenDenial) → (after_token old v).objects ≡ old.objects
token_same old (Ok i) = refl
token_same old (Err d) = refl

removal_old : (repo name : List ℕ) (old : World) (removal : Removal) (o : Object) → In (after_removal old repo name removal).objects o → In old.objects o
removal_old repo name old removed_now o there = in_before_filter (λ p. not (has_name repo name p)) old.objects o there
removal_old repo name old removed_before o there = there
removal_old repo name old no_object o there = there

retired_old : (repo name : List ℕ) (given : Option Removal) (old new : World) (o : Object) → Reports given (retire_outcome old repo name) old new → In new.objects o → In old.objects o
retired_old repo name given old new o (by_success t is) there = removal_old repo name old (removal_of old repo name) o (subst (λ (w : World). In w.objects o) is there)
retired_old repo name given old new o (by_fault t is) there = subst (λ (w : World). In w.objects o) is there

step_old : (old : World) (event : Event) (new : World) (o : Object) → IsStep old event new → In new.objects o → IsOldOrPut old event o
step_old old (exchanged e) new o step there = exchange_old old e new o step.carries there
step_old old (issues asked given) new o step there = inl (report_old given (issue_outcome old asked) old new o step.1 (token_same old (token_verdict old asked)) there)
step_old old (prunes now given) new o step there = inl (report_old given (prune_outcome old now) old new o step.1 refl there)
step_old old (retires repo name given) new o step there = inl (retired_old repo name given old new o step.2 there)

later : (event : Event) (events : List Event) (o : Object) → WasPut events o → WasPut (event ∷ events) o
later event events o p = record {
  put = p.put;
  before = event ∷ p.before;
  later = p.later;
  order = ap (λ (es : List Event). event ∷ es) p.order;
  is = p.is;
  since = p.since;
}

-- the object has a name that is not retired in the end
module _ (new : World) (o : Object) (unretired : IsUnretired new o) where
  now_put : (event : Event) (mid : World) (events : List Event) (e : Exchange) → event ≡ exchanged e → IsPutOf o e → Run mid events new → WasPut (event ∷ events) o
  now_put event mid events e is p run = record {
    put = e;
    before = [];
    later = events;
    order = ap (λ (first : Event). first ∷ events) is;
    is = p;
    since = All-from_recursion (λ event. ¬ (Removes o.repo o.name event)) events (none_removes mid events new o.repo o.name run unretired);
  }

  run_old : (old : World) (events : List Event) → Run old events new → In new.objects o → In old.objects o ⊎ WasPut events o
  run_old old [] run there = inl (subst (λ (w : World). In w.objects o) run there)
  run_old old (event ∷ events) run there = moved (run_old run.0 events run.2 there) (step_old old event run.0 o run.1)
    where
      first_put : IsOldOrPut old event o → In old.objects o ⊎ WasPut (event ∷ events) o
      first_put (inl x) = inl x
      first_put (inr p) = inr (now_put event run.0 events p.0 p.1 p.2 run.2)

      moved : In run.0.objects o ⊎ WasPut events o → (In run.0.objects o → IsOldOrPut old event o) → In old.objects o ⊎ WasPut (event ∷ events) o
      moved (inl x) f = first_put (f x)
      moved (inr p) f = inr (later event events o p)

nothing_before : (events : List Event) (o : Object) → In nothing.objects o ⊎ WasPut events o → WasPut events o
nothing_before events o (inl x) = absurd x
nothing_before events o (inr p) = p

pub served_was_put : ServedWasPut
served_was_put events old e o new run step given_is =
    let g = grant_of old e (serves o) new step.carries given_is in
    let unretired = each_in (IsUnretired old) old.objects o (recursion_from_All (IsUnretired old) old.objects (makes_world events old run).gone) g.came.stored in
    nothing_before events o (run_old old o unretired nothing events run g.came.stored)
