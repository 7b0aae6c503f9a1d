-- What a message asks of the desk, and the object that the reply sends.
use Rattle.service.proofs.Prelude.{◌≡◌, ◌∙◌, ℕ, Bool, true, false, ◌&&◌, List, Option, Some, None, option_map, Bor, Result, Ok, Err, is_err, is_ok, refl, sym, ap, subst, bytes_eq, RequestHead, World, Object, name_of, object_named, ◌>>=◌, check, Form, query_of, content_length, Setting, DeskRequest, Answer, Denial, Plan, grants, sends, receives, serves, stores, by_rules, verdict, desk_plan, desk_request, after, RepoRequest, is_put, is_upload_of, uploads, uploads_if, request_seen, verdict_by, Asked, Asks, IsReadFrom, IsRequestOf, IsThere, target_asked, Rule, Request, RepoName, repo_text}
use Rattle.std.proofs.lemmas.Bool.{true≢false}
use Rattle.std.proofs.lemmas.Slice.Eq.{bytes_eq-Decides}
use Rattle.std.proofs.Common.{IfOk}
use Rattle.std.specs.Prelude.{string_bytes}
use Rattle.names.specs.declared.rules.Rule.TheVariants as rule
use Rattle.model.specs.declared.Form.TheVariants as form
use Rattle.model.specs.Forms as forms
use Rattle.model.specs.Forms.{request_of}
use Rattle.model.specs.Reading.{ok_or}
use Rattle.model.specs.Policy.{Repo, repo_named}
use Rattle.model.specs.Callers.{Caller, caller_by}
use Rattle.model.specs.Cases.{case_in}
use Rattle.model.specs.Objects.{finish}
use Rattle.model.specs.Verdict.{is_covered, plan_for}
use Rattle.model.proofs.Checks.{then_any, ok_is}
use Rattle.model.proofs.Lists.{found_passes}
use Rattle.model.proofs.Refusals.{verdict_at}
use Rattle.model.proofs.Serving.{IsFrom, IsPlain, desk_from, request_asked}
use Rattle.model.proofs.Tests.{both_true}
use Rattle.forms.specs.Given.{Gives}
use Rattle.forms.specs.Requests.{request_asked as request_asked_of}

-- ---- the plan for a message

-- the request that the head and a body make to the desk
abbrev pub request_made : RequestHead → Asked → List ℕ → DeskRequest
request_made h a body = desk_request h (target_asked a) body

abbrev pub plan_made : World → Setting → RequestHead → Asked → List ℕ → Result Plan Denial
plan_made world setting h a body = desk_plan world setting (request_made h a body)

pub verdict_is : (world : World) (setting : Setting) (h : RequestHead) (a : Asked) (body : List ℕ) → Asks h a
    → verdict world setting h body ≡ verdict_by world (target_asked a).repo (plan_made world setting h a body) body
verdict_is world setting h a body is = verdict_at world setting h body (target_asked a) is.target

-- what was read, in the terms of the definitions
abbrev asked_of : Result Request Rule → Result forms.Request Rule
asked_of q = q >>= λ request. Ok (request_asked_of request)

read_is : (q : Result Request Rule) (read : Result forms.Request Rule) → Gives request_asked_of q read → asked_of q ≡ read
read_is (Ok x) read is = sym is
read_is (Err e) read is = sym is

-- the request passed to the desk is the one of the definitions
pub made_as : (h : RequestHead) (a : Asked) (body : List ℕ) (size : ℕ) (q : Result Request Rule) (request : RepoRequest) → Asks h a → IsReadFrom a body q → IsRequestOf a q request → size ≡ content_length h
    → request_seen request size ≡ request_made h a body
made_as h a body size q request is read made same =
    rw (made.authorization, made.repo, made.request, read_is q _ read, same, is.query, is.bearers) refl

none_by : {A : Type 0} (given : Result A Rule) (ask : A → forms.Request) (r : Result forms.Request Rule) → ((x : A) → uploads (ask x) ≡ false) → (given >>= λ x. Ok (ask x)) ≡ r → uploads_if r ≡ false
none_by (Ok x) ask r all is = ap uploads_if (sym is) ∙ all x
none_by (Err e) ask r all is = ap uploads_if (sym is)

some_by : {A : Type 0} (given : Result A Rule) (ask : A → forms.Request) (r : Result forms.Request Rule) → ((x : A) → uploads (ask x) ≡ true) → (given >>= λ x. Ok (ask x)) ≡ r → uploads_if r ≡ is_ok r
some_by (Ok x) ask r all is = ap uploads_if (sym is) ∙ all x ∙ ap is_ok is
some_by (Err e) ask r all is = ap uploads_if (sym is) ∙ ap is_ok is

-- a request uploads an object exactly if it has the form of an upload, and is not refused
form_uploads : (f : Form) (parameter query body : List ℕ) (r : Result forms.Request Rule) → request_of f parameter query body ≡ r → uploads_if r ≡ (is_put f && is_ok r)
form_uploads form.Batch parameter query body r is = none_by _ _ r (λ x. refl) is
form_uploads form.Put parameter query body r is = some_by _ _ r (λ x. refl) is
form_uploads form.Get parameter query body r is = none_by _ _ r (λ x. refl) is
form_uploads form.Verify parameter query body r is = none_by _ _ r (λ x. refl) is
form_uploads form.Lock parameter query body r is = none_by _ _ r (λ x. refl) is
form_uploads form.List parameter query body r is = none_by _ _ r (λ x. refl) is
form_uploads form.VerifyLocks parameter query body r is = none_by _ _ r (λ x. refl) is
form_uploads form.Unlock parameter query body r is = none_by _ _ r (λ x. refl) is

ok_asked : (q : Result Request Rule) → is_ok (asked_of q) ≡ is_ok q
ok_asked (Ok x) = refl
ok_asked (Err e) = refl

-- the same of what was read
pub reads_upload : (a : Asked) (body : List ℕ) (q : Result Request Rule) (request : RepoRequest) → IsReadFrom a body q → IsRequestOf a q request → is_upload_of request ≡ (is_put a.form && is_ok q)
reads_upload a body q request read made =
    let same = read_is q (request_of a.form (string_bytes a.parameter) (string_bytes a.query) body) read in
    ap (λ r. uploads_if (asked_of r)) made.request ∙ form_uploads a.form (string_bytes a.parameter) (string_bytes a.query) body (asked_of q) (sym same)
    ∙ ap (λ v. is_put a.form && v) (ok_asked q)

-- what an upload asks does not depend on its body
put_asks : (f : Form) (parameter query body other : List ℕ) → is_put f ≡ true → request_of f parameter query body ≡ request_of f parameter query other
put_asks form.Batch parameter query body other put = absurd (true≢false (sym put))
put_asks form.Put parameter query body other put = refl
put_asks form.Get parameter query body other put = absurd (true≢false (sym put))
put_asks form.Verify parameter query body other put = absurd (true≢false (sym put))
put_asks form.Lock parameter query body other put = absurd (true≢false (sym put))
put_asks form.List parameter query body other put = absurd (true≢false (sym put))
put_asks form.VerifyLocks parameter query body other put = absurd (true≢false (sym put))
put_asks form.Unlock parameter query body other put = absurd (true≢false (sym put))

pub put_alike : (world : World) (setting : Setting) (h : RequestHead) (a : Asked) (body other : List ℕ) → is_put a.form ≡ true → plan_made world setting h a body ≡ plan_made world setting h a other
put_alike world setting h a body other put =
    ap (λ q. desk_plan world setting (record { bearers = (request_made h a body).bearers; repo = (target_asked a).repo; left = content_length h; request = q }))
    (put_asks a.form (target_asked a).parameter (query_of h.target) body other put)

-- ---- the object that a reply sends

-- a denial sends none
pub none_there : (world : World) (repo : Option (Bor RepoName)) (d : Denial) → IsThere world repo (Err d)
none_there world repo d o is = absurd (cc)

-- to send an object leaves it there
pub still_there : (world : World) (repo : Option (Bor RepoName)) (given : Answer) → IsThere world repo given → IsThere (after world (Some given)) repo given
still_there world repo given there o is =
    let it = there o is in
    (it.0, it.1, subst (λ (v : Answer). object_named it.0 o.name (after world (Some v)) ≡ Some o) (sym is) it.2)

-- the repository of a response is the policy's of the name that the head asks about
abbrev pub IsNamed : Setting → Asked → Option (Bor RepoName) → Type 0
IsNamed setting a repo = option_map (λ (n : Bor RepoName). repo_text n.now) repo ≡ option_map (λ (r : Repo). r.name) (repo_named (target_asked a).repo setting.policy)

module _ (world : World) (setting : Setting) (asked : DeskRequest) where
  -- a plan is made only in a repository of the policy
  abbrev IsOfPolicy : Plan → Type 0
  IsOfPolicy plan = (r : Repo) × (repo_named asked.repo setting.policy ≡ Some r)

  each_ok : {A : Type 0} (P : A → Type 0) (r : Result A Denial) → ((x : A) → P x) → IfOk r P
  each_ok P (Ok x) all = all x
  each_ok P (Err d) all = tt

  in_policy : (caller : Caller) (o : Option Repo) → repo_named asked.repo setting.policy ≡ o
      → IfOk (by_rules (ok_or o rule.R1) >>= λ repo. by_rules asked.request >>= λ request. by_rules (check (is_covered caller request) rule.A5) >>= λ covered. plan_for (case_in world setting caller repo) asked.left request) IsOfPolicy
  in_policy caller None e = tt
  in_policy caller (Some r) e = each_ok IsOfPolicy _ (λ plan. (r, e))

  plan_in_policy : IfOk (desk_plan world setting asked) IsOfPolicy
  plan_in_policy =
      then_any IsOfPolicy (by_rules (caller_by world setting.now asked.bearers)) _ (λ caller.
      then_any IsOfPolicy (by_rules (check (bytes_eq caller.repo asked.repo) rule.A4)) _ (λ own. in_policy caller (repo_named asked.repo setting.policy) refl))

abbrev stored : Object → Answer
stored p = Ok (stores p)

module _ (world : World) (repo body : List ℕ) (o : Object) where
  found_there : (name : List ℕ) (there : Option Object) → object_named repo name world ≡ there → (by_rules (ok_or there rule.X1) >>= λ p. Ok (serves p)) ≡ Ok (serves o) → object_named repo o.name world ≡ Some o
  found_there name None e is = absurd (cc)
  found_there name (Some p) e is =
      let same : p ≡ o = cc in
      let passes = found_passes (λ (q : Object). bytes_eq q.repo repo && bytes_eq q.name name) world.objects p e in
      let named : p.name ≡ name = (bytes_eq-Decides p.name name).0 (both_true (bytes_eq p.repo repo) (bytes_eq p.name name) passes).1 in
      ap (λ (q : Object). object_named repo q.name world) (sym same) ∙ ap (λ (n : List ℕ). object_named repo n world) named ∙ e ∙ ap Some same

  never_stored : (p : Object) (v : Bool) → (by_rules (check v rule.X2) >>= λ same. stored p) ≡ Ok (serves o) → ⊥
  never_stored p true e = absurd (cc)
  never_stored p false e = absurd (cc)

  sent_there : (f : Form) (parameter : List ℕ) (plan : Plan) → IsFrom f parameter plan → finish world repo body plan ≡ Ok (serves o) → object_named repo o.name world ≡ Some o
  sent_there f parameter (grants grant) from is = let same : grant ≡ serves o = cc in absurd (subst IsPlain same from)
  sent_there f parameter (sends name size) from is = found_there name (object_named repo name world) refl is
  sent_there f parameter (receives name) from is = absurd (never_stored (record { repo = repo; name = name; bytes = body }) (bytes_eq name (name_of body)) is)

never_ok : {A : Type 0} (r : Result A Denial) → IfOk r (λ x. ⊥) → is_err r ≡ true
never_ok (Ok x) never = absurd never
never_ok (Err d) never = refl

-- a request that a rule refuses has no plan
pub refused_plan : (world : World) (setting : Setting) (asked : DeskRequest) (r : Rule) → asked.request ≡ Err r → is_err (desk_plan world setting asked) ≡ true
refused_plan world setting asked r is =
    let P : Plan → Type 0 = λ plan. ⊥ in
    never_ok (desk_plan world setting asked)
    (then_any P (by_rules (caller_by world setting.now asked.bearers)) _ (λ caller.
    then_any P (by_rules (check (bytes_eq caller.repo asked.repo) rule.A4)) _ (λ own.
    then_any P (by_rules (ok_or (repo_named asked.repo setting.policy) rule.R1)) _ (λ repo. rw is tt))))

-- an object that the verdict sends is the repository's
pub served : (world : World) (setting : Setting) (h : RequestHead) (a : Asked) (body : List ℕ) (repo : Option (Bor RepoName)) → Asks h a → IsNamed setting a repo → IsThere world repo (verdict world setting h body)
served world setting h a body repo is named o given = at (plan_made world setting h a body) refl (sym (verdict_is world setting h a body is) ∙ given)
  where
    asked : DeskRequest
    asked = request_made h a body

    at : (plan : Result Plan Denial) → plan_made world setting h a body ≡ plan → verdict_by world (target_asked a).repo plan body ≡ Ok (serves o)
        → (name : List ℕ) × (option_map (λ (n : Bor RepoName). repo_text n.now) repo ≡ Some name) × (object_named name o.name world ≡ Some o)
    at (Err d) e v = absurd (cc)
    at (Ok plan) e v =
        let entry = ok_is (IsOfPolicy world setting asked) (desk_plan world setting asked) plan e (plan_in_policy world setting asked) in
        let from = ok_is (IsFrom a.form (target_asked a).parameter) (desk_plan world setting asked) plan e
        (desk_from world setting asked a.form (target_asked a).parameter (request_asked a.form (target_asked a).parameter (query_of h.target) body)) in (
          (target_asked a).repo,
          named ∙ ap (option_map (λ (r : Repo). r.name)) entry.1 ∙ ap Some ((bytes_eq-Decides entry.0.name (target_asked a).repo).0 (found_passes (λ (x : Repo). bytes_eq x.name (target_asked a).repo) setting.policy.repos entry.0 entry.1)),
          sent_there world (target_asked a).repo body o a.form (target_asked a).parameter plan from v,
        )
