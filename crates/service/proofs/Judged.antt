-- The verdict on a head, check by check.
use Rattle.service.proofs.Prelude.{◌≡◌, ℕ, Bool, true, false, not, ◌||◌, List, [], ◌∷◌, Some, None, Result, Ok, Err, codes, refl, ap, ◌∙◌, subst, ◌≤◌, length, lit≤, bytes_eq, cond, ⊤, RequestHead, Rule, H6, H7, H8, Form, is_put, ◌>>=◌, check, Route, check_framing, route_at, form_of, is_method, accepts, values, methods_of, is_h7, IsDenied, Denied, HeadRule, rule_seen}
use Rattle.std.specs.Result.{IfErr}
use Rattle.std.specs.Str.{IsUtf8, is_utf8}
use Rattle.std.proofs.lemmas.Str.{IsUtf8-from_is_utf8}
use Rattle.std.proofs.lemmas.Slice.Eq.{bytes_eq-Decides}
use Rattle.model.specs.Heads.{head_verdict}
use Rattle.wire.specs.declared.rules.HeadRule.TheVariants as by
use Rattle.routes.specs.declared.table.Resource.{Resource}
use Rattle.routes.specs.declared.table.Resource.TheVariants.{Batch, Locks, VerifyLocks, Unlock, Content, Verify}
use Rattle.routes.specs.Table.{row_of}

-- ---- the checks in their order

pub not_framed : (h : RequestHead) (r : Rule) → check_framing h ≡ Err r → head_verdict h ≡ Err r
unfolding head_verdict
not_framed h r is = rw is refl

pub not_routed : (h : RequestHead) → check_framing h ≡ Ok tt → route_at h.target ≡ Err H6 → head_verdict h ≡ Err H6
unfolding head_verdict
not_routed h whole nowhere = rw (whole, nowhere) refl

pub not_served : (h : RequestHead) (route : Route) → check_framing h ≡ Ok tt → route_at h.target ≡ Ok route → form_of h.method route.row.requests ≡ None → head_verdict h ≡ Err H7
unfolding head_verdict
not_served h route whole there other = rw (whole, there, other) refl

pub not_accepted : (h : RequestHead) (route : Route) (form : Form) → check_framing h ≡ Ok tt → route_at h.target ≡ Ok route → form_of h.method route.row.requests ≡ Some form
    → (not route.row.is_json || accepts (values (codes "accept") h)) ≡ false → head_verdict h ≡ Err H8
unfolding head_verdict
not_accepted h route form whole there served other = rw (whole, there, served, other) refl

pub asked : (h : RequestHead) (route : Route) (form : Form) → check_framing h ≡ Ok tt → route_at h.target ≡ Ok route → form_of h.method route.row.requests ≡ Some form
    → (not route.row.is_json || accepts (values (codes "accept") h)) ≡ true → head_verdict h ≡ Ok (record { repo = route.repo; parameter = route.parameter; form = form })
unfolding head_verdict
asked h route form whole there served wanted = rw (whole, there, served, wanted) refl

-- ---- PUT is the method of an upload

-- in these rows, exactly the uploads have the method PUT
abbrev PutsAlike : List (List ℕ × Form) → Type 0
PutsAlike [] = ⊤
PutsAlike (r ∷ requests) = (bytes_eq r.0 (codes "PUT") ≡ is_put r.1) × PutsAlike requests

put_in : (method : List ℕ) (requests : List (List ℕ × Form)) (f : Form) → PutsAlike requests → form_of method requests ≡ Some f → bytes_eq method (codes "PUT") ≡ is_put f
put_in method [] f alike served = absurd (cc)
put_in method (r ∷ requests) f alike served = at (bytes_eq method r.0) refl (put_in method requests f alike.1) served
  where
    same : Some r.1 ≡ Some f → r.1 ≡ f
    same e = cc

    at : (v : Bool) → bytes_eq method r.0 ≡ v → (form_of method requests ≡ Some f → bytes_eq method (codes "PUT") ≡ is_put f)
        → cond v (Some r.1) (form_of method requests) ≡ Some f → bytes_eq method (codes "PUT") ≡ is_put f
    at true is rest e = ap (λ (m : List ℕ). bytes_eq m (codes "PUT")) ((bytes_eq-Decides method r.0).0 is) ∙ alike.0 ∙ ap is_put (same e)
    at false is rest e = rest e

row_puts : (r : Resource) → PutsAlike (row_of r).requests
row_puts Batch = (refl, tt)
row_puts Locks = (refl, (refl, tt))
row_puts VerifyLocks = (refl, tt)
row_puts Unlock = (refl, tt)
row_puts Content = (refl, (refl, tt))
row_puts Verify = (refl, tt)

pub puts : (h : RequestHead) (r : Resource) (f : Form) → form_of h.method (row_of r).requests ≡ Some f → is_method (codes "PUT") h ≡ is_put f
puts h r f served = put_in h.method (row_of r).requests f (row_puts r) served

-- ---- targets

-- bytes that are not valid UTF-8 match no route
pub no_text : (target : List ℕ) → (IsUtf8 target → ⊥) → route_at target ≡ Err H6
no_text target other = rw (at (is_utf8 target) refl) refl
  where
    at : (v : Bool) → is_utf8 target ≡ v → is_utf8 target ≡ false
    at true e = absurd (other (IsUtf8-from_is_utf8 target e))
    at false e = e

-- ---- which rules name no methods

abbrev IsOther : Rule → Type 0
IsOther r = is_h7 r ≡ false

-- a check followed by other checks
check_then : {B : Type 0} (test : Bool) (e : Rule) (f : ⊤ → Result B Rule) → IsOther e → IfErr (f tt) IsOther → IfErr (check test e >>= f) IsOther
check_then true e f is then = then
check_then false e f is then = is

check_last : (test : Bool) (e : Rule) → IsOther e → IfErr (check test e) IsOther
check_last true e is = tt
check_last false e is = is

framing_fails : (h : RequestHead) → IfErr (check_framing h) IsOther
framing_fails h = search (check_then, check_last) depth 8

-- the checks of the body length never refuse by H7
pub framing_rule : (h : RequestHead) (r : Rule) → check_framing h ≡ Err r → IsOther r
framing_rule h r is = subst (λ (f : Result ⊤ Rule). IfErr f IsOther) is (framing_fails h)

-- ---- denials

-- a refusal that names no methods
pub refused : (h : RequestHead) (d : Denied) (r : HeadRule) → d.rule ≡ r → d.allow.now ≡ [] → head_verdict h ≡ Err (rule_seen r) → IsOther (rule_seen r) → IsDenied h d
refused h d r same none is other = record {
  rule = rw same is;
  methods = rw (same, other) none;
  short = rw none (lit≤ tt);
}

-- a refusal that names the methods of the route
pub unserved : (h : RequestHead) (d : Denied) (route : Route) → d.rule ≡ by.H7 → route_at h.target ≡ Ok route → d.allow.now ≡ methods_of (Ok route) → length d.allow.now ≤ 128 → head_verdict h ≡ Err H7 → IsDenied h d
unserved h d route same there methods short is = record {
  rule = rw same is;
  methods = rw (same, there) methods;
  short = short;
}
