-- A head, and the message that it begins.
use Rattle.service.proofs.Prelude.{inl, inr, append-nil, ◌≡◌, ◌∙◌, ◌<◌, ◌≤◌, ℕ, suc, Bool, true, false, ◌||◌, nat_le, List, [], ◌∷◌, ◌++◌, append_assoc, length, take, drop, codes, Option, Some, Bor, Result, Ok, Err, refl, sym, ap, ap₂, subst, arith, cond, length-append, is_err, option_map, lit<, lit≤, drop_all, drop_at, take_at, IfErr-at_err, ⊤, RequestHead, ReadsRequest, MayBecomeRequest, Rule, ◌>>=◌, check, Target, head_verdict, check_framing, body_length, values, at_most, asks_close, content_length, is_measured, is_clear, is_small, Message, message, bad_head, is_of_head, BeginsWithHead, BeginsWith, with_message, with_bad_head, message_with, IsUnfinished, BeginsBadly, head_more, Refuses, is_put, AsksFor, IsDenied, target_seen, Asks, IsCopyOf, IsRefused, target_asked, whole_message, Asked, HeadRule, rule_seen}
use Rattle.std.proofs.Common.{true≢false}
use Rattle.std.proofs.lemmas.Bool.{true≢false}
use Rattle.std.proofs.lemmas.Bool.Decides.{nat_tests}
use Rattle.httparse.specs.Grammar.{print_request}
use Rattle.names.specs.declared.rules.Rule.TheVariants as rule
use Rattle.wire.specs.declared.rules.HeadRule.TheVariants.{H1}
use Rattle.model.specs.Orders.{first}
use Rattle.model.proofs.Refusals.{IsHeadRule, head_fails, verdict_refused}
use Rattle.model.proofs.Streamed.{first_is_first}
use Rattle.model.proofs.Tests.{both_true}
use Rattle.tokens.specs.Bearers.{single_value}
use Rattle.service.proofs.Judged.{not_framed, framing_rule, refused}
use Rattle.service.specs.declared.judging.Denied as judging
use Rattle.service.specs.declared.judging.Target as code

-- ---- a head that is refused

-- a refused head has no body
no_body : (h : RequestHead) (r : Rule) → head_verdict h ≡ Err r → body_length h ≡ 0
no_body h r is = ap (λ (v : Result Target Rule). cond (is_err v) 0 (content_length h)) is

none_taken : (n : ℕ) (bytes : List ℕ) → n ≡ 0 → take n bytes ≡ []
none_taken n bytes none = ap (λ k. take k bytes) none ∙ grind arith

none_wanted : (n m : ℕ) → n ≡ 0 → nat_le n m ≡ true
none_wanted n m none = grind (arith, nat_tests)

refused_message : (h : RequestHead) (after : List ℕ) (r : Rule) → head_verdict h ≡ Err r → message h [] true ≡ message_with h after
refused_message h after r is =
    ap₂ (λ (body : List ℕ) (all : Bool). message h body all)
    (sym (none_taken (body_length h) after (no_body h r is))) (sym (none_wanted (body_length h) (length after) (no_body h r is)))

closes_there : (asks rule store put : Bool) → rule ≡ true → (asks || rule || store || put) ≡ true
closes_there true rule store put is = refl
closes_there false rule store put is = rw is refl

pub head_refused : (bytes after : List ℕ) (h : RequestHead) (d : judging.Denied) → BeginsWithHead bytes h after → IsDenied h d → IsRefused bytes (message h [] true) d
head_refused bytes after h d b is = record {
  next = drop (body_length h) after;
  begins = with_message h after b (refused_message h after (rule_seen d.rule) is.rule) refl;
  closes = closes_there (asks_close h) (is_of_head (rule_seen d.rule)) _ _ (IfErr-at_err IsHeadRule is.rule (head_fails h));
  verdict = λ world setting. ap Some (verdict_refused world setting h [] (rule_seen d.rule) is.rule);
  methods = is.methods;
  short = is.short;
}

-- bytes that do not begin with a head
bad_refused : (bytes : List ℕ) (d : judging.Denied) → d.rule ≡ H1 → d.allow.now ≡ [] → BeginsBadly bytes → IsRefused bytes bad_head d
bad_refused bytes d is none bad = record {
  next = [];
  begins = with_bad_head bad refl refl;
  closes = refl;
  verdict = λ world setting. rw is refl;
  methods = none;
  short = rw none (lit≤ tt);
}

-- bytes that H1 to H5 refuse
pub stop_refused : (bytes : List ℕ) (r : HeadRule) (d : judging.Denied) → d.rule ≡ r → d.allow.now ≡ [] → Refuses bytes r → (asked : Message) × IsRefused bytes asked d
stop_refused bytes r d same none (inl (is, bad)) = (bad_head, bad_refused bytes d (same ∙ is) none bad)
stop_refused bytes r d same none (inr (h, rest, begins, check)) =
    (message h [] true, head_refused bytes rest h d begins (refused h d r same none (not_framed h (rule_seen r) check) (framing_rule h (rule_seen r) check)))

-- ---- what the fields of a head that is not refused say

check_passed : {B : Type 0} (test : Bool) (e : Rule) (f : ⊤ → Result B Rule) (x : B) → (check test e >>= f) ≡ Ok x → (test ≡ true) × (f tt ≡ Ok x)
check_passed true e f x is = (refl, is)
check_passed false e f x is = absurd (cc)

one_authorization : (head : RequestHead) → check_framing head ≡ Ok tt → at_most 1 (values (codes "authorization") head) ≡ true
one_authorization head is =
    let third : ⊤ → Result ⊤ Rule = λ _. check (is_clear head) rule.H4 >>= λ _. check (is_small head) rule.H5 in
    let a = check_passed (at_most 0 (values (codes "transfer-encoding") head)) rule.H2 (λ _. check (is_measured head) rule.H3 >>= third) tt is in
    let b = check_passed (is_measured head) rule.H3 third tt a.1 in
    let c = check_passed (is_clear head) rule.H4 (λ _. check (is_small head) rule.H5) tt b.1 in
    (both_true _ _ (both_true _ _ (both_true _ _ c.0).0).0).1

framed_if_judged : (h : RequestHead) (t : Target) → head_verdict h ≡ Ok t → check_framing h ≡ Ok tt
framed_if_judged h t is = at (check_framing h) refl
  where
    at : (v : Result ⊤ Rule) → check_framing h ≡ v → v ≡ Ok tt
    at (Ok x) e = refl
    at (Err r) e = absurd (differ (sym is ∙ not_framed h r e))
      where
        differ : ◌≡◌ {A = Result Target Rule} (Ok t) (Err r) → ⊥
        differ e = cc

two : (n : ℕ) → nat_le (suc (suc n)) 1 ≡ false
two n = grind (arith, nat_tests)

the_first : (vs : List (List ℕ)) → at_most 1 vs ≡ true → vs ≡ single_value (first vs)
the_first [] is = refl
the_first (v ∷ []) is = refl
the_first (v ∷ w ∷ vs) is = absurd (true≢false (sym is ∙ two (length vs)))

-- ---- a message

-- no bytes are as short as their rest
shorter : (bytes : List ℕ) (head : RequestHead) (rest : List ℕ) → ReadsRequest bytes head rest → length rest < length bytes
unfolding print_request
shorter bytes head rest r = omega (arith, simp length-append at (ap length r.1))

-- the body of a head that is not refused has the length that the head says
pub body_is : (h : RequestHead) (target : Target) → head_verdict h ≡ Ok target → body_length h ≡ content_length h
body_is h target is = ap (λ (v : Result Target Rule). cond (is_err v) 0 (content_length h)) is

pub le_true : (n m : ℕ) → n ≤ m → nat_le n m ≡ true
le_true n m h = grind (arith, nat_tests)

le_false : (n m : ℕ) → m < n → nat_le n m ≡ false
le_false n m h = grind (arith, nat_tests)

-- a head that is judged, with copies of its texts
pub asks_copy : (h : RequestHead) (t : code.Target) (value : Option (Bor (List ℕ))) (is_last : Bool) (a : Asked) → AsksFor h t → IsCopyOf t value is_last a
    → option_map (λ (v : Bor (List ℕ)). v.now) value ≡ first (values (codes "authorization") h) → is_last ≡ asks_close h → Asks h a
asks_copy h t value is_last a is copy bearer last = record {
  target = is.target ∙ ap (λ (x : Target). Ok x) (same_target t value is_last a copy);
  query = copy.query ∙ is.query;
  bearers =
      the_first (values (codes "authorization") h) (one_authorization h (framed_if_judged h (target_seen t) is.target)) ∙ ap single_value (sym bearer ∙ sym copy.authorization);
  size = copy.size ∙ is.size;
  last = sym (copy.last ∙ last);
  put = is.put ∙ ap is_put (sym copy.form);
}
  where
    same_target : (t : code.Target) (value : Option (Bor (List ℕ))) (is_last : Bool) (a : Asked) → IsCopyOf t value is_last a → target_seen t ≡ target_asked a
    same_target t value is_last a copy = rw (copy.repo, copy.form, copy.parameter) refl

-- a head at the front of some bytes, and what was read after it
module _ (bytes after read : List ℕ) (h : RequestHead) (b : BeginsWithHead bytes h after) where
  -- the head is at the front of all of them
  head_there : (more : List ℕ) → BeginsWithHead ((bytes ++ read) ++ more) h ((after ++ read) ++ more)
  head_there more = head_more (bytes ++ read) h (after ++ read) more (head_more bytes h after read b)

  -- a body of the head's length is there, and other bytes follow it
  pub whole_first : (body next more : List ℕ) → after ++ read ≡ body ++ next → length body ≡ body_length h
      → BeginsWith ((bytes ++ read) ++ more) (whole_message h body) (next ++ more)
  whole_first body next more e size =
      let tail : (after ++ read) ++ more ≡ body ++ (next ++ more) = ap (λ (l : List ℕ). l ++ more) e ∙ append_assoc body next more in
      let here = subst (λ (l : List ℕ). BeginsWithHead ((bytes ++ read) ++ more) h l) tail (head_there more) in
      let fits : nat_le (body_length h) (length (body ++ (next ++ more))) ≡ true =
      le_true (body_length h) (length (body ++ (next ++ more))) (omega (arith, size, length-append body (next ++ more))) in
      with_message h (body ++ (next ++ more)) here
      (ap₂ (λ (l : List ℕ) (v : Bool). message h l v) (sym (take_at body (next ++ more) (body_length h) size)) (sym fits))
      (sym (drop_at body (next ++ more) (body_length h) size))

  -- the message of the head, however much of its body is there
  pub message_there : BeginsWith (bytes ++ read) (message_with h (after ++ read)) (drop (body_length h) (after ++ read))
  message_there = with_message h (after ++ read) (head_more bytes h after read b) refl refl

-- ---- a message that is cut off

-- a head with less than its body
pub cut_message : (bytes after : List ℕ) (h : RequestHead) → BeginsWithHead bytes h after → length after < body_length h
    → BeginsWith bytes (message h (take (body_length h) after) false) []
cut_message bytes after h b less =
    with_message h after b
    (ap (λ (v : Bool). message h (take (body_length h) after) v) (sym (le_false (body_length h) (length after) less)))
    (sym (drop_all (body_length h) after (omega (arith, less))))

-- no bytes are left after it, and no bytes are less than a head
pub none_unfinished : IsUnfinished []
none_unfinished = record { none = λ head rest reads. absurd (omega (arith, shorter [] head rest reads.reads)); short = lit< tt }

-- and they can be continued to a head
may_become : (bytes : List ℕ) (head : RequestHead) (body : List ℕ) (whole : Bool) (rest : List ℕ) → BeginsWith bytes (message head body whole) rest → MayBecomeRequest []
may_become bytes head body whole rest (with_message h next begins is after) =
    inl (print_request h, h, (begins.reads.reads.0, sym (append-nil (print_request h))))
may_become bytes head body whole rest (with_bad_head bad is after) = absurd (cc)

pub none_may_become : MayBecomeRequest []
none_may_become = may_become _ _ _ _ _ (first_is_first [])
