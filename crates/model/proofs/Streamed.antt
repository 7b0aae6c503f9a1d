-- The worked examples of streams and sessions.
use Rattle.std.proofs.Common.{◌≡◌, ◌∙◌, ℕ, Bool, true, List, [], ◌∷◌, ◌++◌, codes, refl, append-nil, length, lit<, lit≤, arith, IsTrue, sym, ap, take, drop, replicate, zero, suc}
use Rattle.std.proofs.Common.{length-append}
use Rattle.std.proofs.lemmas.Bool.{le-leb}
use Rattle.std.specs.List.{list_all, AllByRecursion}
use Rattle.std.proofs.lemmas.List.Elements.{All-from_recursion}
use Rattle.std.proofs.lemmas.Str.{IsUtf8-from_is_utf8}
use Rattle.std.specs.Str.{is_utf8, chars}
use Rattle.httparse.specs.Grammar.{AllPass, Field, IsField, IsRequestHead, is_token_byte, is_value_byte, is_uri_byte, print_request, print_blank, print_version, print_end, print_section}
use Rattle.httparse.proofs.GrammarLemmas.{print_request-append}
use Rattle.httparse.proofs.OnLiterals.{httparse_on_literals}
use Rattle.names.specs.Texts.{is_repo, is_ref}
use Rattle.model.proofs.Tests.{both_true}
use Rattle.model.proofs.OnLiterals.{on_literals}
use Rattle.model.specs.Policy.{IsPolicy, Repo}
use Rattle.model.specs.World.{with_lock}
use Rattle.model.specs.Heads.{body_length}
use Rattle.model.specs.Steps.{message, Exchange, IsExchange, by_verdict}
use Rattle.model.specs.Stream.{IsHeadThen, HasNoHead, too_many_fields, with_message, with_bad_head, message_with, BeginsWith, IsUnfinished, Answers, input_ended, closed}
use Rattle.model.specs.Studio.{token_of, authorization, length_field, field, lfs, post_lock, hello, first_head, first_body, studio, at_now, with_ann, first_lock}
use Rattle.model.specs.Examples.{FirstIsFirst, CrowdedIsRefused, TwoAreServed, BodyIsNoMessage, first_exchange, second_exchange, smuggling_head, smuggling_exchange, two_messages}

-- ---- heads

all_pass : (test : ℕ → Bool) (bytes : List ℕ) → list_all test bytes ≡ true → AllByRecursion (λ b. IsTrue (test b)) bytes
all_pass test [] e = tt
all_pass test (b ∷ bytes) e =
    let both = both_true (test b) (list_all test bytes) e in (both.0, all_pass test bytes both.1)

passes : (test : ℕ → Bool) (bytes : List ℕ) → list_all test bytes ≡ true → AllPass test bytes
passes test bytes e = All-from_recursion _ bytes (all_pass test bytes e)

authorization_is : IsField authorization
unfolding httparse_on_literals
authorization_is = record {
  name = (lit< tt, passes is_token_byte (codes "Authorization") refl);
  raw = passes is_value_byte (codes " Bearer " ++ token_of 97) refl;
}

length_is : (digits : List ℕ) → list_all is_value_byte (codes " " ++ digits) ≡ true → IsField (length_field digits)
unfolding httparse_on_literals
length_is digits e = record {
  name = (lit< tt, passes is_token_byte (codes "Content-Length") refl);
  raw = passes is_value_byte (codes " " ++ digits) e;
}

lock_head_is : (fields : List Field) → AllByRecursion IsField fields → IsRequestHead (post_lock fields)
unfolding httparse_on_literals is_utf8 chars lib.Utf8.encode
lock_head_is fields all = record {
  method = (lit< tt, passes is_token_byte (codes "POST") refl);
  target = (lit< tt, passes is_uri_byte (lfs (codes "locks")) refl);
  target_text = IsUtf8-from_is_utf8 (lfs (codes "locks")) refl;
  minor = lit≤ tt;
  fields = All-from_recursion IsField fields all;
}

first_head_is : IsRequestHead first_head
unfolding httparse_on_literals
first_head_is = lock_head_is (authorization ∷ length_field (codes "23") ∷ []) (authorization_is, (length_is (codes "23") refl, tt))

smuggling_head_is : IsRequestHead smuggling_head
unfolding httparse_on_literals is_utf8 chars lib.Utf8.encode
smuggling_head_is = record {
  method = (lit< tt, passes is_token_byte (codes "PUT") refl);
  target = (lit< tt, passes is_uri_byte (lfs (codes "content/" ++ hello)) refl);
  target_text = IsUtf8-from_is_utf8 (lfs (codes "content/" ++ hello)) refl;
  minor = lit≤ tt;
  fields = All-from_recursion IsField (length_field (codes "180") ∷ []) (length_is (codes "180") refl, tt);
}

-- ---- the first message is first

first_then : (rest : List ℕ) → IsHeadThen (print_request first_head ++ first_body ++ rest) first_head (first_body ++ rest)
unfolding httparse_on_literals
first_then rest = record { reads = (first_head_is, refl); short = lit≤ tt }

first_length : body_length first_head ≡ 23
unfolding on_literals
first_length = refl

same_message : (rest : List ℕ) → message first_head first_body true ≡ message_with first_head (first_body ++ rest)
same_message rest =
    ap (λ n. message first_head (take n (first_body ++ rest)) true) (sym first_length)
    ∙ ap (λ b. message first_head (take (body_length first_head) (first_body ++ rest)) b)
    (sym (le-leb (body_length first_head) (length (first_body ++ rest)) (omega (arith, first_length, length-append first_body rest))))

pub first_is_first : FirstIsFirst
first_is_first rest =
    with_message first_head (first_body ++ rest) (record { reads = first_then rest; fields = lit≤ tt }) (same_message rest)
    (ap (λ n. drop n (first_body ++ rest)) (sym first_length))

-- ---- too many fields

each_replicate : (f : Field) (n : ℕ) → IsField f → AllByRecursion IsField (replicate n f)
each_replicate f zero is = tt
each_replicate f (suc n) is = (is, each_replicate f n is)

x_is : IsField (field (codes "X") (codes "x"))
unfolding httparse_on_literals
x_is = record { name = (lit< tt, passes is_token_byte (codes "X") refl); raw = passes is_value_byte (codes " x") refl }

pub crowded_is_refused : CrowdedIsRefused
unfolding httparse_on_literals
crowded_is_refused =
    let fields = replicate 65 (field (codes "X") (codes "x")) in
    with_bad_head
    (too_many_fields (post_lock fields) [] (record {
      reads = (lock_head_is fields (each_replicate (field (codes "X") (codes "x")) 65 x_is), sym (append-nil (print_request (post_lock fields))));
      short = lit≤ tt;
    }) (lit< tt))
    refl refl

-- ---- no bytes are not a head

not_empty : (a b : List ℕ) (x : ℕ) (c : List ℕ) → [] ≡ a ++ (b ++ x ∷ c) → ⊥
not_empty [] [] x c e = absurd (cc)
not_empty [] (y ∷ b) x c e = absurd (cc)
not_empty (y ∷ a) b x c e = absurd (cc)

empty_is_no_head : HasNoHead []
empty_is_no_head head rest is =
    not_empty (print_blank head.blank) head.method 32
    (head.target ++ 32 ∷ (print_version head.minor ++ (print_end head.line_end ++ (print_section head.fields head.last ++ rest))))
    (is.reads.1 ∙ print_request-append head rest)

empty_is_unfinished : IsUnfinished []
empty_is_unfinished = record { none = empty_is_no_head; short = omega arith }

-- ---- sessions

studio_is : IsPolicy studio
unfolding on_literals
studio_is = All-from_recursion (λ (r : Repo). IsTrue (is_repo r.name) × IsTrue (is_ref r.default_ref)) studio.repos ((refl, refl), tt)

first_step : IsExchange with_ann first_exchange (with_lock first_lock with_ann)
unfolding on_literals
first_step = record { policy = studio_is; now = lit≤ tt; asked = refl; carries = by_verdict refl refl }

second_step : IsExchange (with_lock first_lock with_ann) second_exchange (with_lock first_lock with_ann)
unfolding on_literals
second_step = record { policy = studio_is; now = lit≤ tt; asked = refl; carries = by_verdict refl refl }

second_is_last : BeginsWith (print_request first_head ++ first_body) (message first_head first_body true) []
unfolding on_literals
second_is_last = first_is_first []

two_answered : Answers two_messages (first_exchange ∷ second_exchange ∷ []) input_ended
unfolding on_literals
two_answered = (print_request first_head ++ first_body, first_is_first (print_request first_head ++ first_body), ([], second_is_last, (empty_is_unfinished, refl)))

pub two_are_served : TwoAreServed
unfolding on_literals
two_are_served = record {
  ends = (two_answered, record { written = refl; answered = refl });
  under = All-from_recursion (λ (e : Exchange). e.setting ≡ at_now studio) (first_exchange ∷ second_exchange ∷ []) (refl, (refl, tt));
  run = (with_lock first_lock with_ann, first_step, (with_lock first_lock with_ann, second_step, refl));
}

smuggling_step : IsExchange with_ann smuggling_exchange with_ann
unfolding on_literals
smuggling_step = record { policy = studio_is; now = lit≤ tt; asked = refl; carries = by_verdict refl refl }

smuggling_answered : Answers (print_request smuggling_head ++ print_request first_head ++ first_body) (smuggling_exchange ∷ []) closed
unfolding on_literals
smuggling_answered = (
  [],
  with_message smuggling_head (print_request first_head ++ first_body)
      (record { reads = record { reads = (smuggling_head_is, refl); short = lit≤ tt }; fields = lit≤ tt }) refl refl,
  (refl, refl),
)

pub body_is_no_message : BodyIsNoMessage
unfolding on_literals
body_is_no_message = record {
  ends = (smuggling_answered, record { written = refl; answered = refl });
  under = All-from_recursion (λ (e : Exchange). e.setting ≡ at_now studio) (smuggling_exchange ∷ []) (refl, tt);
  run = (with_ann, smuggling_step, refl);
}
