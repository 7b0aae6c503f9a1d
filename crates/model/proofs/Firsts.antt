-- A list of bytes has at most one first message.
use Rattle.std.proofs.Common.{◌≡◌, ℕ, true, false, Bool, List, length, take, drop, refl, sym, ap, subst, ◌∙◌, arith, length-take, length-take-le}
use Rattle.std.specs.Prelude.{nat_le}
use Rattle.std.proofs.lemmas.Bool.{leb-false, leb-true}
use Rattle.std.proofs.lemmas.List.{drop_all}
use Rattle.httparse.specs.Grammar.{RequestHead}
use Rattle.httparse.proofs.GrammarLemmas.{request_unique}
use Rattle.model.specs.Heads.{body_length}
use Rattle.model.specs.Steps.{Message, message, bad_head, IsMessage}
use Rattle.model.specs.Stream.{IsHeadThen, BeginsBadly, too_many_fields, too_long, hopeless, BeginsWithHead, with_message, with_bad_head, message_with, IsUnfinished}
use Rattle.model.specs.Laws.{HasOneFirst, ChoosesOnlyThere, MessageIsFinished, CutIsLast, BeginsWithMessage, IsFreeChoice}

-- the head at the front of the bytes is unique, and so is the rest after it
heads_one : (bytes : List ℕ) (h k : RequestHead) (r q : List ℕ) → IsHeadThen bytes h r → IsHeadThen bytes k q → (h ≡ k) × (r ≡ q)
heads_one bytes h k r q a b = request_unique bytes h k r q a.reads b.reads

-- the message and the rest are functions of the head and the bytes after it
same_parts : {A : Type 0} (f : RequestHead → List ℕ → A) (h k : RequestHead) (r q : List ℕ) → (h ≡ k) × (r ≡ q) → f h r ≡ f k q
same_parts f h k r q e = ap (λ x. f x r) e.0 ∙ ap (f k) e.1

-- bytes that begin with a head of few fields do not begin badly
not_bad : (bytes : List ℕ) (h : RequestHead) (rest : List ℕ) → BeginsBadly bytes → BeginsWithHead bytes h rest → ⊥
not_bad bytes h rest (too_many_fields k more reads many) good =
    omega (arith, many, good.fields, ap (λ (g : RequestHead). length g.fields) (heads_one bytes k h more rest reads good.reads).0)
not_bad bytes h rest (too_long none long) good = none h rest good.reads
not_bad bytes h rest (hopeless none never) good = none h rest good.reads

pub one_first : HasOneFirst
one_first bytes a b rest more (with_bad_head bad is none) (with_bad_head worse same nil) = (is ∙ sym same, none ∙ sym nil)
one_first bytes a b rest more (with_bad_head bad is none) (with_message k q good same after) = absurd (not_bad bytes k q bad good)
one_first bytes a b rest more (with_message h r good is after) (with_bad_head bad same nil) = absurd (not_bad bytes h r bad good)
one_first bytes a b rest more (with_message h r good is after) (with_message k q fine same beyond) =
    let one = heads_one bytes h k r q good.reads fine.reads in (
      is ∙ same_parts message_with h k r q one ∙ sym same,
      after ∙ same_parts (λ (x : RequestHead) (l : List ℕ). drop (body_length x) l) h k r q one ∙ sym beyond,
    )

bad_there : (bytes : List ℕ) → BeginsBadly bytes → IsUnfinished bytes → IsFreeChoice bytes
bad_there bytes (too_many_fields h rest reads many) x = absurd (x.none h rest reads)
bad_there bytes (too_long none long) x = absurd (omega (arith, long, x.short))
bad_there bytes (hopeless none never) x = record { none = x.none; short = x.short; never = never }

pub chooses_there : ChoosesOnlyThere
chooses_there bytes a rest (with_bad_head bad is none) x = bad_there bytes bad x
chooses_there bytes a rest (with_message h next good is after) x = absurd (x.none h next good.reads)

-- a message with its head's body is as long as the head says, or cut off
is_message : (head : RequestHead) (next : List ℕ) (whole : Bool) → nat_le (body_length head) (length next) ≡ whole
    → IsMessage (message head (take (body_length head) next) whole)
is_message head next true e = length-take-le (body_length head) next (leb-true (body_length head) (length next) e)
is_message head next false e =
    let less = leb-false (body_length head) (length next) e in omega (arith, less, length-take (body_length head) next)

pub begins_with_message : BeginsWithMessage
begins_with_message bytes a rest (with_bad_head bad is none) = subst IsMessage (sym is) tt
begins_with_message bytes a rest (with_message h next good is after) =
    subst IsMessage (sym is) (is_message h next (nat_le (body_length h) (length next)) refl)

abbrev head_or : RequestHead → Message → RequestHead
head_or other (message head body whole) = head
head_or other bad_head = other

abbrev whole_of : Message → Bool
whole_of (message head body whole) = whole
whole_of bad_head = true

pub cut_is_last : CutIsLast
cut_is_last bytes head body rest (with_bad_head bad is none) = none
cut_is_last bytes head body rest (with_message h next good is after) =
    let less = leb-false (body_length h) (length next) (sym (ap whole_of is)) in
    after ∙ drop_all (body_length h) next (omega (arith, less))

pub message_is_finished : MessageIsFinished
message_is_finished bytes head body whole rest (with_bad_head bad is none) x = absurd (cc)
message_is_finished bytes head body whole rest (with_message h next good is after) x = x.none h next good.reads
