-- Bytes that a connection reads and hands out, and heads at the front of bytes, for proofs in other crates.
use Rattle.wire.proofs.Prelude.{◌≡◌, ℕ, ◌+◌, ◌-◌, ◌≤◌, inl, inr, List, [], ◌++◌, length, take, Option, Some, None, refl, sym, ap, subst, ◌∙◌, arith, append_assoc, append-nil, length-append, take_at, cases_lt, take-append-add, Consumes, prepend_known, Consumes-nil, Consumes-trans, RequestHead, print_request, ReadsRequest-append, HeadRule, Ghosts, IsHeadThen, HasNoHead, NeverIsHead, BeginsBadly, too_many_fields, too_long, hopeless, BeginsWithHead, head_limit, Moves, SameHead, IsAt, HasHead, IsStopped, Refuses, waiting, Conn, Stop}

-- ---- heads at the front of more bytes

-- of two ways to split one list, the shorter front and what follows it in the longer
shorter_front : (xs ys zs ws : List ℕ) → xs ++ ys ≡ zs ++ ws → length zs ≤ length xs → xs ≡ zs ++ take (length xs - length zs) ws
shorter_front xs ys zs ws e h =
    let whole : length zs + (length xs - length zs) ≡ length xs = omega arith in
    sym (take_at xs ys (length xs) refl) ∙ ap (take (length xs)) e ∙ ap (λ n. take n (zs ++ ws)) (sym whole)
    ∙ take-append-add zs ws (length xs - length zs)

head_then_more : (bytes : List ℕ) (h : RequestHead) (rest more : List ℕ) → IsHeadThen bytes h rest → IsHeadThen (bytes ++ more) h (rest ++ more)
head_then_more bytes h rest more is = record { reads = ReadsRequest-append bytes h rest more is.reads; short = is.short }

-- a head at the front of bytes is at the front of more bytes
pub head_more : (bytes : List ℕ) (h : RequestHead) (rest more : List ℕ) → BeginsWithHead bytes h rest → BeginsWithHead (bytes ++ more) h (rest ++ more)
head_more bytes h rest more b = record { reads = head_then_more bytes h rest more b.reads; fields = b.fields }

-- a head within the first bytes is at their front
within_none : (bytes more : List ℕ) → HasNoHead bytes → (h : RequestHead) (rest : List ℕ) → IsHeadThen (bytes ++ more) h rest
    → length (print_request h) ≤ length bytes → ⊥
within_none bytes more none h rest is fits =
    none h (take (length bytes - length (print_request h)) rest)
    (record { reads = (is.reads.0, shorter_front bytes more (print_request h) rest is.reads.1 fits); short = is.short })

long_none : (bytes more : List ℕ) → HasNoHead bytes → head_limit ≤ length bytes → HasNoHead (bytes ++ more)
long_none bytes more none long h rest is = within_none bytes more none h rest is (omega (arith, is.short))

-- a head that continues after the first bytes completes them
past_none : (bytes more : List ℕ) → NeverIsHead bytes → (h : RequestHead) (rest : List ℕ) → IsHeadThen (bytes ++ more) h rest
    → length bytes ≤ length (print_request h) → ⊥
past_none bytes more never h rest is long =
    let same : print_request h ≡ bytes ++ take (length (print_request h) - length bytes) more =
    shorter_front (print_request h) rest bytes more (sym is.reads.1) long in
    never (take (length (print_request h) - length bytes) more) h
    (record { reads = (is.reads.0, sym same ∙ sym (append-nil (print_request h))); short = is.short })

never_none : (bytes more : List ℕ) → HasNoHead bytes → NeverIsHead bytes → HasNoHead (bytes ++ more)
never_none bytes more none never h rest is = elim (cases_lt (length bytes) (length (print_request h))) [
  | inl past ↦ past_none bytes more never h rest is (omega (arith, past))
  | inr within ↦ within_none bytes more none h rest is within
]

never_more : (bytes more : List ℕ) → NeverIsHead bytes → NeverIsHead (bytes ++ more)
never_more bytes more never last h is =
    let P : List ℕ → Type 0 = λ b. IsHeadThen b h [] in
    never (more ++ last) h (subst P (append_assoc bytes more last) is)

-- bytes that begin badly do so with more bytes after them
pub badly_more : (bytes more : List ℕ) → BeginsBadly bytes → BeginsBadly (bytes ++ more)
badly_more bytes more (too_many_fields head rest is many) = too_many_fields head (rest ++ more) (head_then_more bytes head rest more is) many
badly_more bytes more (too_long none long) =
    too_long (long_none bytes more none long) (omega (arith, long, length-append bytes more))
badly_more bytes more (hopeless none never) = hopeless (never_none bytes more none never) (never_more bytes more never)

-- bytes that a rule refuses are refused with more bytes after them
pub refuses_more : (bytes more : List ℕ) (rule : HeadRule) → Refuses bytes rule → Refuses (bytes ++ more) rule
refuses_more bytes more rule (inl bad) = inl (bad.0, badly_more bytes more bad.1)
refuses_more bytes more rule (inr by) = inr (by.0, by.1 ++ more, head_more bytes by.0 by.1 more by.2, by.3)

-- ---- connections

-- what was read and handed out, if the bytes are known
known_moves : (a b : Option (List ℕ)) (old new read given : List ℕ) → Consumes a b read → old ++ read ≡ given ++ new
    → Consumes (prepend_known old a) (prepend_known new b) given
known_moves None b old new read given c e = tt
known_moves (Some xs) None old new read given c e = absurd c
known_moves (Some xs) (Some ys) old new read given c e =
    ap (λ l. old ++ l) c ∙ sym (append_assoc old read ys) ∙ ap (λ l. l ++ ys) e ∙ append_assoc given new ys

-- what was read and handed out in two steps
pub order_more : (a b c read more given next : List ℕ) → a ++ read ≡ given ++ b → b ++ more ≡ next ++ c → a ++ (read ++ more) ≡ (given ++ next) ++ c
order_more a b c read more given next first second =
    sym (append_assoc a read more) ∙ ap (λ l. l ++ more) first ∙ append_assoc given b more ∙ ap (λ l. given ++ l) second ∙ sym (append_assoc given next c)

module _ {R : Type 0} {g : Ghosts R} where
  -- a connection that does nothing
  pub moves_none : (c : Conn R g) → Moves c c [] []
  moves_none c = record {
    consumes = Consumes-nil (g.left c.source);
    order = append-nil (waiting c);
    same_reference = refl;
    lighter = omega arith;
  }

  -- two steps, one after the other
  pub moves_more : (old mid new : Conn R g) (read more given next : List ℕ) → Moves old mid read given → Moves mid new more next
      → Moves old new (read ++ more) (given ++ next)
  moves_more old mid new read more given next a b = record {
    consumes = Consumes-trans (g.left old.source) (g.left mid.source) (g.left new.source) read more a.consumes b.consumes;
    order = order_more (waiting old) (waiting mid) (waiting new) read more given next a.order b.order;
    same_reference = b.same_reference ∙ a.same_reference;
    lighter = omega (arith, a.lighter, b.lighter, length-append given next);
  }

  pub same_head_none : (c : Conn R g) → SameHead c c
  same_head_none c = record { front = refl; fields = refl; spans = refl; over = refl }

  pub same_head_more : (old mid new : Conn R g) → SameHead old mid → SameHead mid new → SameHead old new
  same_head_more old mid new a b = record {
    front = b.front ∙ a.front;
    fields = b.fields ∙ a.fields;
    spans = b.spans ∙ a.spans;
    over = b.over ∙ a.over;
  }

  -- the head stays where it is
  pub same_head_at : (old new : Conn R g) (head : RequestHead) → SameHead old new → IsAt old head → IsAt new head
  same_head_at old new head same at = rw (same.front, same.fields, same.spans) at

  -- the known bytes, those that wait and those of the source, lose what was handed out
  pub moves_known : (old new : Conn R g) (read given : List ℕ) → Moves old new read given
      → Consumes (prepend_known (waiting old) (g.left old.source)) (prepend_known (waiting new) (g.left new.source)) given
  moves_known old new read given m = known_moves (g.left old.source) (g.left new.source) (waiting old) (waiting new) read given m.consumes m.order

  -- a call that returns no message hands out nothing
  pub stopped_moves : (old new : Conn R g) (stop : Stop) (is : IsStopped old stop new) → Moves old new is.read []
  stopped_moves old new stop is = record {
    consumes = is.consumes;
    order = sym is.kept;
    same_reference = is.same_reference;
    lighter = omega (arith, is.lighter);
  }

  -- a call that returns a message hands out the bytes of its head
  pub head_moves : (old new : Conn R g) (is : HasHead old new) → Moves old new is.read (print_request is.head)
  head_moves old new is = record {
    consumes = is.consumes;
    order = is.begins.reads.reads.1;
    same_reference = is.same_reference;
    lighter = is.counted;
  }
