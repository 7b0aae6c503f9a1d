-- The router's walk over bytes, part by part.
use Rattle.routes.proofs.Prelude.{◌≡◌, ◌≢◌, ℕ, zero, suc, ◌+◌, ◌-◌, ◌<◌, ◌≤◌, List, [], ◌∷◌, ◌++◌, length, drop, Option, Some, None, Bool, true, false, cond, not, ◌&&◌, refl, sym, ap, subst, ◌∙◌, arith, nat_lt, ◌==◌, bytes_eq, length-append, append-nil, ltb-true, and_parts, and_right, and_from, lt-ltb, ne_eqb, eqb-false, not-true, true≢false, RowsOf, param_token, catch_all_token, own, step, or_else, first, has_slash, segment, cuts, longest_from, longest_suffix, with_suffix, same_text, Segment, literal, parameter, tokens, patterns}
use Rattle.std.proofs.lemmas.Bool.Decides.{nat_tests}
use Rattle.std.proofs.Math.Seq.{drop-append_seam}
use Rattle.matchit.specs.Seek.{seek, param_step}
use Rattle.routes.proofs.Rows.{joined, is_clean_byte, is_clean, is_good, are_good, ended, after_literal, after_parameter, row_by_parts}

-- a byte other than a slash
abbrev pub IsPlain : ℕ → Type 0
IsPlain b = (b < 256) × (b ≢ 47)

abbrev pub ArePlain : List ℕ → Type 0
ArePlain [] = Unit {0}
ArePlain (b ∷ bytes) = IsPlain b × ArePlain bytes

-- the end of a path, or the slash before its next part
abbrev IsNext : List ℕ → Type 0
IsNext [] = Unit {0}
IsNext (b ∷ rest) = b ≡ 47

-- ---- the walk

module _ {K : Type 0} where
  or_else-none : (a : Option K) → or_else a None ≡ a
  or_else-none None = refl
  or_else-none (Some k) = refl

  param_step-empty : (p : List ℕ) → (param_step {K = K} [] p).1 ≡ []
  unfolding param_step
  param_step-empty p =
      elim (has_slash p) as (λ v. (cond {A = ℕ × RowsOf K} v (0, []) (length p, [])).1 ≡ []) [
        | true ↦ refl
        | false ↦ refl
      ]

  seek-empty : (k : ℕ) (p : List ℕ) → seek {K = K} k [] p ≡ None
  unfolding seek
  seek-empty k [] = refl
  seek-empty (suc k) (b ∷ p) = seek-empty k p
  seek-empty zero (b ∷ p) = simp (seek-empty 0 p, param_step-empty (b ∷ p), seek-empty (((param_step {K = K} [] (b ∷ p)).0) - 1) p)

  seek-drop : (k : ℕ) (r : RowsOf K) (p : List ℕ) → seek k r p ≡ seek 0 r (drop k p)
  unfolding seek
  seek-drop zero r p = refl
  seek-drop (suc k) r [] = refl
  seek-drop (suc k) r (b ∷ p) = seek-drop k r p

  -- the case in which no row continues with a parameter or a catch-all
  seek-byte : (r : RowsOf K) (b : ℕ) (p : List ℕ) → step param_token r ≡ [] → step catch_all_token r ≡ [] → seek 0 r (b ∷ p) ≡ seek 0 (step b r) p
  unfolding seek
  seek-byte r b p no_param no_catch =
      simp (no_param, no_catch, param_step-empty (b ∷ p), seek-empty ((param_step {K = K} [] (b ∷ p)).0 - 1) p, or_else-none)

-- ---- rows in the midst of a literal

-- the rest of a literal, and the parts after it
abbrev Mids : Type 0 → Type 0
Mids K = List (List ℕ × List Segment × K)

slash_not : (b : ℕ) → b ≢ 47 → (47 == b) ≡ false
slash_not b n = ne_eqb 47 b (λ e. n (sym e))

module _ {K : Type 0} where
  abbrev ArePlainMids : Mids K → Type 0
  ArePlainMids [] = Unit {0}
  ArePlainMids ((t, ps, k) ∷ mids) = ArePlain t × ArePlainMids mids

  spelled : Mids K → RowsOf K
  spelled [] = []
  spelled ((t, ps, k) ∷ mids) = (t ++ tokens ps, k) ∷ spelled mids

  -- the rows that continue with this byte
  eat : ℕ → Mids K → Mids K
  eat b [] = []
  eat b (([], ps, k) ∷ mids) = eat b mids
  eat b ((x ∷ t, ps, k) ∷ mids) = cond (x == b) ((t, ps, k) ∷ eat b mids) (eat b mids)

  -- the rows whose literal ends here
  done : Mids K → List (List Segment × K)
  done [] = []
  done (([], ps, k) ∷ mids) = (ps, k) ∷ done mids
  done ((x ∷ t, ps, k) ∷ mids) = done mids

  eaten : List ℕ → Mids K → Mids K
  eaten [] mids = mids
  eaten (b ∷ s) mids = eaten s (eat b mids)

  tokens_step : (b : ℕ) (ps : List Segment) (k : K) (r : RowsOf K) → b ≢ 47 → step b ((tokens ps, k) ∷ r) ≡ step b r
  tokens_step b [] k r n = refl
  tokens_step b (literal t ∷ ps) k r n = rw (slash_not b n) refl
  tokens_step b (parameter ∷ ps) k r n = rw (slash_not b n) refl

  step-spelled : (b : ℕ) (mids : Mids K) → b ≢ 47 → step b (spelled mids) ≡ spelled (eat b mids)
  unfolding spelled eat
  step-spelled b [] n = refl
  step-spelled b (([], ps, k) ∷ mids) n = tokens_step b ps k (spelled mids) n ∙ step-spelled b mids n
  step-spelled b ((x ∷ t, ps, k) ∷ mids) n =
      elim (x == b) as (λ v. cond v ((t ++ tokens ps, k) ∷ step b (spelled mids)) (step b (spelled mids)) ≡ spelled (cond v ((t, ps, k) ∷ eat b mids) (eat b mids))) [
        | true ↦ ap (λ r. (t ++ tokens ps, k) ∷ r) (step-spelled b mids n)
        | false ↦ step-spelled b mids n
      ]

  -- no row continues with a token that is not a byte
  step-wild : (y : ℕ) (mids : Mids K) → 256 ≤ y → ArePlainMids mids → step y (spelled mids) ≡ []
  unfolding spelled
  step-wild y [] h plain = refl
  step-wild y (([], ps, k) ∷ mids) h plain = tokens_step y ps k (spelled mids) (λ e. omega arith) ∙ step-wild y mids h plain.1
  step-wild y ((x ∷ t, ps, k) ∷ mids) h plain =
      let e : (x == y) ≡ false = ne_eqb x y (λ e. omega (arith, plain.0.0.0)) in rw e (step-wild y mids h plain.1)

  wild-patterns : (y : ℕ) (rows : List (List Segment × K)) → 256 ≤ y → step y (patterns rows) ≡ []
  wild-patterns y [] h = refl
  wild-patterns y ((ps, k) ∷ rows) h = tokens_step y ps k (patterns rows) (λ e. omega arith) ∙ wild-patterns y rows h

  own-done : (mids : Mids K) → own (spelled mids) ≡ own (patterns (done mids))
  unfolding spelled done
  own-done [] = refl
  own-done (([], [], k) ∷ mids) = refl
  own-done (([], literal t ∷ ps, k) ∷ mids) = own-done mids
  own-done (([], parameter ∷ ps, k) ∷ mids) = own-done mids
  own-done ((x ∷ t, ps, k) ∷ mids) = own-done mids

  step-done : (mids : Mids K) → ArePlainMids mids → step 47 (spelled mids) ≡ step 47 (patterns (done mids))
  unfolding spelled done
  step-done [] plain = refl
  step-done (([], [], k) ∷ mids) plain = step-done mids plain.1
  step-done (([], literal t ∷ ps, k) ∷ mids) plain = ap (λ r. (t ++ tokens ps, k) ∷ r) (step-done mids plain.1)
  step-done (([], parameter ∷ ps, k) ∷ mids) plain = ap (λ r. (param_token ∷ tokens ps, k) ∷ r) (step-done mids plain.1)
  step-done ((x ∷ t, ps, k) ∷ mids) plain =
      let e : (x == 47) ≡ false = ne_eqb x 47 plain.0.0.1 in rw e (step-done mids plain.1)

  plain-eat : (b : ℕ) (mids : Mids K) → ArePlainMids mids → ArePlainMids (eat b mids)
  unfolding eat
  plain-eat b [] plain = tt
  plain-eat b (([], ps, k) ∷ mids) plain = plain-eat b mids plain.1
  plain-eat b ((x ∷ t, ps, k) ∷ mids) plain =
      elim (x == b) as (λ v. ArePlainMids (cond v ((t, ps, k) ∷ eat b mids) (eat b mids))) [
        | true ↦ (plain.0.1, plain-eat b mids plain.1)
        | false ↦ plain-eat b mids plain.1
      ]

  -- the rest of a literal, up to the next slash or the end
  seek-mids : (s : List ℕ) (mids : Mids K) (rest : List ℕ) → ArePlain s → ArePlainMids mids → IsNext rest
      → seek 0 (spelled mids) (s ++ rest) ≡ seek 0 (patterns (done (eaten s mids))) rest
  unfolding eaten seek
  seek-mids [] mids [] s plain next = own-done mids
  seek-mids [] mids (b ∷ rest) s plain next =
      let P : ℕ → Type 0 = λ b. seek 0 (spelled mids) (b ∷ rest) ≡ seek 0 (patterns (done mids)) (b ∷ rest) in
      subst P (sym next)
      (seek-byte (spelled mids) 47 rest (step-wild param_token mids (omega arith) plain) (step-wild catch_all_token mids (omega arith) plain)
      ∙ ap (λ r. seek 0 r rest) (step-done mids plain)
      ∙ sym (seek-byte (patterns (done mids)) 47 rest (wild-patterns param_token (done mids) (omega arith)) (wild-patterns catch_all_token (done mids) (omega arith))))
  seek-mids (b ∷ s) mids rest plain_s plain next =
      seek-byte (spelled mids) b (s ++ rest) (step-wild param_token mids (omega arith) plain) (step-wild catch_all_token mids (omega arith) plain)
      ∙ ap (λ r. seek 0 r (s ++ rest)) (step-spelled b mids plain_s.0.1)
      ∙ seek-mids s (eat b mids) rest plain_s.1 (plain-eat b mids plain) next

-- ---- the start of a part

eqb-turned : (x b : ℕ) → (x == b) ≡ (b == x)
eqb-turned x b = grind (arith, nat_tests)

module _ {K : Type 0} where
  picked : List ℕ → Mids K → List (List Segment × K)
  picked s [] = []
  picked s ((t, ps, k) ∷ mids) = cond (bytes_eq s t) ((ps, k) ∷ picked s mids) (picked s mids)

  done-picked : (mids : Mids K) → done mids ≡ picked [] mids
  unfolding done picked
  done-picked [] = refl
  done-picked (([], ps, k) ∷ mids) = ap (λ r. (ps, k) ∷ r) (done-picked mids)
  done-picked ((x ∷ t, ps, k) ∷ mids) = done-picked mids

  picked-eat : (b : ℕ) (s : List ℕ) (mids : Mids K) → picked s (eat b mids) ≡ picked (b ∷ s) mids
  unfolding eat picked
  picked-eat b s [] = refl
  picked-eat b s (([], ps, k) ∷ mids) = picked-eat b s mids
  picked-eat b s ((x ∷ t, ps, k) ∷ mids) =
      rw (eqb-turned x b)
      (elim (b == x) as (λ v. picked s (cond v ((t, ps, k) ∷ eat b mids) (eat b mids)) ≡ cond (v && bytes_eq s t) ((ps, k) ∷ picked (b ∷ s) mids) (picked (b ∷ s) mids)) [
        | true ↦ ap (λ r. cond (bytes_eq s t) ((ps, k) ∷ r) r) (picked-eat b s mids)
        | false ↦ picked-eat b s mids
      ])

  done-eaten : (s : List ℕ) (mids : Mids K) → done (eaten s mids) ≡ picked s mids
  unfolding eaten
  done-eaten [] mids = done-picked mids
  done-eaten (b ∷ s) mids = done-eaten s (eat b mids) ∙ picked-eat b s mids

  -- the literals at the front of the rows
  lits : List (List Segment × K) → Mids K
  lits [] = []
  lits (([], k) ∷ rows) = lits rows
  lits ((literal t ∷ ps, k) ∷ rows) = (t, ps, k) ∷ lits rows
  lits ((parameter ∷ ps, k) ∷ rows) = lits rows

  picked-lits : (s : List ℕ) (rows : List (List Segment × K)) → picked s (lits rows) ≡ after_literal s rows
  unfolding picked lits
  picked-lits s [] = refl
  picked-lits s (([], k) ∷ rows) = picked-lits s rows
  picked-lits s ((literal t ∷ ps, k) ∷ rows) = ap (λ r. cond (bytes_eq s t) ((ps, k) ∷ r) r) (picked-lits s rows)
  picked-lits s ((parameter ∷ ps, k) ∷ rows) = picked-lits s rows

  -- the rows after the slash
  starts : List (List Segment × K) → RowsOf K
  starts [] = []
  starts (([], k) ∷ rows) = starts rows
  starts ((literal t ∷ ps, k) ∷ rows) = (t ++ tokens ps, k) ∷ starts rows
  starts ((parameter ∷ ps, k) ∷ rows) = (param_token ∷ tokens ps, k) ∷ starts rows

  step-slash : (rows : List (List Segment × K)) → step 47 (patterns rows) ≡ starts rows
  unfolding starts
  step-slash [] = refl
  step-slash (([], k) ∷ rows) = step-slash rows
  step-slash ((literal t ∷ ps, k) ∷ rows) = ap (λ r. (t ++ tokens ps, k) ∷ r) (step-slash rows)
  step-slash ((parameter ∷ ps, k) ∷ rows) = ap (λ r. (param_token ∷ tokens ps, k) ∷ r) (step-slash rows)

  seek-slash : (rows : List (List Segment × K)) (p : List ℕ) → seek 0 (patterns rows) (47 ∷ p) ≡ seek 0 (starts rows) p
  seek-slash rows p =
      seek-byte (patterns rows) 47 p (wild-patterns param_token rows (omega arith)) (wild-patterns catch_all_token rows (omega arith))
      ∙ ap (λ r. seek 0 r p) (step-slash rows)

abbrev pub IsGoodParts : List Segment → Type 0
IsGoodParts [] = Unit {0}
IsGoodParts (literal t ∷ ps) = (0 < length t) × ArePlain t × IsGoodParts ps
IsGoodParts (parameter ∷ ps) = IsGoodParts ps

module _ {K : Type 0} where
  abbrev pub AreGoodRows : List (List Segment × K) → Type 0
  AreGoodRows [] = Unit {0}
  AreGoodRows ((ps, k) ∷ rows) = IsGoodParts ps × AreGoodRows rows

  plain-lits : (rows : List (List Segment × K)) → AreGoodRows rows → ArePlainMids (lits rows)
  unfolding lits
  plain-lits [] good = tt
  plain-lits (([], k) ∷ rows) good = plain-lits rows good.1
  plain-lits ((literal t ∷ ps, k) ∷ rows) good = (good.0.1, plain-lits rows good.1)
  plain-lits ((parameter ∷ ps, k) ∷ rows) good = plain-lits rows good.1

  starts-byte : (b : ℕ) (rows : List (List Segment × K)) → IsPlain b → AreGoodRows rows → step b (starts rows) ≡ spelled (eat b (lits rows))
  unfolding starts spelled eat lits
  starts-byte b [] plain good = refl
  starts-byte b (([], k) ∷ rows) plain good = starts-byte b rows plain good.1
  starts-byte b ((literal [] ∷ ps, k) ∷ rows) plain good = absurd (omega (arith, good.0.0))
  starts-byte b ((literal (x ∷ t) ∷ ps, k) ∷ rows) plain good =
      elim (x == b) as (λ v. cond v ((t ++ tokens ps, k) ∷ step b (starts rows)) (step b (starts rows)) ≡ spelled (cond v ((t, ps, k) ∷ eat b (lits rows)) (eat b (lits rows)))) [
        | true ↦ ap (λ r. (t ++ tokens ps, k) ∷ r) (starts-byte b rows plain good.1)
        | false ↦ starts-byte b rows plain good.1
      ]
  starts-byte b ((parameter ∷ ps, k) ∷ rows) plain good =
      let e : (256 == b) ≡ false = ne_eqb 256 b (λ e. omega (arith, plain.0)) in rw e (starts-byte b rows plain good.1)

  starts-param : (rows : List (List Segment × K)) → AreGoodRows rows → step param_token (starts rows) ≡ patterns (after_parameter rows)
  unfolding starts
  starts-param [] good = refl
  starts-param (([], k) ∷ rows) good = starts-param rows good.1
  starts-param ((literal [] ∷ ps, k) ∷ rows) good = absurd (omega (arith, good.0.0))
  starts-param ((literal (x ∷ t) ∷ ps, k) ∷ rows) good =
      let e : (x == 256) ≡ false = ne_eqb x 256 (λ e. omega (arith, good.0.1.0.0)) in rw e (starts-param rows good.1)
  starts-param ((parameter ∷ ps, k) ∷ rows) good = ap (λ r. (tokens ps, k) ∷ r) (starts-param rows good.1)

  starts-catch : (rows : List (List Segment × K)) → AreGoodRows rows → step catch_all_token (starts rows) ≡ []
  unfolding starts
  starts-catch [] good = refl
  starts-catch (([], k) ∷ rows) good = starts-catch rows good.1
  starts-catch ((literal [] ∷ ps, k) ∷ rows) good = absurd (omega (arith, good.0.0))
  starts-catch ((literal (x ∷ t) ∷ ps, k) ∷ rows) good =
      let e : (x == 257) ≡ false = ne_eqb x 257 (λ e. omega (arith, good.0.1.0.0)) in rw e (starts-catch rows good.1)
  starts-catch ((parameter ∷ ps, k) ∷ rows) good = starts-catch rows good.1

  starts-slash : (rows : List (List Segment × K)) → AreGoodRows rows → step 47 (starts rows) ≡ []
  unfolding starts
  starts-slash [] good = refl
  starts-slash (([], k) ∷ rows) good = starts-slash rows good.1
  starts-slash ((literal [] ∷ ps, k) ∷ rows) good = absurd (omega (arith, good.0.0))
  starts-slash ((literal (x ∷ t) ∷ ps, k) ∷ rows) good =
      let e : (x == 47) ≡ false = ne_eqb x 47 good.0.1.0.1 in rw e (starts-slash rows good.1)
  starts-slash ((parameter ∷ ps, k) ∷ rows) good = starts-slash rows good.1

  own-starts : (rows : List (List Segment × K)) → AreGoodRows rows → own (starts rows) ≡ None
  unfolding starts
  own-starts [] good = refl
  own-starts (([], k) ∷ rows) good = own-starts rows good.1
  own-starts ((literal [] ∷ ps, k) ∷ rows) good = absurd (omega (arith, good.0.0))
  own-starts ((literal (x ∷ t) ∷ ps, k) ∷ rows) good = own-starts rows good.1
  own-starts ((parameter ∷ ps, k) ∷ rows) good = own-starts rows good.1

  own-patterns : (rows : List (List Segment × K)) → own (patterns rows) ≡ ended rows
  own-patterns [] = refl
  own-patterns (([], k) ∷ rows) = refl
  own-patterns ((literal t ∷ ps, k) ∷ rows) = own-patterns rows
  own-patterns ((parameter ∷ ps, k) ∷ rows) = own-patterns rows

-- ---- the text of a parameter

drop-all : (s : List ℕ) → drop (length s) s ≡ []
drop-all s = ap (drop (length s)) (sym (append-nil s)) ∙ drop-append_seam s []

segment-end : (s : List ℕ) → ArePlain s → segment (s ++ []) ≡ s
segment-end [] plain = refl
segment-end (b ∷ s) plain = let e : (b == 47) ≡ false = ne_eqb b 47 plain.0.1 in rw e (ap (λ r. b ∷ r) (segment-end s plain.1))

segment-slash : (s rest : List ℕ) → ArePlain s → segment (s ++ 47 ∷ rest) ≡ s ++ 47 ∷ []
segment-slash [] rest plain = refl
segment-slash (b ∷ s) rest plain = let e : (b == 47) ≡ false = ne_eqb b 47 plain.0.1 in rw e (ap (λ r. b ∷ r) (segment-slash s rest plain.1))

no-slash : (s : List ℕ) → ArePlain s → has_slash (s ++ []) ≡ false
no-slash [] plain = refl
no-slash (b ∷ s) plain = let e : (b == 47) ≡ false = ne_eqb b 47 plain.0.1 in rw e (no-slash s plain.1)

some-slash : (s rest : List ℕ) → ArePlain s → has_slash (s ++ 47 ∷ rest) ≡ true
some-slash [] rest plain = refl
some-slash (b ∷ s) rest plain = let e : (b == 47) ≡ false = ne_eqb b 47 plain.0.1 in rw e (some-slash s rest plain.1)

no-slash-at : (k : ℕ) (s : List ℕ) → ArePlain s → same_text (47 ∷ []) (drop k s) ≡ false
no-slash-at zero [] plain = refl
no-slash-at zero (b ∷ s) plain = let e : (47 == b) ≡ false = slash_not b plain.0.1 in rw e refl
no-slash-at (suc k) [] plain = refl
no-slash-at (suc k) (b ∷ s) plain = no-slash-at k s plain.1

cuts-end : (s : List ℕ) → ArePlain s → cuts s (47 ∷ []) ≡ false
cuts-end s plain = and_right _ _ (no-slash-at (length s - 1) s plain)

cuts-slash : (b : ℕ) (s : List ℕ) → cuts (b ∷ s ++ 47 ∷ []) (47 ∷ []) ≡ true
cuts-slash b s =
    let long : length (b ∷ s ++ 47 ∷ []) ≡ length (b ∷ s) + 1 = length-append (b ∷ s) (47 ∷ []) in
    let room : length (b ∷ s ++ 47 ∷ []) - 1 ≡ length (b ∷ s) = omega (arith, long) in
    let last : drop (length (b ∷ s ++ 47 ∷ []) - 1) (b ∷ s ++ 47 ∷ []) ≡ 47 ∷ [] = ap (λ n. drop n (b ∷ s ++ 47 ∷ [])) room ∙ drop-append_seam (b ∷ s) (47 ∷ []) in
    and_from _ _ (lt-ltb 1 (length (b ∷ s ++ 47 ∷ [])) (omega (arith, long))) (ap (same_text (47 ∷ [])) last)

module _ {K : Type 0} where
  has_going : List (List Segment × K) → Bool
  has_going [] = false
  has_going (([], k) ∷ rows) = has_going rows
  has_going ((p ∷ ps, k) ∷ rows) = true

  going : List (List Segment × K) → List (List Segment × K)
  going [] = []
  going (([], k) ∷ rows) = going rows
  going ((p ∷ ps, k) ∷ rows) = (p ∷ ps, k) ∷ going rows

  longest-stays : (seg : List ℕ) (rows : List (List Segment × K)) → longest_from seg (47 ∷ []) (patterns rows) ≡ 47 ∷ []
  longest-stays seg [] = refl
  longest-stays seg (([], k) ∷ rows) = longest-stays seg rows
  longest-stays seg ((literal t ∷ ps, k) ∷ rows) = longest-stays seg rows
  longest-stays seg ((parameter ∷ ps, k) ∷ rows) = longest-stays seg rows

  longest-found : (seg : List ℕ) (rows : List (List Segment × K)) → cuts seg (47 ∷ []) ≡ true
      → longest_suffix seg (patterns rows) ≡ cond (has_going rows) (47 ∷ []) []
  unfolding has_going
  longest-found seg [] e = refl
  longest-found seg (([], k) ∷ rows) e = longest-found seg rows e
  longest-found seg ((literal t ∷ ps, k) ∷ rows) e = ap (λ v. longest_from seg (cond v (47 ∷ []) []) (patterns rows)) e ∙ longest-stays seg rows
  longest-found seg ((parameter ∷ ps, k) ∷ rows) e = ap (λ v. longest_from seg (cond v (47 ∷ []) []) (patterns rows)) e ∙ longest-stays seg rows

  longest-none : (seg : List ℕ) (rows : List (List Segment × K)) → cuts seg (47 ∷ []) ≡ false → longest_suffix seg (patterns rows) ≡ []
  longest-none seg [] e = refl
  longest-none seg (([], k) ∷ rows) e = longest-none seg rows e
  longest-none seg ((literal t ∷ ps, k) ∷ rows) e = ap (λ v. longest_from seg (cond v (47 ∷ []) []) (patterns rows)) e ∙ longest-none seg rows e
  longest-none seg ((parameter ∷ ps, k) ∷ rows) e = ap (λ v. longest_from seg (cond v (47 ∷ []) []) (patterns rows)) e ∙ longest-none seg rows e

  with-going : (rows : List (List Segment × K)) → with_suffix (47 ∷ []) (patterns rows) ≡ patterns (going rows)
  unfolding going
  with-going [] = refl
  with-going (([], k) ∷ rows) = with-going rows
  with-going ((literal t ∷ ps, k) ∷ rows) = ap (λ r. (47 ∷ (t ++ tokens ps), k) ∷ r) (with-going rows)
  with-going ((parameter ∷ ps, k) ∷ rows) = ap (λ r. (47 ∷ param_token ∷ tokens ps, k) ∷ r) (with-going rows)

  step-going : (rows : List (List Segment × K)) → step 47 (patterns (going rows)) ≡ step 47 (patterns rows)
  unfolding going
  step-going [] = refl
  step-going (([], k) ∷ rows) = step-going rows
  step-going ((literal t ∷ ps, k) ∷ rows) = ap (λ r. (t ++ tokens ps, k) ∷ r) (step-going rows)
  step-going ((parameter ∷ ps, k) ∷ rows) = ap (λ r. (param_token ∷ tokens ps, k) ∷ r) (step-going rows)

  step-none : (rows : List (List Segment × K)) → has_going rows ≡ false → step 47 (patterns rows) ≡ []
  unfolding has_going
  step-none [] e = refl
  step-none (([], k) ∷ rows) e = step-none rows e
  step-none ((p ∷ ps, k) ∷ rows) e = absurd (true≢false e)

  seek-step : (rows : List (List Segment × K)) (r : List ℕ) → seek 0 (patterns rows) (47 ∷ r) ≡ seek 0 (step 47 (patterns rows)) r
  seek-step rows r = seek-byte (patterns rows) 47 r (wild-patterns param_token rows (omega arith)) (wild-patterns catch_all_token rows (omega arith))

  seek-going : (rows : List (List Segment × K)) (r : List ℕ) → seek 0 (patterns (going rows)) (47 ∷ r) ≡ seek 0 (patterns rows) (47 ∷ r)
  seek-going rows r = seek-step (going rows) r ∙ ap (λ x. seek 0 x r) (step-going rows) ∙ sym (seek-step rows r)

  -- the result after a parameter
  goes : List (List Segment × K) → List ℕ → Option K
  goes rows [] = None
  goes rows (b ∷ p) = seek ((param_step (patterns rows) (b ∷ p)).0 - 1) (param_step (patterns rows) (b ∷ p)).1 p

  goes-end : (rows : List (List Segment × K)) (b : ℕ) (s : List ℕ) → ArePlain (b ∷ s) → goes rows (b ∷ s ++ []) ≡ seek 0 (patterns rows) []
  unfolding goes param_step
  goes-end rows b s plain =
      let none : longest_suffix (segment (b ∷ s ++ [])) (patterns rows) ≡ [] =
      ap (λ g. longest_suffix g (patterns rows)) (segment-end (b ∷ s) plain) ∙ longest-none (b ∷ s) rows (cuts-end (b ∷ s) plain) in
      let more : has_slash (b ∷ s ++ []) ≡ false = no-slash (b ∷ s) plain in
      let n : length (b ∷ s ++ []) - 1 ≡ length (s ++ []) = omega arith in
      rw (none, more) (ap (λ k. seek k (patterns rows) (s ++ [])) n ∙ seek-drop (length (s ++ [])) (patterns rows) (s ++ []) ∙ ap (λ p. seek 0 (patterns rows) p) (drop-all (s ++ [])))

  goes-slash : (rows : List (List Segment × K)) (b : ℕ) (s r : List ℕ) → ArePlain (b ∷ s) → goes rows (b ∷ s ++ 47 ∷ r) ≡ seek 0 (patterns rows) (47 ∷ r)
  unfolding goes param_step
  goes-slash rows b s r plain = at (has_going rows) refl
    where
      found : longest_suffix (segment (b ∷ s ++ 47 ∷ r)) (patterns rows) ≡ cond (has_going rows) (47 ∷ []) []
      found = ap (λ g. longest_suffix g (patterns rows)) (segment-slash (b ∷ s) r plain) ∙ longest-found (b ∷ s ++ 47 ∷ []) rows (cuts-slash b s)

      seg : segment (b ∷ s ++ 47 ∷ r) ≡ b ∷ s ++ 47 ∷ []
      seg = segment-slash (b ∷ s) r plain

      size : (length (b ∷ s ++ 47 ∷ []) - 1) - 1 ≡ length s
      size = omega (arith, length-append (b ∷ s) (47 ∷ []))

      more : has_slash (b ∷ s ++ 47 ∷ r) ≡ true
      more = some-slash (b ∷ s) r plain

      at : (v : Bool) → has_going rows ≡ v → goes rows (b ∷ s ++ 47 ∷ r) ≡ seek 0 (patterns rows) (47 ∷ r)
      at true e =
          rw (found, e, seg) (ap (λ k. seek k (with_suffix (47 ∷ []) (patterns rows)) (s ++ 47 ∷ r)) size ∙ seek-drop (length s) (with_suffix (47 ∷ []) (patterns rows)) (s ++ 47 ∷ r)
          ∙ ap (λ p. seek 0 (with_suffix (47 ∷ []) (patterns rows)) p) (drop-append_seam s (47 ∷ r)) ∙ ap (λ x. seek 0 x (47 ∷ r)) (with-going rows) ∙ seek-going rows r)
      at false e =
          rw (found, e, more) (seek-empty 0 (s ++ 47 ∷ r) ∙ sym (seek-step rows r ∙ ap (λ x. seek 0 x r) (step-none rows e) ∙ seek-empty 0 r))

  goes-next : (rows : List (List Segment × K)) (b : ℕ) (s rest : List ℕ) → ArePlain (b ∷ s) → IsNext rest → goes rows (b ∷ s ++ rest) ≡ seek 0 (patterns rows) rest
  goes-next rows b s [] plain next = goes-end rows b s plain
  goes-next rows b s (x ∷ r) plain next =
      subst (λ (x : ℕ). goes rows (b ∷ s ++ x ∷ r) ≡ seek 0 (patterns rows) (x ∷ r)) (sym next) (goes-slash rows b s r plain)

  -- ---- the whole walk

  seek-part : (rows : List (List Segment × K)) (b : ℕ) (s rest : List ℕ) → AreGoodRows rows → ArePlain (b ∷ s) → IsNext rest
      → seek 0 (starts rows) (b ∷ s ++ rest) ≡ or_else (seek 0 (patterns (after_literal (b ∷ s) rows)) rest) (seek 0 (patterns (after_parameter rows)) rest)
  unfolding seek goes
  seek-part rows b s rest good plain next =
      let by_text : seek 0 (step b (starts rows)) (s ++ rest) ≡ seek 0 (patterns (after_literal (b ∷ s) rows)) rest =
      ap (λ r. seek 0 r (s ++ rest)) (starts-byte b rows plain.0 good)
      ∙ seek-mids s (eat b (lits rows)) rest plain.1 (plain-eat b (lits rows) (plain-lits rows good)) next
      ∙ ap (λ r. seek 0 (patterns r) rest) (done-eaten s (eat b (lits rows)) ∙ picked-eat b s (lits rows) ∙ picked-lits (b ∷ s) rows) in
      let by_parameter : goes (after_parameter rows) (b ∷ s ++ rest) ≡ seek 0 (patterns (after_parameter rows)) rest = goes-next (after_parameter rows) b s rest plain next in
      rw (by_text, starts-param rows good, starts-catch rows good, by_parameter)
      (ap (λ o. or_else (seek 0 (patterns (after_literal (b ∷ s) rows)) rest) o) (or_else-none (seek 0 (patterns (after_parameter rows)) rest)))

  -- an empty part has no route
  seek-empty-part : (rows : List (List Segment × K)) (rest : List ℕ) → AreGoodRows rows → IsNext rest → seek 0 (starts rows) rest ≡ None
  unfolding seek param_step
  seek-empty-part rows [] good next = own-starts rows good
  seek-empty-part rows (x ∷ r) good next =
      subst (λ (x : ℕ). seek 0 (starts rows) (x ∷ r) ≡ None) (sym next) (at_slash (longest-none (47 ∷ []) (after_parameter rows) refl))
    where
      at_slash : longest_suffix (47 ∷ []) (patterns (after_parameter rows)) ≡ [] → seek 0 (starts rows) (47 ∷ r) ≡ None
      at_slash none = rw (starts-slash rows good, starts-param rows good, starts-catch rows good, none, seek-empty 0 r) refl

  after-literal-good : (s : List ℕ) (rows : List (List Segment × K)) → AreGoodRows rows → AreGoodRows (after_literal s rows)
  after-literal-good s [] good = tt
  after-literal-good s (([], k) ∷ rows) good = after-literal-good s rows good.1
  after-literal-good s ((literal t ∷ ps, k) ∷ rows) good =
      elim (bytes_eq s t) as (λ v. AreGoodRows (cond v ((ps, k) ∷ after_literal s rows) (after_literal s rows))) [
        | true ↦ (good.0.2, after-literal-good s rows good.1)
        | false ↦ after-literal-good s rows good.1
      ]
  after-literal-good s ((parameter ∷ ps, k) ∷ rows) good = after-literal-good s rows good.1

  after-parameter-good : (rows : List (List Segment × K)) → AreGoodRows rows → AreGoodRows (after_parameter rows)
  after-parameter-good [] good = tt
  after-parameter-good (([], k) ∷ rows) good = after-parameter-good rows good.1
  after-parameter-good ((literal t ∷ ps, k) ∷ rows) good = after-parameter-good rows good.1
  after-parameter-good ((parameter ∷ ps, k) ∷ rows) good = (good.0, after-parameter-good rows good.1)

abbrev pub ArePlainParts : List (List ℕ) → Type 0
ArePlainParts [] = Unit {0}
ArePlainParts (s ∷ ss) = ArePlain s × ArePlainParts ss

next-joined : (parts : List (List ℕ)) → IsNext (joined parts)
next-joined [] = tt
next-joined (s ∷ ss) = refl

module _ {K : Type 0} where
  -- the router finds for a path what its rows give part by part
  pub walk : (rows : List (List Segment × K)) (parts : List (List ℕ)) → AreGoodRows rows → ArePlainParts parts
      → first (patterns rows) (joined parts) ≡ row_by_parts rows parts
  unfolding seek
  walk rows [] good plain = own-patterns rows
  walk rows ([] ∷ ss) good plain = seek-slash rows (joined ss) ∙ seek-empty-part rows (joined ss) good (next-joined ss)
  walk rows ((b ∷ s) ∷ ss) good plain =
      seek-slash rows (b ∷ s ++ joined ss) ∙ seek-part rows b s (joined ss) good plain.0 (next-joined ss)
      ∙ ap (λ o. or_else o (seek 0 (patterns (after_parameter rows)) (joined ss))) (walk (after_literal (b ∷ s) rows) ss (after-literal-good (b ∷ s) rows good) plain.1)
      ∙ ap (λ o. or_else (row_by_parts (after_literal (b ∷ s) rows) ss) o) (walk (after_parameter rows) ss (after-parameter-good rows good) plain.1)

  -- a path that does not begin with a slash has no route
  pub walk-none : (rows : List (List Segment × K)) (b : ℕ) (p : List ℕ) → b ≢ 47 → first (patterns rows) (b ∷ p) ≡ None
  walk-none rows b p n =
      seek-byte (patterns rows) b p (wild-patterns param_token rows (omega arith)) (wild-patterns catch_all_token rows (omega arith))
      ∙ ap (λ r. seek 0 r p) (no-step rows) ∙ seek-empty 0 p
    where
      no-step : (rows : List (List Segment × K)) → step b (patterns rows) ≡ []
      no-step [] = refl
      no-step ((ps, k) ∷ rows) = tokens_step b ps k (patterns rows) n ∙ no-step rows

-- ---- which tables are good, by a test

plain-text : (t : List ℕ) → is_clean t ≡ true → ArePlain t
plain-text [] e = tt
plain-text (b ∷ t) e =
    let p = and_parts (is_clean_byte b) (is_clean t) e in
    let q = and_parts (nat_lt b 256) (not (b == 47)) p.0 in
    ((ltb-true b 256 q.0, eqb-false b 47 (not-true _ q.1)), plain-text t p.1)

good-parts : (ps : List Segment) → is_good ps ≡ true → IsGoodParts ps
good-parts [] e = tt
good-parts (literal t ∷ ps) e =
    let p = and_parts (nat_lt 0 (length t) && is_clean t) (is_good ps) e in
    let q = and_parts (nat_lt 0 (length t)) (is_clean t) p.0 in
    (ltb-true 0 (length t) q.0, plain-text t q.1, good-parts ps p.1)
good-parts (parameter ∷ ps) e = good-parts ps e

pub good-rows : {K : Type 0} (rows : List (List Segment × K)) → are_good rows ≡ true → AreGoodRows rows
good-rows [] e = tt
good-rows ((ps, k) ∷ rows) e = let p = and_parts (is_good ps) (are_good rows) e in (good-parts ps p.0, good-rows rows p.1)
