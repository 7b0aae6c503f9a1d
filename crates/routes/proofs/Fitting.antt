-- If no two rows fit one path, the row found part by part is the first that fits.
use Rattle.routes.proofs.Prelude.{◌≡◌, ℕ, List, [], ◌∷◌, ◌++◌, Option, Some, None, Bool, true, false, cond, not, ◌&&◌, ◌||◌, refl, sym, ap, ◌∙◌, bytes_eq, list_all, and_parts, and_from, true≢false, or_else, Segment, literal, parameter, fits, fitting, is_some_text}
use Rattle.std.proofs.lemmas.Slice.Eq.{bytes_eq-Decides}
use Rattle.routes.proofs.Rows.{ended, after_literal, after_parameter, row_by_parts, are_apart, is_apart_from, are_all_apart}

-- no path fits both rows
abbrev pub Apart : List Segment → List Segment → Type 0
Apart ps qs = (parts : List (List ℕ)) → fits ps parts ≡ true → fits qs parts ≡ true → ⊥

apart-both : (ps qs : List Segment) → are_apart ps qs ≡ true → (parts : List (List ℕ)) → fits ps parts ≡ true → fits qs parts ≡ true → ⊥
apart-both [] [] e parts a b = true≢false (sym e)
apart-both [] (literal t ∷ qs) e [] a b = true≢false (sym b)
apart-both [] (parameter ∷ qs) e [] a b = true≢false (sym b)
apart-both [] (q ∷ qs) e (s ∷ ss) a b = true≢false (sym a)
apart-both (literal t ∷ ps) [] e [] a b = true≢false (sym a)
apart-both (parameter ∷ ps) [] e [] a b = true≢false (sym a)
apart-both (p ∷ ps) [] e (s ∷ ss) a b = true≢false (sym b)
apart-both (literal t ∷ ps) (literal u ∷ qs) e [] a b = true≢false (sym a)
apart-both (literal t ∷ ps) (parameter ∷ qs) e [] a b = true≢false (sym a)
apart-both (parameter ∷ ps) (q ∷ qs) e [] a b = true≢false (sym a)
apart-both (literal t ∷ ps) (literal u ∷ qs) e (s ∷ ss) a b =
    let pa = and_parts (bytes_eq s t) (fits ps ss) a in
    let pb = and_parts (bytes_eq s u) (fits qs ss) b in
    let same : bytes_eq t u ≡ true = (bytes_eq-Decides t u).1 (sym ((bytes_eq-Decides s t).0 pa.0) ∙ (bytes_eq-Decides s u).0 pb.0) in
    apart-both ps qs (sym (ap (λ v. not v || are_apart ps qs) same) ∙ e) ss pa.1 pb.1
apart-both (literal t ∷ ps) (parameter ∷ qs) e (s ∷ ss) a b = apart-both ps qs e ss (and_parts (bytes_eq s t) (fits ps ss) a).1 b
apart-both (parameter ∷ ps) (literal u ∷ qs) e (s ∷ ss) a b = apart-both ps qs e ss a (and_parts (bytes_eq s u) (fits qs ss) b).1
apart-both (parameter ∷ ps) (parameter ∷ qs) e (s ∷ ss) a b = apart-both ps qs e ss a b

not-true-false : (b : Bool) → (b ≡ true → ⊥) → b ≡ false
not-true-false true n = absurd (n refl)
not-true-false false n = refl

module _ {K : Type 0} where
  abbrev ApartFrom : List Segment → List (List Segment × K) → Type 0
  ApartFrom ps [] = Unit {0}
  ApartFrom ps ((qs, k) ∷ rows) = Apart ps qs × ApartFrom ps rows

  abbrev pub AllApart : List (List Segment × K) → Type 0
  AllApart [] = Unit {0}
  AllApart ((ps, k) ∷ rows) = ApartFrom ps rows × AllApart rows

  abbrev NoneFits : List (List Segment × K) → List (List ℕ) → Type 0
  NoneFits [] parts = Unit {0}
  NoneFits ((ps, k) ∷ rows) parts = (fits ps parts ≡ false) × NoneFits rows parts

  pub apart-from : (ps : List Segment) (rows : List (List Segment × K)) → is_apart_from ps rows ≡ true → ApartFrom ps rows
  apart-from ps [] e = tt
  apart-from ps ((qs, k) ∷ rows) e = let p = and_parts (are_apart ps qs) (is_apart_from ps rows) e in (apart-both ps qs p.0, apart-from ps rows p.1)

  pub all-apart : (rows : List (List Segment × K)) → are_all_apart rows ≡ true → AllApart rows
  all-apart [] e = tt
  all-apart ((ps, k) ∷ rows) e = let p = and_parts (is_apart_from ps rows) (are_all_apart rows) e in (apart-from ps rows p.0, all-apart rows p.1)

  none-fits : (ps : List Segment) (rows : List (List Segment × K)) (parts : List (List ℕ)) → ApartFrom ps rows → fits ps parts ≡ true → NoneFits rows parts
  none-fits ps [] parts apart e = tt
  none-fits ps ((qs, k) ∷ rows) parts apart e = (not-true-false (fits qs parts) (apart.0 parts e), none-fits ps rows parts apart.1 e)

  none-literal : (s : List ℕ) (ss : List (List ℕ)) (rows : List (List Segment × K)) → NoneFits rows (s ∷ ss) → fitting (after_literal s rows) ss ≡ None
  none-literal s ss [] none = refl
  none-literal s ss (([], k) ∷ rows) none = none-literal s ss rows none.1
  none-literal s ss ((literal t ∷ ps, k) ∷ rows) none = at (bytes_eq s t) none.0 (none-literal s ss rows none.1)
    where
      at : (v : Bool) → (v && fits ps ss) ≡ false → fitting (after_literal s rows) ss ≡ None → fitting (cond v ((ps, k) ∷ after_literal s rows) (after_literal s rows)) ss ≡ None
      at true e ih = ap (λ v. cond v (Some k) (fitting (after_literal s rows) ss)) e ∙ ih
      at false e ih = ih
  none-literal s ss ((parameter ∷ ps, k) ∷ rows) none = none-literal s ss rows none.1

  fitting-part : (s : List ℕ) (ss : List (List ℕ)) (rows : List (List Segment × K)) → AllApart rows
      → or_else (fitting (after_literal s rows) ss) (fitting (after_parameter rows) ss) ≡ fitting rows (s ∷ ss)
  fitting-part s ss [] apart = refl
  fitting-part s ss (([], k) ∷ rows) apart = fitting-part s ss rows apart.1
  fitting-part s ss ((literal t ∷ ps, k) ∷ rows) apart = at (bytes_eq s t) (fits ps ss) (fitting-part s ss rows apart.1) refl
    where
      at : (v w : Bool) → or_else (fitting (after_literal s rows) ss) (fitting (after_parameter rows) ss) ≡ fitting rows (s ∷ ss)
          → fits ps ss ≡ w → or_else (fitting (cond v ((ps, k) ∷ after_literal s rows) (after_literal s rows)) ss) (fitting (after_parameter rows) ss) ≡ cond (v && fits ps ss) (Some k) (fitting rows (s ∷ ss))
      at true true ih e = rw e refl
      at true false ih e = rw e ih
      at false w ih e = ih
  fitting-part s ss ((parameter ∷ ps, k) ∷ rows) apart = at (fits ps ss) refl (fitting-part s ss rows apart.1)
    where
      at : (w : Bool) → fits ps ss ≡ w → or_else (fitting (after_literal s rows) ss) (fitting (after_parameter rows) ss) ≡ fitting rows (s ∷ ss)
          → or_else (fitting (after_literal s rows) ss) (cond w (Some k) (fitting (after_parameter rows) ss)) ≡ cond w (Some k) (fitting rows (s ∷ ss))
      at true e ih = ap (λ o. or_else o (Some k)) (none-literal s ss rows (none-fits (parameter ∷ ps) rows (s ∷ ss) apart.0 e))
      at false e ih = ih

  literal-from : (s t : List ℕ) (ps : List Segment) (rows : List (List Segment × K)) → bytes_eq s t ≡ true → ApartFrom (literal t ∷ ps) rows → ApartFrom ps (after_literal s rows)
  literal-from s t ps [] e apart = tt
  literal-from s t ps (([], k) ∷ rows) e apart = literal-from s t ps rows e apart.1
  literal-from s t ps ((literal u ∷ qs, k) ∷ rows) e apart = at (bytes_eq s u) refl (literal-from s t ps rows e apart.1)
    where
      at : (v : Bool) → bytes_eq s u ≡ v → ApartFrom ps (after_literal s rows) → ApartFrom ps (cond v ((qs, k) ∷ after_literal s rows) (after_literal s rows))
      at true f ih = (λ parts a b. apart.0 (s ∷ parts) (and_from _ _ e a) (and_from _ _ f b), ih)
      at false f ih = ih
  literal-from s t ps ((parameter ∷ qs, k) ∷ rows) e apart = literal-from s t ps rows e apart.1

  parameter-from : (ps : List Segment) (rows : List (List Segment × K)) → ApartFrom (parameter ∷ ps) rows → ApartFrom ps (after_parameter rows)
  parameter-from ps [] apart = tt
  parameter-from ps (([], k) ∷ rows) apart = parameter-from ps rows apart.1
  parameter-from ps ((literal u ∷ qs, k) ∷ rows) apart = parameter-from ps rows apart.1
  parameter-from ps ((parameter ∷ qs, k) ∷ rows) apart = (λ parts a b. apart.0 ([] ∷ parts) a b, parameter-from ps rows apart.1)

  literal-apart : (s : List ℕ) (rows : List (List Segment × K)) → AllApart rows → AllApart (after_literal s rows)
  literal-apart s [] apart = tt
  literal-apart s (([], k) ∷ rows) apart = literal-apart s rows apart.1
  literal-apart s ((literal t ∷ ps, k) ∷ rows) apart = at (bytes_eq s t) refl (literal-apart s rows apart.1)
    where
      at : (v : Bool) → bytes_eq s t ≡ v → AllApart (after_literal s rows) → AllApart (cond v ((ps, k) ∷ after_literal s rows) (after_literal s rows))
      at true e ih = (literal-from s t ps rows e apart.0, ih)
      at false e ih = ih
  literal-apart s ((parameter ∷ ps, k) ∷ rows) apart = literal-apart s rows apart.1

  parameter-apart : (rows : List (List Segment × K)) → AllApart rows → AllApart (after_parameter rows)
  parameter-apart [] apart = tt
  parameter-apart (([], k) ∷ rows) apart = parameter-apart rows apart.1
  parameter-apart ((literal t ∷ ps, k) ∷ rows) apart = parameter-apart rows apart.1
  parameter-apart ((parameter ∷ ps, k) ∷ rows) apart = (parameter-from ps rows apart.0, parameter-apart rows apart.1)

  ended-fitting : (rows : List (List Segment × K)) → ended rows ≡ fitting rows []
  ended-fitting [] = refl
  ended-fitting (([], k) ∷ rows) = refl
  ended-fitting ((literal t ∷ ps, k) ∷ rows) = ended-fitting rows
  ended-fitting ((parameter ∷ ps, k) ∷ rows) = ended-fitting rows

  or_else-nothing : (a b : Option K) → a ≡ None → b ≡ None → or_else a b ≡ None
  or_else-nothing a b e f = ap (λ x. or_else x b) e ∙ f

  -- the first row that fits, if each part has a byte
  pub row-fitting : (rows : List (List Segment × K)) (parts : List (List ℕ)) → AllApart rows
      → row_by_parts rows parts ≡ cond (list_all is_some_text parts) (fitting rows parts) None
  row-fitting rows [] apart = ended-fitting rows
  row-fitting rows ([] ∷ ss) apart = refl
  row-fitting rows ((b ∷ s) ∷ ss) apart =
      ap (λ o. or_else o (row_by_parts (after_parameter rows) ss)) (row-fitting (after_literal (b ∷ s) rows) ss (literal-apart (b ∷ s) rows apart))
      ∙ ap (λ o. or_else (cond (list_all is_some_text ss) (fitting (after_literal (b ∷ s) rows) ss) None) o) (row-fitting (after_parameter rows) ss (parameter-apart rows apart))
      ∙ at (list_all is_some_text ss)
    where
      at : (v : Bool) → or_else (cond v (fitting (after_literal (b ∷ s) rows) ss) None) (cond v (fitting (after_parameter rows) ss) None) ≡ cond v (fitting rows ((b ∷ s) ∷ ss)) None
      at true = fitting-part (b ∷ s) ss rows apart
      at false = refl

  -- ---- a row at another place

  -- a row that no path fits besides one of these rows may as well come after them
  pub fitting-later : (ps : List Segment) (key : K) (before after : List (List Segment × K)) (parts : List (List ℕ)) → ApartFrom ps before
      → fitting ((ps, key) ∷ (before ++ after)) parts ≡ fitting (before ++ (ps, key) ∷ after) parts
  fitting-later ps key [] after parts apart = refl
  fitting-later ps key ((qs, k) ∷ before) after parts apart = at (fits ps parts) refl (fits qs parts) refl (fitting-later ps key before after parts apart.1)
    where
      at : (v : Bool) → fits ps parts ≡ v → (w : Bool) → fits qs parts ≡ w → fitting ((ps, key) ∷ (before ++ after)) parts ≡ fitting (before ++ (ps, key) ∷ after) parts
          → fitting ((ps, key) ∷ (qs, k) ∷ (before ++ after)) parts ≡ fitting ((qs, k) ∷ (before ++ (ps, key) ∷ after)) parts
      at true e true f ih = absurd (apart.0 parts e f)
      at true e false f ih = rw (e, f) (rw e at ih)
      at false e true f ih = rw (e, f) refl
      at false e false f ih = rw (e, f) (rw e at ih)
