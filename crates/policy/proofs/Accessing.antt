-- Whoever may push nothing is denied every push, and whoever may push something has a row that may allow it.
use Rattle.policy.proofs.Prelude.{◌≡◌, ◌∙◌, ℕ, ◌+◌, Bool, true, false, ◌&&◌, ◌||◌, List, [], ◌∷◌, Option, Some, None, bytes_eq, cond, refl, sym, true≢false, and_parts, find, list_any, Decision, decide_from, decision_by, held_by, held_if_named, holds, is_any, applies, covers_place}
use Rattle.model.specs.Callers.{is_allowed}
use Rattle.model.specs.Policy.{Row}
use Rattle.model.specs.Views.{is_allow, may_allow_push}
use Rattle.model.specs.declared.Effect.{Effect}
use Rattle.model.specs.declared.Effect.TheVariants as effect
use Rattle.policy.specs.Access.{AccessIsRight, is_allowing, push_to, settles}
use Rattle.policy.proofs.Applying.{regrouped}
use Rattle.policy.proofs.Covered.{any_weaker, both, or_left, or_right}

-- ---- a place

-- patterns that hold the absence of a text hold each text
holds_each : (patterns : List (List ℕ)) (text : Option (List ℕ)) → held_if_named patterns None ≡ true → held_if_named patterns text ≡ true
holds_each patterns None is = is
holds_each patterns (Some text) is =
    any_weaker is_any (holds text) patterns
    (λ pattern any. or_left (is_any pattern || bytes_eq pattern text) _ (or_left (is_any pattern) (bytes_eq pattern text) any)) is

-- a row that holds every ref and every path covers each place
covers_each : (user repo : List ℕ) (ref path : Option (List ℕ)) (row : Row) → covers_place (push_to user repo None None) row ≡ true
    → covers_place (push_to user repo ref path) row ≡ true
covers_each user repo ref path row is =
    let (refs, paths) = and_parts (held_if_named row.refs None) (held_if_named row.paths None) is in
    both (held_if_named row.refs ref) (held_if_named row.paths path) (holds_each row.refs ref refs) (holds_each row.paths path paths)

-- ---- one more row, which may apply, and may cover all places, or this one

denied_more : (applies all here : Bool) (e : Effect) (row : Row) (n : ℕ) (rest : Option Row) (later : Decision) → row.effect ≡ e
    → (all ≡ true → here ≡ true) → (is_allowing rest ≡ false → is_allowed later ≡ false)
    → is_allowing (cond (applies && (is_allow e || all)) (Some row) rest) ≡ false
    → is_allowed (cond (applies && here) (decision_by e n) later) ≡ false
denied_more false all here e row n rest later same covers from is = from is
denied_more true all here effect.Allow row n rest later same covers from is =
    let allows : true ≡ is_allow row.effect = rw (same) refl in absurd (true≢false (allows ∙ is))
denied_more true true here effect.Deny row n rest later same covers from is = rw (covers refl) refl
denied_more true false true effect.Deny row n rest later same covers from is = refl
denied_more true false false effect.Deny row n rest later same covers from is = from is

given_more : (applies all allows : Bool) (row : Row) (rest : Option Row) (more : Bool) → is_allow row.effect ≡ allows
    → (is_allowing rest ≡ true → more ≡ true) → is_allowing (cond (applies && (allows || all)) (Some row) rest) ≡ true
    → ((allows && applies) || more) ≡ true
given_more false all allows row rest more same from is = or_right (allows && false) more (from is)
given_more true all true row rest more same from is = refl
given_more true true false row rest more same from is = absurd (true≢false (sym is ∙ same))
given_more true false false row rest more same from is = from is

-- ---- all rows

grouped : (allows user repo right : Bool) → (allows && user && repo && right) ≡ (allows && (user && repo && right))
grouped false user repo right = refl
grouped true user repo right = refl

denied : (user repo : List ℕ) (ref path : Option (List ℕ)) (n : ℕ) (rows : List Row)
    → is_allowing (find (settles (push_to user repo None None)) rows) ≡ false
    → is_allowed (decide_from n rows (push_to user repo ref path)) ≡ false
denied user repo ref path n [] is = refl
denied user repo ref path n (row ∷ rows) is =
    let any = push_to user repo None None in
    let q = push_to user repo ref path in
    rw (regrouped (held_by row.users user && held_by row.repos repo) _ _ _)
    (denied_more (applies any row) (covers_place any row) (covers_place q row) row.effect row n (find (settles any) rows) (decide_from (n + 1) rows q)
    refl (covers_each user repo ref path row) (denied user repo ref path (n + 1) rows) is)

given : (user repo : List ℕ) (rows : List Row) → is_allowing (find (settles (push_to user repo None None)) rows) ≡ true
    → list_any (may_allow_push user repo) rows ≡ true
given user repo [] is = is
given user repo (row ∷ rows) is =
    let any = push_to user repo None None in
    rw (grouped (is_allow row.effect) (held_by row.users user) (held_by row.repos repo) _)
    (given_more (applies any row) (covers_place any row) (is_allow row.effect) row (find (settles any) rows) (list_any (may_allow_push user repo) rows)
    refl (given user repo rows) is)

pub access_is_right : AccessIsRight
access_is_right = record {
  refused = λ policy user repo is ref path. denied user repo ref path 1 policy.rows is;
  given = λ policy user repo is. given user repo policy.rows is;
}
