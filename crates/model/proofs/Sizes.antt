-- An accepted head states no body that is larger than an object.
use Rattle.std.proofs.Common.{◌≡◌, ℕ, ◌≤◌, Bool, true, false, not, ◌||◌, ◌&&◌, nat_lt, nat_le, List, [], ◌∷◌, refl, sym, subst, arith, Ok, Some, find, filter, bytes_eq, cond, IfOk, IfSome, IsTrue, codes, inl, inr, ◌⊎◌}
use Rattle.std.specs.Bool.{⊤}
use Rattle.std.specs.List.{AllByRecursion, list_all}
use Rattle.std.specs.Str.{is_utf8}
use Rattle.std.proofs.lemmas.Slice.Eq.{bytes_eq-Decides}
use Rattle.std.proofs.lemmas.Bool.{ltb-false, leb-true, cond_both, true≢false}
use Rattle.httparse.specs.Grammar.{RequestHead}
use Rattle.names.specs.Texts.{largest_object, parts, is_empty}
use Rattle.names.specs.declared.rules.Rule.TheVariants as rule
use Rattle.model.specs.declared.Form.{Form}
use Rattle.model.specs.Reading.{check, ok_or}
use Rattle.model.specs.Heads.{Target, Route, RouteRow, head_verdict, check_framing, is_measured, is_clear, is_small, is_method, content_length, largest_form, route_at, routes, route_of_parts, repo_text, row_fits, path_of, form_of, values, at_most, accepts}
use Rattle.model.proofs.Tests.{both_true}
use Rattle.model.proofs.Checks.{passed, then_any, found_ok, check_ok, find_ok}

abbrev IsMethod : List ℕ → Type 0
IsMethod method = (bytes_eq method (codes "GET") ≡ true) ⊎ (bytes_eq method (codes "POST") ≡ true) ⊎ (bytes_eq method (codes "PUT") ≡ true)

-- ---- the methods of the routes

routes_methods : AllByRecursion (λ (row : RouteRow). AllByRecursion (λ (r : List ℕ × Form). IsMethod r.0) row.requests) routes
routes_methods = (
  (inr (inl refl), tt),
  (
    (inl refl, (inr (inl refl), tt)),
    (
      (inr (inl refl), tt),
      (
        (inr (inl refl), tt),
        (
          (inl refl, (inr (inr refl), tt)),
          (
            (inr (inl refl), tt),
            tt,
          ),
        ),
      ),
    ),
  ),
)

form_method : (method : List ℕ) (requests : List (List ℕ × Form)) → AllByRecursion (λ (r : List ℕ × Form). IsMethod r.0) requests → IfSome (form_of method requests) (λ f. IsMethod method)
form_method method [] all = tt
form_method method (r ∷ requests) all =
    cond_both (bytes_eq method r.0) (Some r.1) (form_of method requests) (λ o. IfSome o (λ f. IsMethod method))
    (λ e. subst IsMethod (sym ((bytes_eq-Decides method r.0).0 e)) all.0) (λ _. form_method method requests all.1)

abbrev RouteMethods : Route → Type 0
RouteMethods route = AllByRecursion (λ (r : List ℕ × Form). IsMethod r.0) route.row.requests

abbrev RowMethods : RouteRow → Type 0
RowMethods row = AllByRecursion (λ (r : List ℕ × Form). IsMethod r.0) row.requests

parts_methods : (parts : List (List ℕ)) → IfOk (route_of_parts parts) RouteMethods
parts_methods ([] ∷ owner ∷ part ∷ rest) =
    then_any RouteMethods (check (list_all (λ p. not (is_empty p)) (owner ∷ part ∷ rest)) rule.H6) _ (λ a.
    then_any RouteMethods (ok_or (repo_text owner part) rule.H6) _ (λ b.
    passed RowMethods RouteMethods (ok_or (find (row_fits rest) routes) rule.H6) _
    (found_ok _ (find (row_fits rest) routes) rule.H6 (find_ok _ (row_fits rest) routes routes_methods)) (λ row all. all)))
parts_methods [] = tt
parts_methods ([] ∷ []) = tt
parts_methods ([] ∷ owner ∷ []) = tt
parts_methods ((b ∷ bs) ∷ rest) = tt

-- ---- the sizes

abbrev IsFramed : RequestHead → Type 0
IsFramed head = IsTrue (is_clear head) × IsTrue (is_small head)

last_check : (head : RequestHead) → IsTrue (is_clear head) → IfOk (check (is_small head) rule.H5) (λ _. IsFramed head)
last_check head clear = at (is_small head) refl
  where
    at : (v : Bool) → is_small head ≡ v → IfOk (check v rule.H5) (λ _. IsFramed head)
    at true e = (clear, e)
    at false e = tt

framed_is : (head : RequestHead) → IfOk (check_framing head) (λ _. IsFramed head)
framed_is head =
    let P : ⊤ → Type 0 = λ _. IsFramed head in
    then_any P (check (at_most 0 (values (codes "transfer-encoding") head)) rule.H2) _ (λ a.
    then_any P (check (is_measured head) rule.H3) _ (λ b.
    passed (λ _. IsTrue (is_clear head)) P (check (is_clear head) rule.H4) _ (check_ok (is_clear head) rule.H4) (λ _ clear. last_check head clear)))

small_is : (n : ℕ) (post put : Bool) → cond post (nat_le n largest_form) (cond put (nat_le n largest_object) true) ≡ true → (post ≡ true) ⊎ (put ≡ true) → n ≤ largest_object
small_is n true put is how = omega (arith, leb-true n largest_form is)
small_is n false true is how = leb-true n largest_object is
small_is n false false is (inl e) = absurd (true≢false (sym e))
small_is n false false is (inr e) = absurd (true≢false (sym e))

get_is : (n : ℕ) (get : Bool) → IsTrue (not (get && nat_lt 0 n)) → get ≡ true → n ≤ largest_object
get_is n true is e = at (nat_lt 0 n) refl is
  where
    at : (v : Bool) → nat_lt 0 n ≡ v → IsTrue (not v) → n ≤ largest_object
    at true h no_body = absurd (true≢false (sym no_body))
    at false h no_body = omega (arith, ltb-false 0 n h)
get_is n false is e = absurd (true≢false (sym e))

measured : (head : RequestHead) → IsFramed head → IsMethod head.method → content_length head ≤ largest_object
measured head f (inl get) = get_is (content_length head) (is_method (codes "GET") head) (both_true _ _ f.0).1 get
measured head f (inr (inl post)) = small_is (content_length head) (is_method (codes "POST") head) (is_method (codes "PUT") head) f.1 (inl post)
measured head f (inr (inr put)) = small_is (content_length head) (is_method (codes "POST") head) (is_method (codes "PUT") head) f.1 (inr put)

pub judged_small : (head : RequestHead) → IfOk (head_verdict head) (λ _. content_length head ≤ largest_object)
unfolding head_verdict
judged_small head =
    let P : Target → Type 0 = λ _. content_length head ≤ largest_object in
    passed (λ _. IsFramed head) P (check_framing head) _ (framed_is head) (λ whole framed_well.
    passed RouteMethods P (route_at head.target) _ (then_any RouteMethods (check (is_utf8 head.target) rule.H6) _ (λ text. parts_methods (parts (path_of head.target)))) (λ route all.
    passed (λ _. IsMethod head.method) P (ok_or (form_of head.method route.row.requests) rule.H7) _ (found_ok _ (form_of head.method route.row.requests) rule.H7 (form_method head.method route.row.requests all)) (λ form served.
    then_any P (check (not route.row.is_json || accepts (values (codes "accept") head)) rule.H8) (λ acceptable. Ok (record { repo = route.repo; parameter = route.parameter; form = form })) (λ ok. measured head framed_well served))))
