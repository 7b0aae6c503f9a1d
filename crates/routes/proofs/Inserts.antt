-- Why the router may refuse a route, and what its rows are after an insert.
use Rattle.routes.proofs.Prelude.{◌≡◌, ◌≢◌, ℕ, List, [], ◌∷◌, Option, Some, None, Bool, true, false, cond, Result, Ok, Err, refl, sym, ap, subst, ◌∙◌, RowsOf, comes_before, RouteOf, Refused, InsertsRead, rename, map_key, nearest, route_from, Resource, pattern_of, rows_in}
use Rattle.std.specs.Result.{IsOkAnd}
use Rattle.matchit.specs.Route.{Scan, parse_route}
use Rattle.matchit.specs.Order.{placed}
use Rattle.matchit.proofs.NearestLemmas.{nearest-rename}
use Rattle.matchit.specs.declared.error.InsertError.{InsertError}
use Rattle.matchit.specs.declared.error.InsertError.TheVariants.{Conflict, InvalidParam, InvalidParamSegment, InvalidCatchAll, OutOfMemory}

some-not-none : {K L : Type 0} (f : K → L) (o : Option K) (k : K) → o ≡ Some k → map_key f o ≡ None → ⊥
some-not-none f o k e none = absurd (cc (ap (map_key f) e, none))

-- a route that conflicts with none in the router is refused only if memory runs out
free-refused : (pattern : List ℕ) (router : RowsOf (RouteOf Resource)) (e : InsertError) → nearest pattern (rows_in router) ≡ None
    → Refused {T = Resource} pattern router e → e ≢ OutOfMemory → ⊥
free-refused pattern router (Conflict with) free refused other =
    some-not-none (λ route. route.value) (nearest pattern router) refused.0 refused.1
    (sym (nearest-rename (λ (route : RouteOf Resource). route.value) pattern (None, 0) router) ∙ free)
free-refused pattern router OutOfMemory free refused other = other refl
free-refused pattern router InvalidParam free refused other = refused
free-refused pattern router InvalidParamSegment free refused other = refused
free-refused pattern router InvalidCatchAll free refused other = refused

-- ---- rows with other keys

module _ {K L : Type 0} (f : K → L) where
  placed-rename : (p : List ℕ) (key : K) (rows : RowsOf K) → rename f (placed (p, key) rows) ≡ placed (p, f key) (rename f rows)
  placed-rename p key [] = refl
  placed-rename p key ((t, k) ∷ rows) = at (comes_before p t) (placed-rename p key rows)
    where
      at : (v : Bool) → rename f (placed (p, key) rows) ≡ placed (p, f key) (rename f rows)
          → rename f (cond v ((p, key) ∷ (t, k) ∷ rows) ((t, k) ∷ placed (p, key) rows)) ≡ cond v ((p, f key) ∷ (t, f k) ∷ rename f rows) ((t, f k) ∷ placed (p, f key) (rename f rows))
      at true e = refl
      at false e = ap (λ r. (t, f k) ∷ r) e

-- ---- the route of a resource, whose pattern a text spells

-- the text spells the resource's pattern
abbrev Spells : List ℕ → Resource → Type 0
Spells text resource = IsOkAnd (parse_route text) (λ scan. scan.pattern ≡ pattern_of resource)

read-refused : (read : Result Scan InsertError) (resource : Resource) (old new : RowsOf (RouteOf Resource)) (e : InsertError)
    → IsOkAnd read (λ scan. scan.pattern ≡ pattern_of resource) → nearest (pattern_of resource) (rows_in old) ≡ None
    → InsertsRead read resource old new (Err e) → e ≢ OutOfMemory → ⊥
read-refused (Ok scan) resource old new e spells free inserts other =
    free-refused (pattern_of resource) old e free (subst (λ p. Refused {T = Resource} p old e) spells inserts.1) other
read-refused (Err error) resource old new e spells free inserts other = spells

pub never-refused : (text : List ℕ) (resource : Resource) (old new : RowsOf (RouteOf Resource)) (e : InsertError)
    → Spells text resource → nearest (pattern_of resource) (rows_in old) ≡ None
    → InsertsRead (parse_route text) resource old new (Err e) → e ≢ OutOfMemory → ⊥
never-refused text resource old new e spells free inserts other =
    read-refused (parse_route text) resource old new e spells free inserts other

read-placed : (read : Result Scan InsertError) (resource : Resource) (old new : RowsOf (RouteOf Resource)) (u : Unit {0})
    → IsOkAnd read (λ scan. scan.pattern ≡ pattern_of resource) → InsertsRead read resource old new (Ok u)
    → rows_in new ≡ placed (pattern_of resource, resource) (rows_in old)
read-placed (Ok scan) resource old new u spells inserts =
    let value = λ (route : RouteOf Resource). route.value in
    ap (rename value) inserts.1 ∙ placed-rename value scan.pattern (route_from scan resource) old
    ∙ ap (λ p. placed (p, resource) (rows_in old)) spells
read-placed (Err error) resource old new u spells inserts = absurd spells

pub is-placed : (text : List ℕ) (resource : Resource) (old new : RowsOf (RouteOf Resource)) (u : Unit {0})
    → Spells text resource → InsertsRead (parse_route text) resource old new (Ok u)
    → rows_in new ≡ placed (pattern_of resource, resource) (rows_in old)
is-placed text resource old new u spells inserts = read-placed (parse_route text) resource old new u spells inserts
