-- The table of routes, with the resources that the router returns.
use Rattle.std.specs.Prelude.{ℕ, List, [], ◌∷◌, map, Option, codes}
use Rattle.names.specs.Texts.{parts}
use Rattle.matchit.specs.Rows.{RowsOf}
use Rattle.matchit.specs.Router.{RouteOf, rename}
use Rattle.model.specs.Heads.{Segment, literal, parameter, RouteRow, json_route, content_route, get, post, put, under_lfs}
use Rattle.model.specs.declared.Form.TheVariants as form
use Rattle.routes.specs.declared.table.Resource.{Resource}
use Rattle.routes.specs.declared.table.Resource.TheVariants.{Batch, Locks, VerifyLocks, Unlock, Content, Verify}
use Rattle.routes.specs.Patterns.{tokens, row_at}

-- the row of the definitions' table for a resource
abbrev pub row_of : Resource → RouteRow
row_of Batch = json_route (literal (codes "objects") ∷ literal (codes "batch") ∷ []) (post form.Batch ∷ [])
row_of Locks = json_route (literal (codes "locks") ∷ []) (get form.List ∷ post form.Lock ∷ [])
row_of VerifyLocks = json_route (literal (codes "locks") ∷ literal (codes "verify") ∷ []) (post form.VerifyLocks ∷ [])
row_of Unlock = json_route (literal (codes "locks") ∷ parameter ∷ literal (codes "unlock") ∷ []) (post form.Unlock ∷ [])
row_of Content = content_route (literal (codes "content") ∷ parameter ∷ []) (get form.Get ∷ put form.Put ∷ [])
row_of Verify = json_route (literal (codes "verify") ∷ []) (post form.Verify ∷ [])

-- all resources, in the order of the definitions' table
abbrev pub resources : List Resource
resources = Batch ∷ Locks ∷ VerifyLocks ∷ Unlock ∷ Content ∷ Verify ∷ []

-- the pattern of a resource's whole path, with the resource
abbrev pub whole_row : Resource → List Segment × Resource
whole_row resource = (parameter ∷ parameter ∷ under_lfs (row_of resource).rest, resource)

-- the patterns of all resources
abbrev pub table : List (List Segment × Resource)
table = map whole_row resources

-- the resource whose pattern the path fits
abbrev pub resource_at : List ℕ → Option Resource
resource_at path = row_at table (parts path)

-- the pattern of a resource's whole path, as the router keeps it
abbrev pub pattern_of : Resource → List ℕ
pattern_of resource = tokens (whole_row resource).0

-- the patterns of a router, with the resource of each
abbrev pub rows_in : RowsOf (RouteOf Resource) → RowsOf Resource
rows_in router = rename (λ route. route.value) router

-- the patterns of all resources, in the router's order: by their bytes, and a pattern is after all that begin with it
abbrev pub table_routed : List (List Segment × Resource)
table_routed = map whole_row (Content ∷ VerifyLocks ∷ Unlock ∷ Locks ∷ Batch ∷ Verify ∷ [])
