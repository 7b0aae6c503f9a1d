-- The rules that refuse a request: one table of their codes, statuses and reasons.
use Rattle.std.specs.Prelude.{ℕ, List, ◌++◌, codes, decimal, Option, Some, None}
use Rattle.names.specs.declared.rules.Rule.{Rule}
use Rattle.names.specs.declared.rules.Rule.TheVariants.{H1, H2, H3, H4, H5, H6, H7, H8, A1, A2, A3, A4, A5, R1, J1, J2, J3, J4, P, B1, B2, B3, B4, B5, B6, X1, X2, X3, X4, V1, V2, L1, L2, L3, L4, L5, S1}

-- the code, status and reason of a rule; a denial by the policy gets its status and its reason from the request
pub record RuleRow : Type 0 where
  pub code : List ℕ
  pub status : Option ℕ
  pub reason : Option (List ℕ)

-- the row of a rule with a status and a reason of its own
abbrev pub row : List ℕ → ℕ → List ℕ → RuleRow
row code status reason = record { code = code; status = Some status; reason = Some reason }

-- the row of each rule
abbrev pub row_of : Rule → RuleRow
row_of H1 = row (codes "H1") 400 (codes "bad request head")
row_of H2 = row (codes "H2") 501 (codes "transfer codings are not served")
row_of H3 = row (codes "H3") 411 (codes "a length is needed")
row_of H4 = row (codes "H4") 400 (codes "a field or body is not allowed here")
row_of H5 = row (codes "H5") 413 (codes "the body is too large")
row_of H6 = row (codes "H6") 404 (codes "no such route")
row_of H7 = row (codes "H7") 405 (codes "the method is not served here")
row_of H8 = row (codes "H8") 406 (codes "the reply type is not accepted")
row_of A1 = row (codes "A1") 401 (codes "a bearer token is needed")
row_of A2 = row (codes "A2") 401 (codes "the token is unknown")
row_of A3 = row (codes "A3") 401 (codes "the token has expired")
row_of A4 = row (codes "A4") 404 (codes "no such repository")
row_of A5 = row (codes "A5") 403 (codes "the token does not cover this")
row_of R1 = row (codes "R1") 404 (codes "no such repository")
row_of J1 = row (codes "J1") 422 (codes "the body has the wrong shape")
row_of J2 = row (codes "J2") 422 (codes "a field is out of range")
row_of J3 = row (codes "J3") 413 (codes "too many objects")
row_of J4 = row (codes "J4") 422 (codes "no transfer in common")
row_of (P n) = record { code = codes "P" ++ decimal n; status = None; reason = None }
row_of B1 = row (codes "B1") 404 (codes "the object is not stored")
row_of B2 = row (codes "B2") 422 (codes "the object name or size is not valid")
row_of B3 = row (codes "B3") 409 (codes "the hash algorithm is not served")
row_of B4 = row (codes "B4") 422 (codes "the stored size differs")
row_of B5 = row (codes "B5") 507 (codes "the quota does not hold the object")
row_of B6 = row (codes "B6") 410 (codes "the object was removed by its owner")
row_of X1 = row (codes "X1") 404 (codes "the object is not stored")
row_of X2 = row (codes "X2") 422 (codes "the bytes do not have this name")
row_of X3 = row (codes "X3") 507 (codes "the quota does not hold the object")
row_of X4 = row (codes "X4") 410 (codes "the object was removed by its owner")
row_of V1 = row (codes "V1") 404 (codes "the object is not stored")
row_of V2 = row (codes "V2") 422 (codes "the stored size differs")
row_of L1 = row (codes "L1") 409 (codes "the path is already locked")
row_of L2 = row (codes "L2") 404 (codes "no such lock")
row_of L3 = row (codes "L3") 403 (codes "the lock belongs to another user")
row_of L4 = row (codes "L4") 422 (codes "the cursor is no lock id")
row_of L5 = row (codes "L5") 507 (codes "the lock ids are used up")
row_of S1 = row (codes "S1") 500 (codes "the store refused")
