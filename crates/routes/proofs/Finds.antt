-- The router finds the table's row, for every good table and every path.
use Rattle.routes.proofs.Prelude.{◌≡◌, ℕ, suc, ◌<◌, List, [], ◌∷◌, ◌++◌, get_or, map, None, Bool, true, false, cond, refl, sym, ap, ◌∙◌, ◌==◌, list_all, onto_first, AllByRecursion, eqb-true, eqb-false, RowsOf, first, RouteOf, map_key, Segment, parts, Resource, patterns, fitting, row_at, is_some_text, whole_row, table, table_routed, rows_in, resource_at}
use Rattle.matchit.proofs.RenameLemmas.{first-rename}
use Rattle.routes.specs.declared.table.Resource.TheVariants.{Batch, Locks, VerifyLocks, Unlock, Content, Verify}
use Rattle.routes.proofs.Rows.{joined, are_good, are_all_apart}
use Rattle.routes.proofs.Walks.{ArePlain, ArePlainParts, AreGoodRows, good-rows, walk, walk-none}
use Rattle.routes.proofs.Fitting.{AllApart, apart-from, all-apart, row-fitting, fitting-later}

-- a list of bytes
abbrev pub AreBytes : List ℕ → Type 0
AreBytes bytes = AllByRecursion (λ b. b < 256) bytes

-- a path is its first part and then the others, each after a slash
record IsCut (path : List ℕ) (cut : List (List ℕ)) : Type 0 where
  front : List ℕ
  others : List (List ℕ)
  cut_is : cut ≡ front ∷ others
  path_is : path ≡ front ++ joined others
  plain : ArePlain front
  plain_others : ArePlainParts others

cut-path : (path : List ℕ) → AreBytes path → IsCut path (parts path)
cut-path [] bytes = record { front = []; others = []; cut_is = refl; path_is = refl; plain = tt; plain_others = tt }
cut-path (b ∷ path) bytes = at (b == 47) refl (cut-path path bytes.1)
  where
    at : (v : Bool) → (b == 47) ≡ v → IsCut path (parts path) → IsCut (b ∷ path) (cond v ([] ∷ parts path) (onto_first b (parts path)))
    at true e c = record {
      front = [];
      others = c.front ∷ c.others;
      cut_is = ap (λ p. [] ∷ p) c.cut_is;
      path_is = ap (λ x. x ∷ path) (eqb-true b 47 e) ∙ ap (λ p. 47 ∷ p) c.path_is;
      plain = tt;
      plain_others = (c.plain, c.plain_others);
    }
    at false e c = record {
      front = b ∷ c.front;
      others = c.others;
      cut_is = ap (onto_first b) c.cut_is;
      path_is = ap (λ p. b ∷ p) c.path_is;
      plain = ((bytes.0, eqb-false b 47 e), c.plain);
      plain_others = c.plain_others;
    }

module _ {K : Type 0} where
  -- a table whose literals are texts without a slash, and of which no two rows fit one path
  record IsTable (rows : List (List Segment × K)) : Type 0 where
    good : AreGoodRows rows
    apart : AllApart rows

  table-from : (rows : List (List Segment × K)) → are_good rows ≡ true → are_all_apart rows ≡ true → IsTable rows
  table-from rows good apart = record { good = good-rows rows good; apart = all-apart rows apart }

  first-front : (rows : List (List Segment × K)) (front : List ℕ) (others : List (List ℕ)) → IsTable rows → ArePlain front → ArePlainParts others
      → first (patterns rows) (front ++ joined others) ≡ row_at rows (front ∷ others)
  first-front rows [] others is plain plain_others = walk rows others is.good plain_others ∙ row-fitting rows others is.apart
  first-front rows (b ∷ front) others is plain plain_others = walk-none rows b (front ++ joined others) plain.0.1

  first-row : (rows : List (List Segment × K)) (path : List ℕ) → IsTable rows → AreBytes path → first (patterns rows) path ≡ row_at rows (parts path)
  first-row rows path is bytes =
      let c = cut-path path bytes in
      ap (first (patterns rows)) c.path_is ∙ first-front rows c.front c.others is c.plain c.plain_others ∙ ap (row_at rows) (sym c.cut_is)

bytes-of : (path : List ℕ) → ((i : ℕ) → get_or path i 0 < 256) → AreBytes path
bytes-of [] h = tt
bytes-of (b ∷ path) h = (h 0, bytes-of path (λ i. h (suc i)))

-- ---- the table of routes

-- the router's order of the rows finds the same resource: batches after all but the last, the locks after the content,
-- and the content first
routed-fitting : (rest : List (List ℕ)) → fitting table rest ≡ fitting table_routed rest
routed-fitting rest =
    let below_locks = map whole_row (VerifyLocks ∷ Unlock ∷ []) in
    let others = map whole_row (VerifyLocks ∷ Unlock ∷ Content ∷ []) in
    let before_batch = map whole_row (Locks ∷ VerifyLocks ∷ Unlock ∷ Content ∷ []) in
    let last = map whole_row (Batch ∷ Verify ∷ []) in
    fitting-later (whole_row Batch).0 Batch before_batch (map whole_row (Verify ∷ [])) rest (apart-from (whole_row Batch).0 before_batch refl)
    ∙ fitting-later (whole_row Locks).0 Locks others last rest (apart-from (whole_row Locks).0 others refl)
    ∙ sym (fitting-later (whole_row Content).0 Content below_locks (whole_row Locks ∷ last) rest (apart-from (whole_row Content).0 below_locks refl))

routed-row : (parts : List (List ℕ)) → row_at table_routed parts ≡ row_at table parts
routed-row [] = refl
routed-row ([] ∷ rest) = ap (λ found. cond (list_all is_some_text rest) found None) (sym (routed-fitting rest))
routed-row ((b ∷ front) ∷ rest) = refl

pub found-resource : (router : RowsOf (RouteOf Resource)) (path : List ℕ) → ((i : ℕ) → get_or path i 0 < 256) → rows_in router ≡ patterns table_routed
    → map_key (λ (r : RouteOf Resource). r.value) (first router path) ≡ resource_at path
found-resource router path bytes e =
    sym (first-rename (λ (r : RouteOf Resource). r.value) router path) ∙ ap (λ r. first r path) e
    ∙ first-row table_routed path (table-from table_routed refl refl) (bytes-of path bytes) ∙ routed-row (parts path)
