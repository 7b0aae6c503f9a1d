-- An expression over one table of a schema means what it means over that table alone.
use Rattle.typed_rows.proofs.Prelude.{◌≡◌, ℕ, zero, suc, ◌^◌, nat_lt, ◌==◌, Bool, true, false, ◌&&◌, cond, List, [], ◌∷◌, refl, Some, None, Option, option_map, unwrap_or, slice_get, Ok, Err, is_some, ◌||◌, if◌then◌else◌, sym, ap, ◌∙◌, lit, op1, op2, case, column_named, Collation, Expr, out-Expr, Expr-F, Layer, Bound, Level, Rowid, Alias, NoSuchColumn, first_of_both, second_of_both, and_then, Lowering, ◌>>=◌, ◌>>◌, pure, lift, chosen, spend, begin, finish, Name, Context, found_or, at_most_one, is_rowid, alias_of, node_at, passes}
use Rattle.sqlite_sql.specs.Term.{Term, col}
use Rattle.sqlite_sql.specs.declared.ops.BinaryOp.{BinaryOp}
use Rattle.sqlite_schema.specs.declared.schema.Schema.{Schema}
use Rattle.sqlite_schema.specs.declared.schema.Table.{Table}
use Rattle.sqlite_ast.specs.declared.Binary.{Binary}
use Rattle.sqlite_ast.specs.declared.Binary.TheVariants as binary
use Rattle.sqlite_resolve.specs.declared.scope.Output.{Output}
use Rattle.sqlite_resolve.specs.declared.scope.Found.TheVariants.{Column}
use Rattle.sqlite_resolve.specs.declared.state.State.{State}
use Rattle.sqlite_resolve.specs.Lowering.{last}
use Rattle.sqlite_resolve.specs.Scope.{find as find_name, only, hit, in_level, column_in, rowid_in, term_of, column, is_among, column_at}
use Rattle.sqlite_resolve.specs.Compare.{affinity_of, of_column, compared, at_place, or_else}
use Rattle.sqlite_resolve.specs.declared.compare.Affinity.TheVariants as affinity
use Rattle.sqlite_resolve.specs.Expr.{combine, operation, both, wanted_truth, tests_truth, tests_alias, node, opened, lower_to}

-- the table alone, with its rows in tree 0
abbrev pub lone : Table → Schema
lone table = record { tables = record table { tree = 0 } ∷ []; indexes = []; views = [] }

-- the table at this place of the schema is the only one in FROM, in slot 1
abbrev pub level_over : ℕ → Name → List Output → Level
level_over at name shown = record { tables = record { name = name; table = at; slot = 1; shared = [] } ∷ []; shown = shown }

abbrev pub context_over : Schema → ℕ → Name → List Output → Bool → Bool → Context
context_over schema at name shown may_aggregate may_alias = record { schema = schema; levels = level_over at name shown ∷ []; may_aggregate = may_aggregate; may_alias = may_alias }

-- an operator that tests no truth, and asks for no step
abbrev pub is_simple_op : Binary → Bool
is_simple_op binary.And = true
is_simple_op binary.Or = true
is_simple_op binary.Eq = true
is_simple_op binary.Ne = true
is_simple_op binary.Lt = true
is_simple_op binary.Le = true
is_simple_op binary.Gt = true
is_simple_op binary.Ge = true
is_simple_op _ = false

-- columns, parameters, integers, and comparisons of these
abbrev pub is_simple_at : (Expr → Bool) → Layer → Bool
is_simple_at inner Expr-F.Null = true
is_simple_at inner (Expr-F.Integer text) = true
is_simple_at inner (Expr-F.Parameter n) = true
is_simple_at inner (Expr-F.Column None name) = true
is_simple_at inner (Expr-F.Binary op a b) = is_simple_op op && (inner a && inner b)
is_simple_at inner _ = false

abbrev pub is_simple : ℕ → Expr → Bool
is_simple zero e = false
is_simple (suc depth) e = is_simple_at (is_simple depth) (out-Expr e)

module _ (schema : Schema) (at : ℕ) (table : Table) (found : slice_get schema.tables at ≡ Some table) (low : nat_lt table.tree (2 ^ 31) ≡ true) (name : Name) (shown : List Output) (may_aggregate may_alias : Bool) where
  abbrev pub cx : Context
  cx = context_over schema at name shown may_aggregate may_alias

  abbrev pub cx₀ : Context
  cx₀ = context_over (lone table) 0 name shown may_aggregate may_alias

  -- what a name means, where a column of the table may have it, or the rowid, or a column of the result
  abbrev reached : Context → ℕ → Option ℕ → Bool → Option ℕ → Lowering Term
  reached c k o is_id alias s =
      (lift (and_then (and_then (and_then (at_most_one None (option_map (Column 1 k) o)) (λ f. Ok f)) (λ column. if is_some column then Ok column else
      and_then (if is_id then and_then (at_most_one None (Some (Rowid 1 k))) (λ f. Ok f) else Ok None) (λ rowid. if is_some rowid || false then Ok rowid else Ok (option_map (Alias 0) alias))))
      (found_or (Err NoSuchColumn))) >>= term_of c) s

  reached_same : (o : Option ℕ) (is_id : Bool) (alias : Option ℕ) (s : State) → reached cx at o is_id alias s ≡ reached cx₀ 0 o is_id alias s
  unfolding term_of column_at
  reached_same (Some place) is_id alias s = rw found refl
  reached_same None true alias s = refl
  reached_same None false (Some place) s = refl
  reached_same None false None s = refl

  column_same : (wanted : Name) (s : State) → column cx None wanted s ≡ column cx₀ None wanted s
  unfolding column find_name in_level only hit column_in rowid_in is_among
  column_same wanted s = rw (found, low) (reached_same (column_named table wanted) (is_rowid wanted) (alias_of wanted shown) s)

  place_same : (place : ℕ) → at_place schema at place ≡ at_place (lone table) 0 place
  place_same zero = refl
  place_same (suc place) = rw found refl

  affinity_same : (t : Term) → affinity_of cx t ≡ affinity_of cx₀ t
  unfolding affinity_of of_column
  affinity_same (lit v) = refl
  affinity_same (col slot place) = go (1 == slot) (slot == 0 && place == 0)
    where
      go : (b is_given : Bool) → (if is_given then affinity.None else unwrap_or (option_map (λ k. at_place schema k place) (or_else (option_map (λ (b : Bound). b.table) (cond b (Some (record { name = name; table = at; slot = 1; shared = [] })) None)) None)) affinity.None)
          ≡ (if is_given then affinity.None else unwrap_or (option_map (λ k. at_place (lone table) k place) (or_else (option_map (λ (b : Bound). b.table) (cond b (Some (record { name = name; table = 0; slot = 1; shared = [] })) None)) None)) affinity.None)
      go b true = refl
      go true false = place_same place
      go false false = refl
  affinity_same (op1 op a) = refl
  affinity_same (op2 op a b) = refl
  affinity_same (case t a b) = refl

  compared_same : (op : BinaryOp) (a b : Term) → compared cx op a b ≡ compared cx₀ op a b
  unfolding compared
  compared_same op a b = rw (affinity_same a, affinity_same b) refl

  combine_same : (op : Binary) → is_simple_op op ≡ true → (how : Collation) (a b : Term) (s : State) → combine cx op how a b s ≡ combine cx₀ op how a b s
  unfolding combine
  combine_same binary.And h how a b s = refl
  combine_same binary.Or h how a b s = refl
  combine_same binary.Eq h how a b s = ap (λ t. Ok (t, s)) (compared_same _ a b)
  combine_same binary.Ne h how a b s = ap (λ t. Ok (t, s)) (compared_same _ a b)
  combine_same binary.Lt h how a b s = ap (λ t. Ok (t, s)) (compared_same _ a b)
  combine_same binary.Le h how a b s = ap (λ t. Ok (t, s)) (compared_same _ a b)
  combine_same binary.Gt h how a b s = ap (λ t. Ok (t, s)) (compared_same _ a b)
  combine_same binary.Ge h how a b s = ap (λ t. Ok (t, s)) (compared_same _ a b)
  combine_same _ h how a b s = absurd (cc)

  -- both sides, and then the operator
  abbrev combined : Lowering Term → Lowering Term → (Collation → Term → Term → Lowering Term) → Lowering Term
  combined left right c = left >>= (λ x. last >>= (λ p. right >>= (λ y. last >>= (λ q. c (chosen p q) x y))))

  both_is : (lower : Context → Expr → Lowering Term) (c : Context) (op : Binary) (a b : Expr) → is_simple_op op ≡ true → operation lower c op a b ≡ combined (lower c a) (lower c b) (combine c op)
  unfolding operation wanted_truth both tests_truth tests_alias
  both_is lower c binary.And a b h = refl
  both_is lower c binary.Or a b h = refl
  both_is lower c binary.Eq a b h = refl
  both_is lower c binary.Ne a b h = refl
  both_is lower c binary.Lt a b h = refl
  both_is lower c binary.Le a b h = refl
  both_is lower c binary.Gt a b h = refl
  both_is lower c binary.Ge a b h = refl
  both_is lower c _ a b h = absurd (cc)

  layer_same : (depth : ℕ) → ((e : Expr) → is_simple depth e ≡ true → lower_to depth cx e ≡ lower_to depth cx₀ e) → (l : Layer) → is_simple_at (is_simple depth) l ≡ true → node_at (lower_to depth) cx l ≡ node_at (lower_to depth) cx₀ l
  layer_same depth inner Expr-F.Null k = refl
  layer_same depth inner (Expr-F.Integer text) k = refl
  layer_same depth inner (Expr-F.Parameter n) k = refl
  layer_same depth inner (Expr-F.Column None wanted) k = λ i s. column_same wanted s i
  layer_same depth inner (Expr-F.Binary op a b) k =
      let simple = first_of_both (is_simple_op op) (is_simple depth a && is_simple depth b) k in
      let both = second_of_both (is_simple_op op) (is_simple depth a && is_simple depth b) k in
      let left = inner a (first_of_both (is_simple depth a) (is_simple depth b) both) in
      let right = inner b (second_of_both (is_simple depth a) (is_simple depth b) both) in
      both_is (lower_to depth) cx op a b simple ∙ (λ i. combined (left i) (right i) (λ how x y s. combine_same op simple how x y s i)) ∙ sym (both_is (lower_to depth) cx₀ op a b simple)
  layer_same depth inner _ k = absurd (cc)

  pub lower_same : (depth : ℕ) (e : Expr) → is_simple depth e ≡ true → lower_to depth cx e ≡ lower_to depth cx₀ e
  unfolding lower_to node opened
  lower_same zero e h = cc
  lower_same (suc depth) e h = ap (λ (f : Lowering Term). spend 1 >> (begin >>= (λ outer. f >>= (λ t. finish outer (passes e) >> pure t)))) (layer_same depth (lower_same depth) (out-Expr e) h)
