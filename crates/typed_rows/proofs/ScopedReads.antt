-- A SELECT from one table means what it means over that table alone.
use Rattle.typed_rows.proofs.Prelude.{◌≡◌, ℕ, ◌^◌, nat_lt, Bool, true, false, ◌&&◌, ◌||◌, List, [], ◌∷◌, ◌++◌, refl, Some, None, Option, option_map, unwrap_or, slice_get, Ok, Err, is_some, if◌then◌else◌, ap, lit, column_named, Expr, out-Expr, Expr-F, Shown-F, Sort, out-Sort, Layer, ShownLayer, NoSuchColumn, Unsupported, Bound, Rowid, Alias, Checked, and_then, Lowering, ◌>>=◌, pure, lift, fail, Name, Context, found_or, at_most_one, is_rowid, alias_of, shown_again, found_name, shown_at, outputs, outputs_from, is_column, sorts_from, aliased_or, alias_in, peeled, collation_of, placed, is_numeral, place_in, lower, first_of_both, second_of_both}
use Rattle.sqlite_sql.specs.Term.{Term, col}
use Rattle.sqlite_schema.specs.declared.schema.Schema.{Schema}
use Rattle.sqlite_schema.specs.declared.schema.Table.{Table}
use Rattle.sqlite_value.specs.declared.keys.Key.{Key}
use Rattle.sqlite_ast.specs.declared.Shown.{Shown, out-Shown}
use Rattle.sqlite_resolve.specs.declared.scope.Output.{Output}
use Rattle.sqlite_resolve.specs.declared.scope.Found.{Found}
use Rattle.sqlite_resolve.specs.declared.scope.Found.TheVariants.{Column}
use Rattle.sqlite_resolve.specs.Lowering.{last}
use Rattle.sqlite_resolve.specs.Scope.{find as find_name, only, hit, in_level, column_in, rowid_in, is_among}
use Rattle.sqlite_resolve.specs.Body.{heading, declared, shown}
use Rattle.sqlite_resolve.specs.Order.{key, sort}
use Rattle.typed_rows.proofs.Scopes.{lone, is_simple, lower_same, cx, cx₀}

-- a column of the result that is one simple expression
abbrev pub is_simple_shown_at : ShownLayer → Bool
is_simple_shown_at (Shown-F.One e alias text) = is_simple 700 e
is_simple_shown_at _ = false

abbrev pub are_shown : List Shown → Bool
are_shown [] = true
are_shown (s ∷ more) = is_simple_shown_at (out-Shown s) && are_shown more

-- the terms of ORDER BY are simple
abbrev pub are_sorts : List Sort → Bool
are_sorts [] = true
are_sorts (s ∷ more) = is_simple 700 (peeled (out-Sort s).key) && are_sorts more

module _ (schema : Schema) (at : ℕ) (table : Table) (found : slice_get schema.tables at ≡ Some table) (low : nat_lt table.tree (2 ^ 31) ≡ true) (name : Name) (known : List Output) (may_aggregate may_alias : Bool) where
  abbrev c : Context
  c = cx schema at table found low name known may_aggregate may_alias

  abbrev c₀ : Context
  c₀ = cx₀ schema at table found low name known may_aggregate may_alias

  abbrev met : ℕ → Option ℕ → Bool → Option ℕ → Checked Found
  met k o is_id alias =
      and_then (and_then (and_then (at_most_one None (option_map (Column 1 k) o)) (λ f. Ok f)) (λ column. if is_some column then Ok column else
      and_then (if is_id then and_then (at_most_one None (Some (Rowid 1 k))) (λ f. Ok f) else Ok None) (λ rowid. if is_some rowid || false then Ok rowid else Ok (option_map (Alias 0) alias))))
      (found_or (Err NoSuchColumn))

  met_same : (text : Name) (o : Option ℕ) (is_id : Bool) (alias : Option ℕ) → found_name schema text (met at o is_id alias) ≡ found_name (lone table) text (met 0 o is_id alias)
  unfolding declared
  met_same text (Some place) is_id alias = rw found refl
  met_same text None true alias = rw found refl
  met_same text None false (Some place) = refl
  met_same text None false None = refl

  name_same : (wanted text : Name) → found_name schema text (find_name c None wanted) ≡ found_name (lone table) text (find_name c₀ None wanted)
  unfolding find_name in_level only hit column_in rowid_in is_among
  name_same wanted text = rw (found, low) (met_same text (column_named table wanted) (is_rowid wanted) (alias_of wanted known))

  heading_same : (e : Expr) (text : Name) → is_simple 700 e ≡ true → heading c e text ≡ heading c₀ e text
  unfolding heading
  heading_same e text h = go (out-Expr e) h
    where
      go : (l : Layer) → Rattle.typed_rows.proofs.Scopes.is_simple_at (is_simple 699) l ≡ true → Rattle.sqlite_resolve.specs.Body.heading_at c text l ≡ Rattle.sqlite_resolve.specs.Body.heading_at c₀ text l
      go Expr-F.Null k = refl
      go (Expr-F.Integer t) k = refl
      go (Expr-F.Parameter n) k = refl
      go (Expr-F.Column None wanted) k = name_same wanted text
      go (Expr-F.Binary op a b) k = refl
      go _ k = absurd (cc)

  pub outputs_same : (tables : List Bound) (done : List Output) (all : List Shown) → are_shown all ≡ true → outputs_from lower c tables done all ≡ outputs_from lower c₀ tables done all
  unfolding shown
  outputs_same tables done [] h = refl
  outputs_same tables done (s ∷ more) h = λ i. one (out-Shown s) (first_of_both (is_simple_shown_at (out-Shown s)) (are_shown more) h) i >>= (λ longer. outputs_same tables longer more (second_of_both (is_simple_shown_at (out-Shown s)) (are_shown more) h) i)
    where
      one : (l : ShownLayer) → is_simple_shown_at l ≡ true → shown_at lower c tables done l ≡ shown_at lower c₀ tables done l
      one (Shown-F.One e alias text) k = λ i. lower_same schema at table found low name known may_aggregate may_alias 700 e k i >>= (λ t. last >>= (λ q. pure (done ++ record { name = unwrap_or alias (heading_same e text k i); is_alias = is_some alias; is_column = is_column e; term = t; carried = q } ∷ [])))
      one _ k = absurd (cc)

  key_same : (results : List Output) (e : Expr) → is_simple 700 e ≡ true → key lower c results e ≡ key lower c₀ results e
  unfolding key
  key_same results e h = ap (λ (f : Lowering Term). f >>= (λ t. if is_numeral e then lift (place_in t) >>= shown_again may_aggregate results else (if Rattle.sqlite_sql.specs.Term.reads_below 1 t then fail Unsupported else pure t)))
      (lower_same schema at table found low name known may_aggregate may_alias 700 e h)

  aliased_same : (results : List Output) (e : Expr) (o : Option ℕ) → is_simple 700 e ≡ true → aliased_or lower c results e o ≡ aliased_or lower c₀ results e o
  aliased_same results e (Some place) h = refl
  aliased_same results e None h = key_same results e h

  pub sorts_same : (results : List Output) (done : List (Term × Key)) (all : List Sort) → are_sorts all ≡ true → sorts_from lower c results done all ≡ sorts_from lower c₀ results done all
  unfolding sort
  sorts_same results done [] h = refl
  sorts_same results done (s ∷ more) h = λ i.
      (aliased_same results (peeled (out-Sort s).key) (alias_in results (peeled (out-Sort s).key)) (first_of_both (is_simple 700 (peeled (out-Sort s).key)) (are_sorts more) h) i
      >>= (λ t. collation_of (out-Sort s).key >>= (λ how. placed done (record { collation = how; descending = (out-Sort s).descending }) (out-Sort s).nulls_first t)))
      >>= (λ longer. sorts_same results longer more (second_of_both (is_simple 700 (peeled (out-Sort s).key)) (are_sorts more) h) i)
