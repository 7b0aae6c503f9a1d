-- A table to which no foreign key refers changes alone.
use Rattle.typed_rows.proofs.Prelude.{◌≡◌, ◌≢◌, ℕ, Bool, true, false, ◌||◌, ◌==◌, List, [], ◌∷◌, Some, None, Option, option_map, option_and_then, find, filter_map, flat_map, length, refl, sym, subst, ◌∙◌, eqb-true, list_any, IsAscending, same_name, Enforced, works, work_for, work_by, deed_for, pairs}
use Rattle.sqlite.specs.Order.{Row}
use Rattle.sqlite.specs.Schema.{Schema}
use Rattle.sqlite.specs.Table.{Table}
use Rattle.sqlite_schema.specs.Rules.{key_in, key_places, declared_order}
use Rattle.sqlite_value.specs.declared.keys.Order.{Order}
use Rattle.sqlite_rules.specs.declared.action.Deed.{Deed}
use Rattle.sqlite_schema.specs.declared.schema.Reference.{Reference}
use Rattle.sqlite_rules.specs.Lists.{Has}
use Rattle.sqlite_rules.proofs.ListLemmas.{has_found}
use Rattle.sqlite_rules.proofs.RuleLemmas.{same_table}

-- a change of this tree asks for no further change
abbrev pub IsAlone : Schema → ℕ → Type 0
IsAlone schema tree = (olds news : List Row) → works schema Enforced 0 tree olds news ≡ []

neither : (a b : Bool) → (a || b) ≡ false → (a ≡ false) × (b ≡ false)
neither true b h = absurd (cc)
neither false b h = (refl, h)

module _ (schema : Schema) (table : Table) (listed : Has schema.tables table) (apart : IsAscending (λ s t. s.tree ≢ t.tree) schema.tables) (olds news : List Row) where
  other_tree : (ref : Reference) (t : Table) → same_name table.name ref.parent ≡ false → find (λ (t : Table). same_name t.name ref.parent) schema.tables ≡ Some t → (t.tree == table.tree) ≡ false
  other_tree ref t unnamed is = go (t.tree == table.tree) refl
    where
      go : (b : Bool) → (t.tree == table.tree) ≡ b → b ≡ false
      go false e = refl
      go true e =
          let found = has_found (λ (t : Table). same_name t.name ref.parent) schema.tables t is in
          let same = same_table schema.tables t table apart found.0 listed (eqb-true t.tree table.tree e) in
          absurd (let a : same_name table.name ref.parent ≡ true = subst (λ (u : Table). same_name u.name ref.parent ≡ true) same found.1 in let b : true ≡ false = sym a ∙ unnamed in cc)

  no_work : (child : Table) (ref : Reference) → same_name table.name ref.parent ≡ false → work_for schema Enforced 0 table.tree olds news child ref ≡ None
  no_work child ref unnamed = by_deed (deed_for Enforced (length news == 0) ref) (find (λ (t : Table). same_name t.name ref.parent) schema.tables) refl
    where
      by_key : (deed : Deed) (t : Table) → (t.tree == table.tree) ≡ false → (o : Option (List ℕ)) → work_by 0 table.tree (pairs olds news) child ref (Some deed) (option_and_then (key_in t) o) ≡ None
      by_key deed t apart None = refl
      by_key deed t apart (Some places) = by_order (declared_order t places)
        where
          by_order : (o : Option Order) → work_by 0 table.tree (pairs olds news) child ref (Some deed) (option_map (λ o. (t.tree, places, o)) o) ≡ None
          by_order None = refl
          by_order (Some o) = rw apart refl

      by_deed : (deed : Option Deed) (o : Option Table) → find (λ (t : Table). same_name t.name ref.parent) schema.tables ≡ o
          → work_by 0 table.tree (pairs olds news) child ref deed (option_and_then (λ (t : Table). option_and_then (key_in t) (key_places t ref.parent_columns)) o) ≡ None
      by_deed None o is = refl
      by_deed (Some deed) None is = refl
      by_deed (Some deed) (Some t) is = by_key deed t (other_tree ref t unnamed is) (key_places t ref.parent_columns)

  no_works : (child : Table) (refs : List Reference) → list_any (λ (r : Reference). same_name table.name r.parent) refs ≡ false → filter_map (work_for schema Enforced 0 table.tree olds news child) refs ≡ []
  no_works child [] h = refl
  no_works child (ref ∷ refs) h = let both = neither (same_name table.name ref.parent) _ h in rw (no_work child ref both.0) (no_works child refs both.1)

  none_of : (tables : List Table) → list_any (λ (t : Table). list_any (λ (r : Reference). same_name table.name r.parent) t.references) tables ≡ false
      → flat_map (λ (child : Table). filter_map (work_for schema Enforced 0 table.tree olds news child) child.references) tables ≡ []
  none_of [] h = refl
  none_of (t ∷ tables) h = let both = neither (list_any (λ (r : Reference). same_name table.name r.parent) t.references) _ h in rw (no_works t t.references both.0) (none_of tables both.1)

pub alone_if : (schema : Schema) (table : Table) → Has schema.tables table → IsAscending (λ s t. s.tree ≢ t.tree) schema.tables → list_any (λ (t : Table). list_any (λ (r : Reference). same_name table.name r.parent) t.references) schema.tables ≡ false
    → IsAlone schema table.tree
alone_if schema table listed apart unreferred olds news = none_of schema table listed apart olds news schema.tables unreferred
