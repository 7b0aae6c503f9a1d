-- A schema without one of its tables.
use Rattle.tables.proofs.Prelude.{◌≡◌, ◌≢◌, ◌∙◌, ℕ, ◌+◌, Bool, true, false, cond, not, ◌||◌, List, [], ◌∷◌, filter, find, Option, Some, None, option_and_then, slice_get, eqb, eq-eqb, ne_eqb, refl, sym, ap, subst, list_any, position_from, AllByRecursion, all_has, has_got, Schema, IsAscending, ascending-filter, sequence, KeepsRows, Reference, Part, name_of, table_for, place_of, tree_of, HasPart, LacksPart, counts_name, is_parent, at_first}
use Rattle.sqlite.specs.Tree.{Trees}
use Rattle.sqlite.specs.Table.{Table}
use Rattle.sqlite_rules.specs.Lists.{Has}
use Rattle.sqlite_rules.proofs.ListLemmas.{has_filtered}
use Rattle.sqlite_catalog.specs.Change.{without_table}
use Rattle.sqlite_catalog.proofs.StepLemmas.{named_once}
use Rattle.sqlite_schema.specs.declared.schema.Index.{Index}
use Rattle.sqlite_schema.specs.Names.{same_name, index_named, view_named}
use Rattle.typed_rows.proofs.Places.{found_left, placed_at, none_left, none_placed}
use Rattle.tables.specs.Layout.{Version}
use Rattle.tables.proofs.Parts.{tree_is, name_is}
use Rattle.tables.proofs.Growing.{part_is}

no_more : {X : Type 0} (p q : X → Bool) (xs : List X) → list_any p xs ≡ false → list_any p (filter q xs) ≡ false
no_more p q [] h = refl
no_more p q (x ∷ xs) h = go (p x) (q x) refl h (no_more p q xs)
  where
    go : (a b : Bool) → p x ≡ a → (a || list_any p xs) ≡ false → (list_any p xs ≡ false → list_any p (filter q xs) ≡ false) → list_any p (cond b (x ∷ filter q xs) (filter q xs)) ≡ false
    go true b e h more = absurd (cc)
    go false true e h more = rw e (more h)
    go false false e h more = more h

module _ (schema : Schema) (tree : ℕ) where
  abbrev pub fewer : Schema
  fewer = without_table schema tree

  abbrev stays : Table → Bool
  stays t = not (eqb t.tree tree)

  pub parents_left : (name : List ℕ) → is_parent schema name ≡ false → is_parent fewer name ≡ false
  parents_left name h = no_more (λ (t : Table). list_any (λ (r : Reference). same_name name r.parent) t.references) stays schema.tables h

  found_before : (v : Version) (q : Part) → HasPart v schema q → find (λ (t : Table). same_name t.name (name_of q)) schema.tables ≡ Some (table_for v q (tree_of schema q))
  found_before v q has = sym (at_first (λ (t : Table). same_name t.name (name_of q)) schema.tables) ∙ ap (option_and_then (slice_get schema.tables)) has.named ∙ has.found

  other_stays : (t : Table) → t.tree ≢ tree → stays t ≡ true
  other_stays t apart = ap not (ne_eqb t.tree tree apart)

  -- another table is still there
  pub part_left : (v : Version) (q : Part) → HasPart v schema q → tree_of schema q ≢ tree → HasPart v fewer q × (tree_of fewer q ≡ tree_of schema q)
  part_left v q has apart =
      let the = table_for v q (tree_of schema q) in
      let kept = found_left (λ (t : Table). same_name t.name (name_of q)) stays schema.tables the (found_before v q has) (other_stays the (λ e. apart (sym (tree_is v q (tree_of schema q)) ∙ e))) in
      let it = placed_at (λ (t : Table). same_name t.name (name_of q)) fewer.tables the kept in
      part_is v fewer q it.0 (tree_of schema q) it.1 it.2 (parents_left (name_of q) has.unreferred)

  pub rows_left : (v : Version) (q : Part) → HasPart v schema q → tree_of schema q ≢ tree → (old new : Trees) → KeepsRows fewer.tables old new → new (tree_of fewer q) ≡ old (tree_of schema q)
  rows_left v q has apart old new kept =
      let it = part_left v q has apart in
      let there = has_got fewer.tables (place_of fewer q) (table_for v q (tree_of fewer q)) it.0.found in
      subst (λ n. new n ≡ old n) (tree_is v q (tree_of fewer q)) (all_has (λ (t : Table). new t.tree ≡ old t.tree) fewer.tables (table_for v q (tree_of fewer q)) kept there) ∙ ap old it.1

  pub lacks_left : (q : Part) → LacksPart schema q → LacksPart fewer q
  lacks_left q lacks = record {
    free = record {
      table = none_left (λ (t : Table). same_name t.name (name_of q)) stays schema.tables 0 lacks.free.table 0;
      index = none_left (λ (i : Index). same_name i.name (name_of q)) (λ i. not (eqb i.table tree)) schema.indexes 0 lacks.free.index 0;
      view = lacks.free.view;
    };
    unreferred = parents_left (name_of q) lacks.unreferred;
  }

  -- the table itself is not, if its name is that of no other
  pub gone : (v : Version) (p : Part) → HasPart v schema p → tree_of schema p ≡ tree → IsAscending (λ (s t : Table). same_name s.name t.name ≡ false) schema.tables
      → index_named schema (name_of p) ≡ None → view_named schema (name_of p) ≡ None → LacksPart fewer p
  gone v p has is named index view = record {
    free = record {
      table = none_placed (λ (t : Table). same_name t.name (name_of p)) fewer.tables 0 other;
      index = none_left (λ (i : Index). same_name i.name (name_of p)) (λ i. not (eqb i.table tree)) schema.indexes 0 index 0;
      view = view;
    };
    unreferred = parents_left (name_of p) has.unreferred;
  }
    where
      the : Table
      the = table_for v p (tree_of schema p)

      other : (t : Table) → Has fewer.tables t → same_name t.name (name_of p) ≡ false
      other t h = go (same_name t.name (name_of p)) refl
        where
          go : (b : Bool) → same_name t.name (name_of p) ≡ b → b ≡ false
          go false e = refl
          go true e =
              let both = has_filtered stays schema.tables t h in
              let same = named_once schema.tables t the named both.0 (has_got schema.tables (place_of schema p) the has.found) (ap (same_name t.name) (name_is v p (tree_of schema p)) ∙ e) in
              let here : t.tree ≡ tree = ap (λ (u : Table). u.tree) same ∙ tree_is v p (tree_of schema p) ∙ is in
              let no : stays t ≡ false = ap not (eq-eqb t.tree tree here) in
              cc

  pub sequence_left : (t : Table) → sequence schema ≡ Some t → t.tree ≢ tree → sequence fewer ≡ Some t
  sequence_left t h apart =
      at_first (λ (u : Table). same_name u.name counts_name) fewer.tables
      ∙ found_left (λ (u : Table). same_name u.name counts_name) stays schema.tables t (sym (at_first (λ (u : Table). same_name u.name counts_name) schema.tables) ∙ h) (other_stays t apart)

  pub apart_left : IsAscending (λ (s t : Table). s.tree ≢ t.tree) schema.tables → IsAscending (λ (s t : Table). s.tree ≢ t.tree) fewer.tables
  apart_left apart = ascending-filter (λ (s t : Table). s.tree ≢ t.tree) stays schema.tables apart
