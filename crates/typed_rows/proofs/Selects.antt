-- The result of a SELECT over one table, ordered by rowid, for any table.
use Rattle.typed_rows.proofs.Prelude.{◌≡◌, ℕ, ℤ, Bool, false, int_cmp, List, [], ◌∷◌, map, map-id, refl, sym, subst, ◌∙◌, list_all, Null, Int, value_cmp, value_cmp-Int, rowid, eval_all, holds, overlay, understood, reads_listing, IsPlain, command_of, reads_as, IsTypedBy, at_end, last_table, answer_by_keys}
use Rattle.std.proofs.Common.{filter}
use Rattle.sqlite.specs.Order.{Row}
use Rattle.sqlite.specs.Term.{Term}
use Rattle.sqlite.specs.Schema.{Schema}
use Rattle.sqlite.specs.Command.TheVariants.{Select}
use Rattle.sqlite.specs.State.{State, Shown}
use Rattle.typed_rows.specs.Queries.{query_of}
use Rattle.sqlite_typed.proofs.TestLemmas.{last_key}
use Rattle.typed_rows.proofs.Typed.{keys_rise}

module _ {X : Type 0} (key : X → ℤ) (encode : X → Row) (decode : Row → X) (keyed : (x : X) → rowid (encode x) ≡ Int (key x)) (back : (x : X) → decode (encode x) ≡ x)
    (sql : List ℕ) (params : Row) (old new : State) (schema : Schema) (has : old.now.schema ≡ schema) (plain : IsPlain (understood schema sql)) (unlisted : reads_listing schema sql ≡ false)
    (tests project : List Term) (tree : ℕ) (names : List (List ℕ)) (command : command_of (understood schema sql) ≡ Select (record { lets = []; body = query_of tests project tree }) names)
    (typed : IsTypedBy encode decode (old.now.trees tree)) (own : overlay old.now.trees [] tree ≡ old.now.trees tree) where
  pub selected : (passes : X → Bool) → ((x : X) → list_all (holds (params ∷ encode x ∷ [])) tests ≡ passes x) → (show : X → Row) → ((x : X) → eval_all project (params ∷ encode x ∷ []) ≡ show x)
      → (rows : List Row) → Shown sql params old new rows → rows ≡ map show (filter passes (map decode (old.now.trees tree)))
  selected passes tested show shows rows h =
      let xs = map decode (old.now.trees tree) in
      let db = overlay old.now.trees [] in
      let read = reads_as sql params old new schema has _ command plain unlisted rows h in
      let stored : db tree ≡ map encode xs = own ∙ typed.same in
      let source = last_table db tree encode key xs stored (keys_rise key encode decode keyed back (old.now.trees tree) typed) (at_end db) in
      sym (map-id rows) ∙ answer_by_keys (query_of tests project tree) db params source passes tested (λ r. r) show shows refl refl
      (λ a b. last_key (subst (λ v. value_cmp v (rowid (encode b)) ≡ int_cmp (key a) (key b)) (sym (keyed a)) (subst (λ v. value_cmp (Int (key a)) v ≡ int_cmp (key a) (key b)) (sym (keyed b)) (value_cmp-Int (key a) (key b)))))
      rows (read.answer Null)
