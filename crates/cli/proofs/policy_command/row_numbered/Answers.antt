use Rattle.std.proofs.Common.{◌≡◌, ◌∙◌, sym, ap, ℕ, ◌-◌, ◌==◌, false, rules, List, map, length, get_or, ◌<◌, ◌≤◌, Option, Some, None, option_map, Bor}
use Rattle.std.specs.List.{slice_get}
use Rattle.std.specs.Slice.{IsItemAt}
use Rattle.std.proofs.lemmas.Option.{slice_get-map, slice_get-get_or, slice_get_past}
use Rattle.policy.specs.Values.{row_view}
use Rattle.cli.proofs.policy_command.row_numbered.Goals as goal

-- the value at the index, to which the reference points
item_at : {A B : Type 0} (f : A → B) (xs : List A) (i : ℕ) (r : Option (Bor A)) → IsItemAt xs i r → option_map (λ (x : Bor A). f x.now) r ≡ slice_get (map f xs) i
item_at f xs i None h =
    let past : length xs ≤ i = search rules in
    sym (slice_get-map f xs i ∙ ap (option_map f) (slice_get_past xs i past))
item_at f xs i (Some x) h =
    let within : i < length xs = search rules in
    let value : x.now ≡ get_or xs i x.now = search rules in
    sym (slice_get-map f xs i ∙ ap (option_map f) (slice_get-get_or xs i x.now within ∙ ap Some (sym value)))

pub returns-in_default : goal.returns-in_default
returns-in_default c =
    let named : (c.args.number == 0) ≡ false = search rules in
    rw named (item_at row_view c.args.rows.now (c.args.number - 1) c.get.result c.get.ensures.lookup)
