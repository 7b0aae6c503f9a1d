-- What is taken out of what is owed.
use Rattle.std.proofs.Common.{◌≡◌, ◌≢◌, ◌<◌, ◌∙◌, ◌++◌, ℕ, suc, Bool, true, false, if◌then◌else◌, MatchBool, List, [], ◌∷◌, length, map, take, drop, remove, slice_index_or, All, sym, ap}
use Rattle.std.proofs.lemmas.List.{map-append, take-append-drop}
use Rattle.std.proofs.lemmas.List.Elements.{All-map}
use Rattle.std.proofs.Math.Seq.{drop-cons}
use Rattle.transfers.specs.Transfers.{HasNoneOwed, Owed, TakesOut, owed_by}
use Rattle.transfers.specs.declared.transfers.Transfer.{Transfer}

pub taken_out : (list : List Transfer) (index : ℕ) (t : Transfer) → index < length list → t ≡ slice_index_or list index t
    → TakesOut (owed_by t) (map owed_by list) (map owed_by (remove list index))
taken_out list index t less is =
    let rest = drop-cons list index t less ∙ ap (λ (x : Transfer). x ∷ drop (suc index) list) (sym is) in
    let split : list ≡ take index list ++ t ∷ drop (suc index) list =
    sym (take-append-drop index list) ∙ ap (λ (l : List Transfer). take index list ++ l) rest in
    record {
      before = map owed_by (take index list);
      after = map owed_by (drop (suc index) list);
      was = ap (map owed_by) split ∙ map-append owed_by (take index list) (t ∷ drop (suc index) list);
      is = map-append owed_by (take index list) (drop (suc index) list);
    }

-- nothing is sent over a connection, so nothing is owed over it
pub none_owed : (list : List Transfer) (number : ℕ) → All (λ (t : Transfer). t.number ≢ number) list → HasNoneOwed number (map owed_by list)
none_owed list number none = All-map (λ (o : Owed). o.number ≢ number) owed_by list none

-- what was added to a list, if it was
pub kept_or_not : (list new : List Transfer) (t : Transfer) (ok : Bool) → new ≡ (if ok then list ++ t ∷ [] else list) → HasNoneOwed t.number (map owed_by list)
    → MatchBool ok (HasNoneOwed t.number (map owed_by list) × (map owed_by new ≡ map owed_by list ++ owed_by t ∷ [])) (map owed_by new ≡ map owed_by list)
kept_or_not list new t true is none = (none, ap (map owed_by) is ∙ map-append owed_by list (t ∷ []))
kept_or_not list new t false is none = ap (map owed_by) is
