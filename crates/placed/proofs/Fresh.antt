-- A database that names no place in a file is served beside any file.
use Rattle.placed.proofs.Prelude.{AreBeside, Staged, ◌≡◌, ◌≢◌, ℕ, length, Bool, true, false, not, cond, List, [], ◌∷◌, ◌++◌, filter, refl, sym, ap, subst, ◌∙◌, append-nil, AllByRecursion, flat_map, Chunk, Tables, Ghosts, arranged, normal, IsHonest, IsOpen, HasTables, shown, Placed, is_place, is_piece, view, pieces_at, IsAscending, OfOthers, AreStagedApart, IsStagedIn, IsReceived, IsPlace, places_in, staged_of, beside}
use Rattle.std.proofs.Common.{suc-ne-zero}
use Rattle.sqlite_disk.specs.declared.Disk as disk
use Rattle.placed.specs.Kept.{ArePlacesApart}
use Rattle.placed.specs.View.{renumbered}
use Rattle.placed.specs.Placed.{HasNoPlace}
use Rattle.placed.proofs.Views.{view-normal}
use Rattle.placed.proofs.Both.{marked_view}

-- all rows have bytes of contents, if none is a place
all_pieces : (cs : List Chunk) → filter is_place cs ≡ [] → filter is_piece cs ≡ cs
all_pieces [] none = refl
all_pieces (c ∷ cs) none = at (is_place c) none (all_pieces cs)
  where
    at : (b : Bool) → cond b (c ∷ filter is_place cs) (filter is_place cs) ≡ []
        → (filter is_place cs ≡ [] → filter is_piece cs ≡ cs)
        → cond (not b) (c ∷ filter is_piece cs) (filter is_piece cs) ≡ c ∷ cs
    at false none rest = ap (λ l. c ∷ l) (rest none)
    at true none rest = absurd (suc-ne-zero (length (filter is_place cs)) (ap length none))

view_alone : (file : List ℕ) (t : Tables) → places_in t ≡ [] → normal t ≡ t → view file [] t ≡ renumbered t
unfolding view
view_alone file t none ordered =
    ap (λ places. renumbered (record t { chunks = arranged (filter is_piece t.chunks ++ (flat_map (pieces_at file) places ++ [])) })) none
    ∙ ap (λ cs. renumbered (record t { chunks = arranged (cs ++ []) })) (all_pieces t.chunks none)
    ∙ ap (λ cs. renumbered (record t { chunks = arranged cs })) (append-nil t.chunks)
    ∙ ap renumbered ordered

module _ {T D : Type 0} (g : Ghosts T) (d : disk.Ghosts D) (s : Placed T D) (empty : staged_of s ≡ [])
    (none : HasNoPlace g s.rows) where
  pub fresh_shown : HasTables g s.rows → IsHonest g s.rows → IsOpen g s.rows
      → view (d.seen s.disk) (staged_of s) (shown g s.rows) ≡ renumbered (shown g s.rows)
  fresh_shown h k o =
      ap (λ xs. view (d.seen s.disk) xs (shown g s.rows)) empty
      ∙ view_alone (d.seen s.disk) (shown g s.rows) (none.shown k o) (h.ordered k o)

  no_place : (P : Chunk → Type 0) (t : Tables) → places_in t ≡ [] → AllByRecursion P (places_in t)
  no_place P t is = subst (AllByRecursion P) (sym is) tt

  pub fresh_tables : HasTables g s.rows → HasTables (beside g d) s
  fresh_tables h = record {
    kept = record {
      rows = h;
      placed = λ k. record {
        received = record {
          each = subst (AllByRecursion (IsReceived d s.disk s.regions)) (sym empty) tt;
          once = subst (IsAscending OfOthers) (sym empty) tt;
          apart = subst (IsAscending AreStagedApart) (sym empty) tt;
        };
        served = λ o. record {
          places = no_place (IsPlace d s.disk s.regions (staged_of s)) (shown g s.rows) (none.shown k.0 o);
          single = subst (IsAscending (λ (a b : Chunk). a.upload ≢ b.upload)) (sym (none.shown k.0 o)) tt;
          separate = subst (IsAscending ArePlacesApart) (sym (none.shown k.0 o)) tt;
          uploads = subst (AllByRecursion (IsStagedIn (shown g s.rows))) (sym empty) tt;
          beside = subst (λ (l : List Staged). AreBeside l (places_in (shown g s.rows))) (sym empty) tt;
        };
        left = λ u leaves. no_place (IsPlace d s.disk s.regions (staged_of s)) u (none.left k.0 u leaves);
      };
    };
    ordered = λ k o. view-normal (d.seen s.disk) (staged_of s) (shown g s.rows);
    marked = λ k o. marked_view g d (d.seen s.disk) (staged_of s) (shown g s.rows) (h.marked k.0 o);
  }
