-- Pieces of a reply, one after the other.
use Rattle.std.specs.Prelude.{Bool, false, flat_map, true, if◌then◌else◌}
use Rattle.std.proofs.Common.{◌≡◌, ◌∙◌, ◌++◌, ℕ, List, [], ◌∷◌, refl, sym, ap, subst}
use Rattle.std.proofs.Math.Logic.{∥∥₁_elim}
use Rattle.std.proofs.lemmas.Grind.{flat_map-append}
use Rattle.std.proofs.lemmas.List.{append-nil}
use Rattle.std.proofs.lemmas.List.Elements.{All-append, All-from_recursion}
use Rattle.control.specs.Replies.{IsPiece, Piece, piece_bytes}
use Rattle.server.specs.Commands.{ArePieces}

-- pieces, and one more
pub one_more : (bytes : List ℕ) (piece : Piece) → IsPiece piece → ArePieces bytes → ArePieces (bytes ++ piece_bytes piece)
one_more bytes piece is before =
    ∥∥₁_elim before squash₁
    (λ found.
    let all = flat_map-append piece_bytes found.0 (piece ∷ []) ∙ ap (λ (l : List ℕ). flat_map piece_bytes found.0 ++ l) (append-nil (piece_bytes piece)) in
    ∣ (found.0 ++ piece ∷ [], All-append IsPiece found.0 (piece ∷ []) found.1 (All-from_recursion IsPiece (piece ∷ []) (is, tt)), ap (λ (l : List ℕ). l ++ piece_bytes piece) found.2 ∙ sym all) ∣₁)

-- the same, or none more
pub grown : (bytes more new : List ℕ) (ok : Bool) (piece : Piece) → IsPiece piece → more ≡ piece_bytes piece → new ≡ (if ok then bytes ++ more else bytes) → ArePieces bytes → ArePieces new
grown bytes more new true piece is same is_new before = subst ArePieces (sym (is_new ∙ ap (λ (l : List ℕ). bytes ++ l) same)) (one_more bytes piece is before)
grown bytes more new false piece is same is_new before = subst ArePieces (sym is_new) before
