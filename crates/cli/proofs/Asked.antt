-- What was printed of a reply, frame by frame.
use Rattle.std.specs.List.{AllByRecursion}
use Rattle.std.specs.Io.KnownBytes.{Appends, Consumes}
use Rattle.std.proofs.Common.{◌≡◌, ◌∙◌, ◌⊎◌, ◌++◌, inl, inr, ℕ, List, [], ◌∷◌, flat_map, Option, Result, Err, append_assoc, refl, sym, ap, subst}
use Rattle.std.specs.Prelude.{⊤}
use Rattle.std.proofs.KnownBytes.{Appends-nil, Appends-trans, Consumes-nil, Consumes-trans}
use Rattle.std.proofs.lemmas.Grind.{flat_map-append}
use Rattle.std.proofs.lemmas.List.{append-nil}
use Rattle.control.specs.Replies.{IsPiece, Piece, piece_bytes, status_code}
use Rattle.control.specs.declared.status.Status.{Status}
use Rattle.operator.specs.Escapes.{escaped, shown}
use Rattle.operator.specs.declared.escapes.Destination.{Destination}
use Rattle.operator.specs.declared.escapes.Destination.TheVariants.{Terminal, Other}
use Rattle.faults.specs.declared.faults.Fault.{Fault}
use Rattle.faults.specs.declared.faults.Fault.TheVariants.{Output, Version}
use Rattle.command_line.specs.declared.args.OperatorCommand.{OperatorCommand}
use Rattle.cli.specs.Asked.{ArePrinted, EndsAsAnswered, IsRequestFor, HasOtherVersion, HasPrinted, IsReplyPrinted, IsRestPrinted, IsUnread, ending, shown_piece, shown_pieces}

-- nothing is printed of no text
pub shown_none : (destination : Destination) → shown destination [] ≡ []
unfolding escaped
shown_none Terminal = refl
shown_none Other = refl

flat_more : {A B : Type 0} (f : A → List B) (xs : List A) (x : A) → flat_map f (xs ++ x ∷ []) ≡ flat_map f xs ++ f x
flat_more f xs x = flat_map-append f xs (x ∷ []) ∙ ap (λ l. flat_map f xs ++ l) (append-nil (f x))

all_more : (pieces : List Piece) (piece : Piece) → AllByRecursion IsPiece pieces → IsPiece piece → AllByRecursion IsPiece (pieces ++ piece ∷ [])
all_more [] piece all one = (one, tt)
all_more (first ∷ pieces) piece all one = (all.0, all_more pieces piece all.1 one)

-- one more piece
pub more_printed : (left mid rest was so_far is : Option (List ℕ)) (destination : Destination) (pieces : List Piece) (piece : Piece) → ArePrinted left mid destination was so_far pieces
    → IsPiece piece → Consumes mid rest (piece_bytes piece) → Appends so_far is (shown_piece destination piece) → ArePrinted left rest destination was is (pieces ++ piece ∷ [])
more_printed left mid rest was so_far is destination pieces piece p one read printed = record {
  range = all_more pieces piece p.range one;
  read = subst (Consumes left rest) (sym (flat_more piece_bytes pieces piece)) (Consumes-trans left mid rest _ _ p.read read);
  printed = subst (Appends was is) (sym (flat_more (shown_piece destination) pieces piece)) (Appends-trans was so_far is _ _ p.printed printed);
}

module _ (before : List ℕ) (start left mid rest was so_far : Option (List ℕ)) (destination : Destination) (pieces : List Piece) (begins : Consumes start left before) (p : ArePrinted left mid destination was so_far pieces) where
  has_printed : (status : Status) → Consumes mid rest (status_code status ∷ []) → HasPrinted before start rest destination was so_far status
  has_printed status end = (pieces, p.range, Consumes-trans start mid rest _ _ (Consumes-trans start left mid _ _ begins p.read) end, p.printed)

  -- a frame that was not read, or not printed
  pub frame_failed : (is : Option (List ℕ)) (fault : Fault) → (IsUnread fault × (is ≡ so_far)) ⊎ (fault ≡ Output) → IsRestPrinted before start rest destination was is (Err fault)
  frame_failed is fault (inl (unread, same)) =
      let printed : Appends was is (shown_pieces destination pieces) = rw same p.printed in
      inr (inl (fault, refl, unread, inr (pieces, mid, p.range, Consumes-trans start left mid _ _ begins p.read, printed)))
  frame_failed is fault (inr e) = inr (inr (rw e refl))

module _ (before : List ℕ) (start mid rest was so_far is : Option (List ℕ)) (destination : Destination) (piece : Piece) (one : IsPiece piece) (read : Consumes start mid (before ++ piece_bytes piece)) (shows : Appends was so_far (shown_piece destination piece)) where
  -- the bytes of a piece and of those after it
  with_first : (pieces : List Piece) → (before ++ piece_bytes piece) ++ flat_map piece_bytes pieces ≡ before ++ flat_map piece_bytes (piece ∷ pieces)
  with_first pieces = append_assoc before (piece_bytes piece) (flat_map piece_bytes pieces)

  first_piece_shown : (pieces : List Piece) → Appends so_far is (shown_pieces destination pieces) → Appends was is (shown_pieces destination (piece ∷ pieces))
  first_piece_shown pieces more = Appends-trans was so_far is _ _ shows more

  -- what is left of a reply after its first piece
  pub first_printed : (ended : Result ⊤ Fault) → IsRestPrinted (before ++ piece_bytes piece) start rest destination so_far is ended → IsRestPrinted before start rest destination was is ended
  first_printed ended (inl (status, same, (pieces, range, reads, printed))) =
      let tail = status_code status ∷ [] in
      let bytes = ap (λ (l : List ℕ). l ++ tail) (with_first pieces) in
      inl (status, same, (piece ∷ pieces, (one, range), subst (Consumes start rest) bytes reads, first_piece_shown pieces printed))
  first_printed ended (inr (inl (fault, same, unread, inl nothing))) =
      inr (inl (
        fault,
        same,
        unread,
        inr (
          piece ∷ [],
          mid,
          (one, tt),
          subst (Consumes start mid) (ap (λ (l : List ℕ). before ++ l) (sym (append-nil (piece_bytes piece)))) read,
          subst (λ (l : List ℕ). Appends was is l) (sym (append-nil (shown_piece destination piece))) (rw nothing shows),
        ),
      ))
  first_printed ended (inr (inl (fault, same, unread, inr (pieces, until, range, reads, printed)))) =
      inr (inl (fault, same, unread, inr (piece ∷ pieces, until, (one, range), subst (Consumes start until) (with_first pieces) reads, first_piece_shown pieces printed)))
  first_printed ended (inr (inr same)) = inr (inr same)

module _ (connects : (taken left : Option (List ℕ)) → Type 0) (command : OperatorCommand) (input unread : Option (List ℕ)) (request : List ℕ) (taken left sent rest was is : Option (List ℕ)) (destination : Destination) (connected : connects taken left) (asked : IsRequestFor command input unread request) where
  -- a server was asked, and its reply printed
  pub ends_as_answered : (ended : Result ⊤ Fault) → ((status : Status) → ended ≡ ending status → Appends taken sent request) → IsReplyPrinted left rest destination was is ended → EndsAsAnswered connects command input destination was is ended
  ends_as_answered ended took (inl (version, other, none)) = inr (Version, version, inr (inr refl))
  ends_as_answered ended took (inr (inl (status, same, printed))) = inl (
    status,
    same,
    record {
      taken = taken;
      left = left;
      connected = connected;
      request = request;
      unread = unread;
      asked = asked;
      sent = sent;
      took = took status same;
      rest = rest;
      replied = printed;
    },
  )
  ends_as_answered ended took (inr (inr (inl (fault, same, none, begun)))) = inr (fault, same, inr (inl none))
  ends_as_answered ended took (inr (inr (inr same))) = inr (Output, same, inl (inr (inr (inl refl))))
