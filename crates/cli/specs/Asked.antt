-- What is asked of a server, what its reply says, and how the program that asked ends.
use Rattle.std.specs.Prelude.{◌≡◌, ◌≢◌, ◌⊎◌, ◌++◌, ℕ, List, [], ◌∷◌, flat_map, Option, Some, None, Result, Ok, Err, ⊤}
use Rattle.std.specs.Io.KnownBytes.{Appends, Consumes}
use Rattle.std.specs.List.{AllByRecursion}
use Rattle.control.specs.Requests.{request_bytes}
use Rattle.control.specs.Replies.{IsPiece, Piece, output_in, piece_bytes, status_code}
use Rattle.control.specs.Versions.{version}
use Rattle.control.specs.declared.reply.Stream.{Stream}
use Rattle.control.specs.declared.status.Status.{Status}
use Rattle.control.specs.declared.status.Status.TheVariants.{Good, Refused, Invalid}
use Rattle.command_line.specs.declared.args.OperatorCommand.{OperatorCommand}
use Rattle.command_line.specs.declared.args.OperatorCommand.TheVariants.{PushCheck, Foresee}
use Rattle.operator.specs.Escapes.{shown}
use Rattle.operator.specs.declared.escapes.Destination.{Destination}
use Rattle.server.specs.Commands.{request_for}
use Rattle.faults.specs.declared.faults.Fault.{Fault}
use Rattle.faults.specs.declared.faults.Fault.TheVariants.{Control, InputTooLong, Memory, Output, Reported, ReportedInvalid, Request, Version}
use Rattle.cli.specs.Reading.{IsReadTo}

-- how many bytes of its input a command may want: one more than it takes
abbrev pub wanted_of : OperatorCommand → ℕ
wanted_of (PushCheck asked) = 10250001
wanted_of (Foresee asked) = 16777217
wanted_of _ = 0

-- the bytes are those of the request for the command, with the input that was read
abbrev pub IsRequestFor : OperatorCommand → (left rest : Option (List ℕ)) → List ℕ → Type 0
IsRequestFor command left rest bytes =
    (input : List ℕ) × IsReadTo (wanted_of command) left rest input × (bytes ≡ request_bytes (request_for command input))

-- how the command ended: as the server reports
abbrev pub ending : Status → Result ⊤ Fault
ending Good = Ok tt
ending Refused = Err Reported
ending Invalid = Err ReportedInvalid

-- a piece of the output as it is printed; nothing of a piece of the error stream
abbrev pub shown_piece : Destination → Piece → List ℕ
shown_piece destination piece = shown destination (output_in piece.stream piece.content)

-- the pieces of the output as they are printed
abbrev pub shown_pieces : Destination → List Piece → List ℕ
shown_pieces destination pieces = flat_map (shown_piece destination) pieces

-- a piece was printed; or there was no memory for it, and nothing was printed; or it could not be written
abbrev pub IsPiecePrinted : Destination → Stream → (content : List ℕ) → (was is : Option (List ℕ)) → Result ⊤ Fault → Type 0
IsPiecePrinted destination stream content was is (Ok done) =
    Appends was is (shown_piece destination (record { stream = stream; content = content }))
IsPiecePrinted destination stream content was is (Err fault) = ((fault ≡ Memory) × (is ≡ was)) ⊎ (fault ≡ Output)

-- there is no whole frame, or no memory for it
abbrev pub IsUnread : Fault → Type 0
IsUnread fault = (fault ≡ Control) ⊎ (fault ≡ Memory)

-- a frame was read: a piece, which was printed, or the end with this status; or it was not, and nothing was printed; or what
-- the piece says could not be written
abbrev pub IsFramePrinted : (left rest : Option (List ℕ)) → Destination → (was is : Option (List ℕ)) → Result (Option Status) Fault → Type 0
IsFramePrinted left rest destination was is (Ok None) =
    (piece : Piece) × IsPiece piece × Consumes left rest (piece_bytes piece) × Appends was is (shown_piece destination piece)
IsFramePrinted left rest destination was is (Ok (Some status)) =
    Consumes left rest (status_code status ∷ []) × (is ≡ was)
IsFramePrinted left rest destination was is (Err fault) = (IsUnread fault × (is ≡ was)) ⊎ (fault ≡ Output)

-- these pieces were read, and printed
pub record ArePrinted (left rest : Option (List ℕ)) (destination : Destination) (was is : Option (List ℕ)) (pieces : List Piece) : Type 0 where
  pub range : AllByRecursion IsPiece pieces
  pub read : Consumes left rest (flat_map piece_bytes pieces)
  pub printed : Appends was is (shown_pieces destination pieces)

-- the bytes of a reply with this status were read, after these, and the pieces of its output printed
abbrev pub HasPrinted : (before : List ℕ) → (left rest : Option (List ℕ)) → Destination → (was is : Option (List ℕ)) → Status → Type 0
HasPrinted before left rest destination was is status =
    (pieces : List Piece) × AllByRecursion IsPiece pieces
    × Consumes left rest (before ++ flat_map piece_bytes pieces ++ status_code status ∷ [])
    × Appends was is (shown_pieces destination pieces)

-- what was printed is that of the pieces that come first of what was left, after these bytes; or nothing was printed
abbrev pub HasBegun : (before : List ℕ) → (left : Option (List ℕ)) → Destination → (was is : Option (List ℕ)) → Type 0
HasBegun before left destination was is =
    (is ≡ was)
    ⊎ ((pieces : List Piece) × (rest : Option (List ℕ)) × AllByRecursion IsPiece pieces
    × Consumes left rest (before ++ flat_map piece_bytes pieces) × Appends was is (shown_pieces destination pieces))

-- the result is the one that a reply reports whose first bytes were these, and its output was printed; or the reply does not end, or
-- there is no memory for it, and what it says so far was printed; or what it says could not be written
abbrev pub IsRestPrinted : (before : List ℕ) → (left rest : Option (List ℕ)) → Destination → (was is : Option (List ℕ)) → Result ⊤ Fault → Type 0
IsRestPrinted before left rest destination was is ended =
    ((status : Status) × (ended ≡ ending status) × HasPrinted before left rest destination was is status)
    ⊎ ((fault : Fault) × (ended ≡ Err fault) × IsUnread fault × HasBegun before left destination was is)
    ⊎ (ended ≡ Err Output)

-- the first byte that was read is that of another version
abbrev pub HasOtherVersion : (left rest : Option (List ℕ)) → Type 0
HasOtherVersion left rest = (byte : ℕ) × Consumes left rest (byte ∷ []) × (byte ≢ version)

-- the same of a whole reply; or it is one of another version, and nothing was printed
abbrev pub IsReplyPrinted : (left rest : Option (List ℕ)) → Destination → (was is : Option (List ℕ)) → Result ⊤ Fault → Type 0
IsReplyPrinted left rest destination was is ended =
    ((ended ≡ Err Version) × HasOtherVersion left rest × (is ≡ was))
    ⊎ IsRestPrinted (version ∷ []) left rest destination was is ended

-- a server answered the command with this status: it took the bytes of the request over a connection, sent the bytes of the reply
-- over it, and the output of the reply was printed
pub record HasAnswered (connects : (taken left : Option (List ℕ)) → Type 0) (command : OperatorCommand) (input : Option (List ℕ)) (destination : Destination) (was is : Option (List ℕ)) (status : Status) : Type 0 where
  pub taken : Option (List ℕ)
  pub left : Option (List ℕ)
  pub connected : connects taken left
  pub request : List ℕ
  pub unread : Option (List ℕ)
  pub asked : IsRequestFor command input unread request
  pub sent : Option (List ℕ)
  pub took : Appends taken sent request
  pub rest : Option (List ℕ)
  pub replied : HasPrinted (version ∷ []) left rest destination was is status

-- there is no request for a command: its input or its words are too long, its input could not be read, or memory ran out
abbrev pub IsUnasked : Fault → Type 0
IsUnasked fault = (fault ≡ InputTooLong) ⊎ (fault ≡ Request) ⊎ (fault ≡ Output) ⊎ (fault ≡ Memory)

-- there is no request for a command, or no whole reply to it, or what it says could not be written
abbrev pub IsUnanswered : Fault → Type 0
IsUnanswered fault = IsUnasked fault ⊎ IsUnread fault ⊎ (fault ≡ Version)

-- how a command ends that a server is asked for: as the server answered; or with a fault that no server reports
abbrev pub EndsAsAnswered : (connects : (taken left : Option (List ℕ)) → Type 0) → OperatorCommand → (input : Option (List ℕ)) → Destination → (was is : Option (List ℕ)) → Result ⊤ Fault → Type 0
EndsAsAnswered connects command input destination was is ended =
    ((status : Status) × (ended ≡ ending status) × HasAnswered connects command input destination was is status)
    ⊎ ((fault : Fault) × (ended ≡ Err fault) × IsUnanswered fault)
