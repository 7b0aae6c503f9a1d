-- A reply on the control socket: pieces of what a command writes, in the order in which it writes them, and how it ended.
use Rattle.std.specs.Prelude.{◌≡◌, ◌≢◌, ◌<◌, ◌≤◌, ℕ, List, [], ◌∷◌, ◌++◌, length, flat_map, All, ⊤}
use Rattle.control.specs.Fields.{field}
use Rattle.control.specs.Versions.{version, refusal_bytes}
use Rattle.control.specs.declared.status.Status.{Status}
use Rattle.control.specs.declared.status.Status.TheVariants.{Good, Refused, Invalid}
use Rattle.control.specs.declared.reply.Stream.{Stream}
use Rattle.control.specs.declared.reply.Stream.TheVariants.{Output, Errors, Progress}
use Rattle.control.specs.declared.reply.Start as declared
use Rattle.control.specs.declared.reply.Start.TheVariants as start

-- the exit status of a command, and the byte of the frame that ends a reply
abbrev pub status_code : Status → ℕ
status_code Good = 0
status_code Refused = 1
status_code Invalid = 2

-- the byte that the frame of a piece of the stream begins with
abbrev pub stream_code : Stream → ℕ
stream_code Output = 3
stream_code Errors = 4
stream_code Progress = 5

-- the most bytes of a piece
abbrev pub longest_piece : ℕ
longest_piece = 65536

-- some bytes that a command writes to a stream, or a text about its progress
pub record Piece : Type 0 where
  pub stream : Stream
  pub content : List ℕ

-- a piece may have this many bytes
pub record IsPieceSize (size : ℕ) : Type 0 where
  pub some : 0 < size
  pub few : size ≤ longest_piece

-- the piece is in range
abbrev pub IsPiece : Piece → Type 0
IsPiece piece = IsPieceSize (length piece.content)

-- the bytes of a piece: its stream in one byte, and a field
abbrev pub piece_bytes : Piece → List ℕ
piece_bytes piece = stream_code piece.stream ∷ field piece.content

-- a frame: a piece, or the end with the exit status
pub data Frame : Type 0 where
  Part : Piece → Frame
  End : Status → Frame

-- the frame is in range
abbrev pub IsFrame : Frame → Type 0
IsFrame (Part piece) = IsPiece piece
IsFrame (End status) = ⊤

-- the bytes of a frame
abbrev pub frame_bytes : Frame → List ℕ
frame_bytes (Part piece) = piece_bytes piece
frame_bytes (End status) = status_code status ∷ []

-- the byte that a frame begins with
abbrev pub start_code : declared.Start → ℕ
start_code (start.Piece stream) = stream_code stream
start_code (start.End status) = status_code status

-- no frame begins with this byte
abbrev pub BeginsNoFrame : ℕ → Type 0
BeginsNoFrame byte = (frame : Frame) (rest : List ℕ) → frame_bytes frame ≢ byte ∷ rest

-- a reply: what a command writes, and its exit status
pub record Reply : Type 0 where
  pub pieces : List Piece
  pub status : Status

-- the reply is in range: each piece is
abbrev pub IsReply : Reply → Type 0
IsReply reply = All IsPiece reply.pieces

-- the bytes of a reply before its end: the version, and those of each piece
abbrev pub begun_bytes : List Piece → List ℕ
begun_bytes pieces = version ∷ flat_map piece_bytes pieces

-- all the bytes of a reply
abbrev pub reply_bytes : Reply → List ℕ
reply_bytes reply = begun_bytes reply.pieces ++ status_code reply.status ∷ []

-- these bytes are those of the reply, which is in range
pub record IsReadAs (bytes : List ℕ) (reply : Reply) : Type 0 where
  pub range : IsReply reply
  pub is : bytes ≡ reply_bytes reply

-- the bytes of a piece of the output, and none of another piece
abbrev pub output_in : Stream → List ℕ → List ℕ
output_in Output content = content
output_in Errors content = []
output_in Progress content = []

-- the bytes of a piece of the error stream, and none of another piece
abbrev pub errors_in : Stream → List ℕ → List ℕ
errors_in Output content = []
errors_in Errors content = content
errors_in Progress content = []

-- all that the pieces write to the output
abbrev pub output_of : List Piece → List ℕ
output_of pieces = flat_map (λ piece. output_in piece.stream piece.content) pieces

-- all that the pieces write to the error stream
abbrev pub errors_of : List Piece → List ℕ
errors_of pieces = flat_map (λ piece. errors_in piece.stream piece.content) pieces

-- two frames in range that the same bytes begin with are the same frame
abbrev pub FramesDiffer : Type 0
FramesDiffer =
    (one other : Frame) → IsFrame one → IsFrame other → (rest more : List ℕ)
    → frame_bytes one ++ rest ≡ frame_bytes other ++ more → one ≡ other

-- two replies in range whose bytes are the same are the same reply
abbrev pub RepliesDiffer : Type 0
RepliesDiffer =
    (one other : Reply) → IsReply one → IsReply other
    → reply_bytes one ≡ reply_bytes other → one ≡ other

-- no reply has the bytes of the refusal
abbrev pub RefusalDiffers : Type 0
RefusalDiffers = (reply : Reply) → reply_bytes reply ≢ refusal_bytes
