-- Which bytes are frames and replies, and of which.
use Rattle.std.proofs.Common.{◌≡◌, ◌≢◌, ◌++◌, ◌∷◌, [], ◌∙◌, ℕ, List, sym, refl, ap, arith, append_assoc}
use Rattle.std.specs.List.{flat_map, All}
use Rattle.std.proofs.lemmas.List.Elements.{All-head, All-tail}
use Rattle.control.specs.Fields.{field}
use Rattle.control.specs.Replies.{End, FramesDiffer, IsPiece, Part, Piece, RefusalDiffers, RepliesDiffer, piece_bytes, status_code, stream_code}
use Rattle.control.specs.declared.status.Status.{Status}
use Rattle.control.specs.declared.status.Status.TheVariants.{Good, Refused, Invalid}
use Rattle.control.specs.declared.reply.Stream.{Stream}
use Rattle.control.specs.declared.reply.Stream.TheVariants.{Output, Errors, Progress}
use Rattle.control.proofs.Fronts.{field-unique}

-- a status has its own number
pub status-unique : (one other : Status) → status_code one ≡ status_code other → one ≡ other
status-unique Good Good e = refl
status-unique Good Refused e = cc
status-unique Good Invalid e = cc
status-unique Refused Good e = cc
status-unique Refused Refused e = refl
status-unique Refused Invalid e = cc
status-unique Invalid Good e = cc
status-unique Invalid Refused e = cc
status-unique Invalid Invalid e = refl

-- a stream has its own byte
stream-unique : (one other : Stream) → stream_code one ≡ stream_code other → one ≡ other
stream-unique Output Output e = refl
stream-unique Output Errors e = cc
stream-unique Output Progress e = cc
stream-unique Errors Output e = cc
stream-unique Errors Errors e = refl
stream-unique Errors Progress e = cc
stream-unique Progress Output e = cc
stream-unique Progress Errors e = cc
stream-unique Progress Progress e = refl

-- no stream has the byte of a status
stream-other : (stream : Stream) (status : Status) → stream_code stream ≢ status_code status
stream-other Output Good e = cc
stream-other Output Refused e = cc
stream-other Output Invalid e = cc
stream-other Errors Good e = cc
stream-other Errors Refused e = cc
stream-other Errors Invalid e = cc
stream-other Progress Good e = cc
stream-other Progress Refused e = cc
stream-other Progress Invalid e = cc

-- a piece at the front has one stream and content, and one rest
piece-unique : (one other : Piece) (rest more : List ℕ) → IsPiece one → IsPiece other → piece_bytes one ++ rest ≡ piece_bytes other ++ more → (one ≡ other) × (rest ≡ more)
piece-unique one other rest more range also e =
    let codes : stream_code one.stream ≡ stream_code other.stream = cc in
    let fields : field one.content ++ rest ≡ field other.content ++ more = cc in
    let both = field-unique one.content other.content rest more (omega (arith, range.few)) (omega (arith, also.few)) fields in (
      ap (λ s. record { stream = s; content = one.content }) (stream-unique one.stream other.stream codes)
          ∙ ap (λ c. record { stream = other.stream; content = c }) both.0,
      both.1,
    )

pub frames-differ : FramesDiffer
frames-differ (Part one) (Part other) range also rest more e = ap Part (piece-unique one other rest more range also e).0
frames-differ (Part one) (End other) range also rest more e = absurd (stream-other one.stream other cc)
frames-differ (End one) (Part other) range also rest more e = absurd (stream-other other.stream one cc)
frames-differ (End one) (End other) range also rest more e = ap End (status-unique one other cc)

-- pieces and an end with the same bytes are the same
frames-unique : (one other : List Piece) (end last : Status) → All IsPiece one → All IsPiece other → flat_map piece_bytes one ++ status_code end ∷ [] ≡ flat_map piece_bytes other ++ status_code last ∷ [] → (one ≡ other) × (end ≡ last)
frames-unique [] [] end last range also e = (refl, status-unique end last cc)
frames-unique [] (p ∷ other) end last range also e = absurd (stream-other p.stream end cc)
frames-unique (p ∷ one) [] end last range also e = absurd (stream-other p.stream last cc)
frames-unique (p ∷ one) (q ∷ other) end last range also e =
    let same : piece_bytes p ++ (flat_map piece_bytes one ++ status_code end ∷ []) ≡ piece_bytes q ++ (flat_map piece_bytes other ++ status_code last ∷ []) =
    sym (append_assoc (piece_bytes p) (flat_map piece_bytes one) (status_code end ∷ [])) ∙ e ∙ append_assoc (piece_bytes q) (flat_map piece_bytes other) (status_code last ∷ []) in
    let both = piece-unique p q _ _ (All-head IsPiece p one range) (All-head IsPiece q other also) same in
    let rest = frames-unique one other end last (All-tail IsPiece p one range) (All-tail IsPiece q other also) both.1 in
    (cc, rest.1)

pub replies-differ : RepliesDiffer
replies-differ one other range also e =
    let both = frames-unique one.pieces other.pieces one.status other.status range also cc in
    ap (λ p. record { pieces = p; status = one.status }) both.0 ∙ ap (λ s. record { pieces = other.pieces; status = s }) both.1

pub refusal-differs : RefusalDiffers
refusal-differs reply e = cc
