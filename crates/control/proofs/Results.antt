-- Which bytes are requests, and of which.
use Rattle.std.proofs.Common.{◌∙◌, ℕ, List, sym, ap, arith, length-append}
use Rattle.std.specs.List.{flat_map}
use Rattle.control.specs.Fields.{field, BeginsWith}
use Rattle.control.specs.Requests.{AreWords, IsNoRequest, RequestsDiffer}
use Rattle.control.proofs.Fronts.{field-unique}
use Rattle.control.proofs.Words.{words-unique}

pub requests-differ : RequestsDiffer
requests-differ one other range also e =
    let size = length-append (field one.input) (flat_map field one.words) in
    let length-of = length-append (field other.input) (flat_map field other.words) in
    let both = field-unique one.input other.input (flat_map field one.words) (flat_map field other.words) (omega (arith, range.short, size)) (omega (arith, also.short, length-of)) e in
    let words = words-unique one.words other.words (omega (arith, range.short, size)) both.1 in
    ap (λ i. record { input = i; words = one.words }) both.0 ∙ ap (λ w. record { input = other.input; words = w }) words

-- no request has bytes in which no words follow the input
pub no-words : (bytes input rest : List ℕ) → BeginsWith bytes input rest → ((words : List (List ℕ)) → AreWords rest words → ⊥) → IsNoRequest bytes
no-words bytes input rest first none request range is =
    let size = length-append (field request.input) (flat_map field request.words) in
    let both = field-unique request.input input (flat_map field request.words) rest (omega (arith, range.short, size)) first.fits (sym is ∙ first.is) in
    none request.words (record { few = range.few; texts = range.texts; is = sym both.1 })
