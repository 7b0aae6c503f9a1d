-- The verdict on a text is the verdict on its table.
use Rattle.policy.proofs.Prelude.{◌≡◌, ◌∙◌, ℕ, ◌≤◌, List, length, Option, Some, Result, Ok, Err, refl, le-leb, false_from_ne_true, Members, PolicyFault, longest_file, Reads, IfRefused, Spells, at_place, fault_in, document_fault, policy_in}
use Rattle.std.specs.Str.{IsUtf8, is_utf8}
use Rattle.std.proofs.lemmas.Str.{is_utf8-from_IsUtf8, IsUtf8-from_is_utf8}
use Rattle.std.specs.Result.{IfOk, IfErr}
use Rattle.toml.specs.Parse.{parse_document}
use Rattle.policy.specs.declared.faults.Fault.{Fault}
use Rattle.policy.specs.declared.faults.PolicyFault.TheVariants.{Refused, Memory}
use Rattle.model.specs.Policy as model
use Rattle.policy.specs.declared.faults.FaultCode.TheVariants.{Y1}
use Rattle.policy.specs.declared.faults.Place.TheVariants as place

-- the fault of a TOML text within the length limit is that of its table
pub fault_in-document : (source : List ℕ) (t : Members) → length source ≤ longest_file → IsUtf8 source → parse_document source ≡ Some t
    → fault_in source ≡ document_fault t
fault_in-document source t short text parsed = rw (le-leb (length source) longest_file short, is_utf8-from_IsUtf8 source text, parsed) refl

pub Spells-from : {A : Type 0} (seen : A → model.Policy) (source : List ℕ) (t : Members) (r : Result A PolicyFault)
    → fault_in source ≡ document_fault t → parse_document source ≡ Some t → Reads (document_fault t) (λ x. seen x ≡ policy_in t) r
    → IfOk r (λ x. Spells source (seen x))
Spells-from seen source t (Ok x) same parsed reads = (same ∙ reads.0, rw parsed reads.1)
Spells-from seen source t (Err f) same parsed reads = tt

pub refused-from : {A : Type 0} (fault same : Option Fault) (P : A → Type 0) (r : Result A PolicyFault) → fault ≡ same → Reads same P r
    → IfErr r (λ f. IfRefused f (λ first. fault ≡ Some first))
refused-from fault same P (Ok x) e reads = tt
refused-from fault same P (Err (Refused f)) e reads = e ∙ reads
refused-from fault same P (Err Memory) e reads = tt

-- the fault of bytes within the length limit that are not UTF-8
pub fault_in-not_utf8 : (source : List ℕ) → length source ≤ longest_file → ¬ IsUtf8 source → fault_in source ≡ Some (at_place Y1 place.File)
fault_in-not_utf8 source short bytes =
    rw (le-leb (length source) longest_file short, false_from_ne_true (is_utf8 source) (λ text. bytes (IsUtf8-from_is_utf8 source text))) refl
