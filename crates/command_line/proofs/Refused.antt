-- Words that are those of no command.
use Rattle.std.proofs.Common.{◌≡◌, ◌∙◌, ◌<◌, ℕ, List, [], ◌∷◌, String, string_bytes, length, map, get_or, Result, Ok, Err, IfErr, IsErrAnd, sym, ap}
use Rattle.std.proofs.lemmas.List.{get_or-map}
use Rattle.std.proofs.lemmas.Result.{IfErr-weaker}
use Rattle.command_line.specs.declared.faults.ArgsFault.{ArgsFault}
use Rattle.command_line.specs.declared.faults.ArgsFault.TheVariants.{NoCommand}

-- the words after the same name
pub after_name : (name : List ℕ) (words others : List (List ℕ)) → name ∷ words ≡ name ∷ others → words ≡ others
after_name name words others e = cc

-- one of the words
pub word_at : {A : Type 0} (words : List (String A)) (others : List (List ℕ)) (k : ℕ) (d : String A) → map string_bytes words ≡ others → k < length words → string_bytes (get_or words k d) ≡ get_or others k []
word_at words others k d e within = sym (get_or-map string_bytes words k d [] within) ∙ ap (λ l. get_or l k []) e

-- what a fault says of the words is said by the result that returns it
pub returned : {T : Type 0} (result : Result T ArgsFault) (fault : ArgsFault) (P : Type 0) → IsErrAnd result (λ f. f ≡ fault) → (fault ≡ NoCommand → P) → IfErr result (λ f. f ≡ NoCommand → P)
returned (Ok x) fault P is none = tt
returned (Err f) fault P is none = λ same. none (sym is ∙ same)

-- what a fault says of a word, it says of the words
pub of_words : {T : Type 0} (result : Result T ArgsFault) (P Q : Type 0) → IfErr result (λ f. f ≡ NoCommand → P) → (P → Q) → IfErr result (λ f. f ≡ NoCommand → Q)
of_words result P Q none so = IfErr-weaker result (λ f. f ≡ NoCommand → P) (λ f. f ≡ NoCommand → Q) (λ f said same. so (said same)) none
