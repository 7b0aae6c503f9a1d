-- A request on the control socket: a command for the running server.
use Rattle.std.specs.Prelude.{◌≡◌, ◌≢◌, ◌≤◌, ◌<◌, ◌^◌, ℕ, List, ◌∷◌, ◌++◌, length, map, flat_map, All, String, string_bytes}
use Rattle.std.specs.Str.{IsUtf8}
use Rattle.control.specs.Fields.{number_bytes, field}
use Rattle.control.specs.Versions.{version}
use Rattle.control.specs.declared.request.PrefixFault.{PrefixFault}
use Rattle.control.specs.declared.request.PrefixFault.TheVariants as prefix
use Rattle.control.specs.declared.request.Request as declared
use Rattle.control.specs.declared.request.RequestFault.{RequestFault}
use Rattle.control.specs.declared.request.RequestFault.TheVariants.{TooLong, TooManyWords, Memory}

-- the most bytes of a request, without the version and the number in front: 16 MiB
abbrev pub longest_request : ℕ
longest_request = 16777216

-- the most words of a request
abbrev pub most_words : ℕ
most_words = 63

-- a request: the standard input of a command, and its words
pub record Request : Type 0 where
  pub input : List ℕ
  pub words : List (List ℕ)

-- the bytes of a request, without those in front: a field of the input, and a field of each word
abbrev pub request_body : Request → List ℕ
request_body request = field request.input ++ flat_map field request.words

-- the bytes in front of a request: the version, and the number of those that follow
abbrev pub prefix_bytes : ℕ → List ℕ
prefix_bytes size = version ∷ number_bytes size

-- all the bytes of a request: the version, the number of those that follow, and then those
abbrev pub request_bytes : Request → List ℕ
request_bytes request = version ∷ field (request_body request)

-- the request is in range: it has few words, each is UTF-8, and all of it is short
pub record IsRequest (request : Request) : Type 0 where
  pub few : length request.words ≤ most_words
  pub texts : All IsUtf8 request.words
  pub short : length (request_body request) ≤ longest_request

-- these bytes are the fields of few words, each of which is UTF-8
pub record AreWords (bytes : List ℕ) (words : List (List ℕ)) : Type 0 where
  pub few : length words ≤ most_words
  pub texts : All IsUtf8 words
  pub is : bytes ≡ flat_map field words

-- the request of this input and these words
abbrev pub request_of : {A : Type 0} → List ℕ → List (String A) → Request
request_of input words = record { input = input; words = map string_bytes words }

-- the request of the value that was read
abbrev pub request_seen : declared.Request → Request
request_seen request = request_of request.input.now request.words.items

-- the fault says why no bytes were made: there are too many words; there are not, and the request is too long; or it is
-- in range, and memory ran out
abbrev pub IsFaultOf : RequestFault → Request → Type 0
IsFaultOf TooManyWords request = most_words < length request.words
IsFaultOf TooLong request =
    (length request.words ≤ most_words) × (longest_request < length (request_body request))
IsFaultOf Memory request = IsRequest request

-- these first bytes are those of another version
abbrev pub IsOtherVersion : List ℕ → Type 0
IsOtherVersion front = (rest : List ℕ) → front ≢ version ∷ rest

-- these first bytes say that more follow than a request may have
pub record IsTooLong (front : List ℕ) : Type 0 where
  pub size : ℕ
  pub long : longest_request < size
  pub fits : size < 2 ^ 32
  pub is : front ≡ prefix_bytes size

-- the fault says why the first bytes have no size
abbrev pub IsPrefixFaultOf : PrefixFault → List ℕ → Type 0
IsPrefixFaultOf prefix.OtherVersion front = IsOtherVersion front
IsPrefixFaultOf prefix.TooLong front = IsTooLong front

-- these bytes, without those in front, are those of the request, which is in range
pub record IsReadAs (bytes : List ℕ) (request : Request) : Type 0 where
  pub range : IsRequest request
  pub is : bytes ≡ request_body request

-- these bytes are those of no request in range
abbrev pub IsNoRequest : List ℕ → Type 0
IsNoRequest bytes = (request : Request) → IsRequest request → bytes ≢ request_body request

-- two requests in range whose bytes are the same are the same request
abbrev pub RequestsDiffer : Type 0
RequestsDiffer =
    (one other : Request) → IsRequest one → IsRequest other
    → request_body one ≡ request_body other → one ≡ other
