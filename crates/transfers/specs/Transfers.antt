-- Objects that are sent to clients in parts.
use Rattle.std.specs.Prelude.{◌≡◌, ◌≢◌, ◌⊎◌, ◌++◌, ℕ, All, List, [], ◌∷◌, length, map, nat_le, Option, Some, None, MatchOption, if◌then◌else◌, ⊤}
use Rattle.model.specs.World.{World}
use Rattle.downloads.specs.Downloads.{IsAdvanced, AreNextBytes, sent_of, size_of}
use Rattle.downloads.specs.declared.download.Download.{Download}
use Rattle.clients.specs.declared.client.Client.{Client}
use Rattle.machine.specs.Observations.{Observation, aside, closed, told}
use Rattle.transfers.specs.declared.transfers.Transfer.{Transfer}
use Rattle.transfers.specs.declared.transfers.Transfers.{Transfers}

-- an object of which the client with this number of a connection is still to be sent bytes
pub record Owed : Type 0 where
  pub number : ℕ
  pub download : Download

-- what a transfer still owes
abbrev pub owed_by : Transfer → Owed
owed_by t = record { number = t.number; download = t.download }

-- what these transfers still owe
abbrev pub owed_in : Transfers → List Owed
owed_in transfers = map owed_by transfers.list.items

-- nothing is owed over the connection with this number
abbrev pub HasNoneOwed : ℕ → List Owed → Type 0
HasNoneOwed number owed = All (λ o. o.number ≢ number) owed

-- nothing is owed to the client; his connection has no number before its first turn
abbrev pub IsOwedNothing : Client → List Owed → Type 0
IsOwedNothing client owed = MatchOption client.number ⊤ (λ n. HasNoneOwed n owed)

-- the number of the client's connection, which it keeps from its first turn on
abbrev pub IsNumberOf : Client → ℕ → Type 0
IsNumberOf client number = MatchOption client.number ⊤ (λ n. number ≡ n)

-- the connection of the client was closed
abbrev pub IsClosed : Client → List Observation → Type 0
IsClosed client seen = (c : Client) × (c.number ≡ client.number) × (seen ≡ closed c ∷ [])

-- the client was put aside, and his connection has this number from then on
abbrev pub IsPutAside : Client → ℕ → List Observation → Type 0
IsPutAside client number seen = (c : Client) × (c.number ≡ client.number) × (seen ≡ aside c number ∷ [])

-- after a job for the client nothing is left to be sent to him; or this object is, which is owed over his connection from now on,
-- and nothing else is, and he was put aside; or his connection was closed
abbrev pub LeavesRest : Client → (number : ℕ) → Option Download → (owed owes : List Owed) → List Observation → Type 0
LeavesRest client number None owed owes seen = (owes ≡ owed) × (seen ≡ [])
LeavesRest client number (Some d) owed owes seen =
    (HasNoneOwed number owed × (owes ≡ owed ++ record { number = number; download = d } ∷ [])
    × IsPutAside client number seen)
    ⊎ ((owes ≡ owed) × IsClosed client seen)

-- what is left of an object; nothing if all of its bytes were sent
abbrev pub rest_left : Download → Option Download
rest_left d = if nat_le (size_of d) (sent_of d) then None else Some d

-- this was owed, and is no longer
pub record TakesOut (due : Owed) (owed owes : List Owed) : Type 0 where
  pub before : List Owed
  pub after : List Owed
  pub was : owed ≡ before ++ due ∷ after
  pub is : owes ≡ before ++ after

-- bytes of the object that was due were told to the client, its next ones, and the rest is owed to him; or his connection was closed
abbrev pub IsPartSent : Client → (due : Owed) → (owed owes : List Owed) → World → List Observation → Type 0
IsPartSent client due owed owes world seen =
    ((owes ≡ owed) × IsClosed client seen)
    ⊎ ((bytes : List ℕ) × AreNextBytes due.download bytes world
    × (left : Download) × IsAdvanced due.download (length bytes) left
    × (later : List Observation) × (seen ≡ told client bytes ∷ later)
    × LeavesRest client due.number (rest_left left) owed owes later)

-- the client, to whom an object is owed, was sent its next bytes; or his connection was closed
abbrev pub IsNextPart : Client → (owed owes : List Owed) → World → List Observation → Type 0
IsNextPart client owed owes world seen =
    (due : Owed) × (client.number ≡ Some due.number)
    × (others : List Owed) × TakesOut due owed others × IsPartSent client due others owes world seen
