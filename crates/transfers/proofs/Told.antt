-- Parts of an object that were sent to a client; for proofs in other crates too.
use Rattle.std.proofs.Common.{◌≡◌, ◌≤◌, ◌∙◌, inl, inr, ℕ, nat_le, true, false, List, [], ◌∷◌, length, take, drop, Option, Some, None, refl, sym, ap, subst}
use Rattle.std.proofs.lemmas.List.{length-take-le, take-take}
use Rattle.model.specs.World.{World}
use Rattle.downloads.specs.Downloads.{IsAdvanced, AreNextBytes, sent_of, size_of}
use Rattle.downloads.specs.declared.download.Download.{Download}
use Rattle.clients.specs.declared.client.Client.{Client}
use Rattle.machine.specs.Observations.{Observation, told}
use Rattle.transfers.specs.Transfers.{LeavesRest, IsPartSent, Owed, rest_left}

-- the first of the next bytes are the next bytes too
pub first_next : (d : Download) (bytes : List ℕ) (count : ℕ) (world : World) → count ≤ length bytes → AreNextBytes d bytes world → AreNextBytes d (take count bytes) world
first_next d bytes count world few (o, named, is) =
    (o, named, ap (take count) is ∙ take-take count (length bytes) (drop (sent_of d) o.bytes) few ∙ ap (λ (n : ℕ). take n (drop (sent_of d) o.bytes)) (sym (length-take-le count bytes few)))

-- as many more bytes were sent as were told
advanced_by : (d left : Download) (bytes : List ℕ) (count : ℕ) → count ≤ length bytes → IsAdvanced d count left → IsAdvanced d (length (take count bytes)) left
advanced_by d left bytes count few is = subst (λ (n : ℕ). IsAdvanced d n left) (sym (length-take-le count bytes few)) is

-- what is left to be sent to a client, by the number of his connection
pub left_same : (client same : Client) (number : ℕ) (left : Option Download) (owed owes : List Owed) (seen : List Observation) → same.number ≡ client.number → LeavesRest same number left owed owes seen → LeavesRest client number left owed owes seen
left_same client same number None owed owes seen is left = left
left_same client same number (Some d) owed owes seen is (inl (none, kept, (other, number_is, aside))) = inl (none, kept, (other, number_is ∙ is, aside))
left_same client same number (Some d) owed owes seen is (inr (none, (other, number_is, closing))) = inr (none, (other, number_is ∙ is, closing))

-- the first of these bytes were told, and this is left
pub sent_told : (client : Client) (due : Owed) (owed owes : List Owed) (world : World) (bytes : List ℕ) (count : ℕ) (left : Download) (later : List Observation) → count ≤ length bytes → AreNextBytes due.download bytes world
    → IsAdvanced due.download count left → LeavesRest client due.number (rest_left left) owed owes later → IsPartSent client due owed owes world (told client (take count bytes) ∷ later)
sent_told client due owed owes world bytes count left later few next advanced rest =
    inr (take count bytes, first_next due.download bytes count world few next, left, advanced_by due.download left bytes count few advanced, later, refl, rest)

-- all of an object was sent
pub left_none : (client : Client) (number : ℕ) (d : Download) (owed : List Owed) → nat_le (size_of d) (sent_of d) ≡ true → LeavesRest client number (rest_left d) owed owed []
left_none client number d owed over = rw over (refl, refl)

-- something is left of it
pub left_some : (client : Client) (number : ℕ) (d : Download) (owed owes : List Owed) (seen : List Observation) → nat_le (size_of d) (sent_of d) ≡ false
    → LeavesRest client number (Some d) owed owes seen → LeavesRest client number (rest_left d) owed owes seen
left_some client number d owed owes seen more left = rw more left
