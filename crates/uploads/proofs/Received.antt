-- A staged upload whose bytes arrived is completed.
use Rattle.uploads.proofs.Prelude.{◌≡◌, ◌∙◌, ◌⊎◌, inl, inr, ℕ, ◌+◌, ◌≤◌, true, None, add_comm, pos, List, ◌++◌, length, Some, is_some, Ok, Err, refl, sym, ap, subst, concat, Ghosts, largest_object, World, IsWorld, IsObject, name_of, object_named, with_object, Tables, IsHonest, IsOpen, Moves, Makes, Fails, shown, upload_number, completion_by, completion_of, after_complete, StoreFault, UploadId, Represents, Holds, Keeps, holds_made, ends_made, ends_failed_or, ends_reported, keeps_failed}
use Rattle.std.proofs.lemmas.Slice.Eq.{bytes_eq-Decides}
use Rattle.std.specs.Prelude.{not, false}
use Rattle.model.specs.World.{IsUnretired, is_retired, total}
use Rattle.model.proofs.Lists.{each_in, in_found}
use Rattle.tables.specs.Rows.{Upload}
use Rattle.tables.specs.Statements.{is_staged, is_upload}
use Rattle.model.specs.Bounds.{changed, unchanged}
use Rattle.model.proofs.Keeping.{keeps_with_object}
use Rattle.model.proofs.Quota.{total_with}
use Rattle.tables.specs.declared.rows.Completion.{Completion}
use Rattle.tables.specs.declared.rows.Completion.TheVariants as completion
use Rattle.tables.specs.declared.new_rows.LastChunk.{LastChunk}
use Rattle.store.proofs.Moved.{moves_still}
use Rattle.refinement.specs.Staging.{staged_row}
use Rattle.refinement.proofs.Completing.{staged_in_range, Completed, completed, completed_by}
use Rattle.store.specs.Normal.{normal}
use Rattle.refinement.proofs.Holding.{holds_still}
use Rattle.refinement.proofs.Rearranged.{to_normal}
use Rattle.refinement.proofs.Tokens.{none_is}
use Rattle.uploads.specs.Completing.{Staged, bytes_in, object_of, IsAsBegun, Arrives, Completes}
use Rattle.uploads.specs.declared.completing.Kept.TheVariants.{New}
use Rattle.uploads.specs.declared.completing.UploadFault.TheVariants.{Differs}
use Rattle.uploads.specs.declared.completing.UploadFault.TheVariants as fault

module _ {S : Type 0} (g : Ghosts S) (old new : S) (world : World) (upload : Staged) (id : UploadId) (chunk : LastChunk) (oid : List ℕ) (size : ℕ) (h : Holds g old world) (a : Arrives g old id upload chunk oid size) where
  abbrev step : Tables → Tables
  step t = normal (after_complete (upload_number id) chunk oid (pos size) t)

  abbrev made : World
  made = with_object (object_of upload) world

  -- the bytes that are stored, and those of the last chunk
  abbrev all : List ℕ
  all = concat upload.pieces ++ chunk.bytes.items

  same_bytes : all ≡ bytes_in upload
  same_bytes = ap (λ (b : List ℕ). concat upload.pieces ++ b) a.last

  arrived : length all ≡ size
  arrived = ap length same_bytes ∙ sym a.length

  -- the object with the name that was given is the one with the name of the bytes
  same_object : with_object (record { repo = upload.repo; name = oid; bytes = all }) world ≡ made
  same_object =
      ap (λ (b : List ℕ). with_object (record { repo = upload.repo; name = oid; bytes = b }) world) same_bytes
      ∙ ap (λ (n : List ℕ). with_object (record { repo = upload.repo; name = n; bytes = bytes_in upload }) world) a.name

  is_begun : upload.name ≡ oid → upload.size ≡ size → IsAsBegun upload
  is_begun same equal = (sym a.name ∙ sym same, sym a.length ∙ sym equal)

  is_object : IsHonest g old → IsOpen g old → upload.size ≡ size → IsObject (object_of upload)
  is_object k o equal =
      let within = staged_in_range (shown g old) world (upload_number id) upload.repo upload.name upload.size upload.pieces (h.shows k o) (a.stages k o) in
      record { repo = a.repo; name = refl; size = subst (λ n. n ≤ largest_object) (equal ∙ a.length) within }

  -- a staged upload has no retired name
  is_unretired : IsHonest g old → IsOpen g old → upload.name ≡ oid → IsUnretired world (object_of upload)
  is_unretired k o same =
      let there = (a.stages k o).upload in
      let row = staged_row (upload_number id) upload.repo upload.name upload.size in
      let free : is_retired upload.repo upload.name world ≡ false =
      each_in (λ (u : Upload). is_staged u ≡ true → is_retired u.repo u.oid world ≡ false) (shown g old).uploads row (h.shows k o).unretired (in_found (is_upload (upload_number id)) (shown g old).uploads row there) refl in
      ap not (ap (λ (n : List ℕ). is_retired upload.repo n world) (sym (same ∙ a.name)) ∙ free)

  -- what the tables represent after a result
  after : (k : IsHonest g old) (o : IsOpen g old) (c : Completion) → completion_of (upload_number id) oid (pos size) (shown g old) ≡ Some c
      → Completed (shown g old) world (upload_number id) upload.repo upload.name upload.size upload.pieces chunk oid size (h.shows k o) h.laws (a.stages k o) a.next arrived c
  after k o c said = completed (shown g old) world (upload_number id) upload.repo upload.name upload.size upload.pieces chunk oid size (h.shows k o) h.laws (a.stages k o) a.next arrived c said

  -- the tables are as before, and so is the world
  still : Moves g (λ t. t) old new → Makes g step old new → Keeps g old new world
  still same makes = ends_made g old new unchanged world made step h.ready makes (holds_still g old new world same h)

  -- what the tables represent if the step left them as they were
  stays : (k : IsHonest g old) (o : IsOpen g old) → after_complete (upload_number id) chunk oid (pos size) (shown g old) ≡ shown g old → Represents (step (shown g old)) world
  stays k o same = to_normal _ world (subst (λ (t : Tables). Represents t world) (sym same) (h.shows k o))

  -- the total with a new object
  grown : IsAsBegun upload → object_named upload.repo upload.name world ≡ None → total upload.repo made ≡ total upload.repo world + upload.size
  grown begun none =
      let free : object_named upload.repo (name_of (bytes_in upload)) world ≡ None = ap (λ (n : List ℕ). object_named upload.repo n world) begun.0 ∙ none in
      rw free (total_with world (object_of upload) upload.repo true ((bytes_eq-Decides upload.repo upload.repo).1 refl) ∙ add_comm (length (bytes_in upload)) (total upload.repo world)
      ∙ ap (λ (n : ℕ). total upload.repo world + n) begun.1)

  added : IsHonest g old → IsOpen g old → completion_of (upload_number id) oid (pos size) (shown g old) ≡ Some completion.New → Makes g step old new → Completes g world id upload old new (Ok New)
  added k o said makes =
      let it = after k o completion.New said in
      let none = none_is (object_named upload.repo upload.name world) (ap (λ (n : List ℕ). is_some (object_named upload.repo n world)) it.0 ∙ it.2) in (
        is_begun it.0 it.1,
        none,
        ends_made g old new changed world made step h.ready makes
            (holds_made g old new made step h.ready makes (keeps_with_object world (object_of upload) (is_object k o it.1) (is_unretired k o it.0) h.laws) (λ _ _. subst (Represents (step (shown g old))) same_object (to_normal _ _ it.3))),
        grown (is_begun it.0 it.1) none,
      )

  -- the repository has an object of the name, and the upload is still staged
  abbrev pub IsThere : Type 0
  IsThere = IsAsBegun upload × (is_some (object_named upload.repo upload.name world) ≡ true) × Keeps g old new world

  known : IsHonest g old → IsOpen g old → completion_of (upload_number id) oid (pos size) (shown g old) ≡ Some completion.Already → Makes g step old new → IsThere
  known k o said makes =
      let it = after k o completion.Already said in (
        is_begun it.0 it.1,
        ap (λ (n : List ℕ). is_some (object_named upload.repo n world)) it.0 ∙ it.2,
        still (moves_still g old new step makes.moves (λ _. ap normal it.3 ∙ h.ready.ordered k o)) makes,
      )

  differs : IsHonest g old → IsOpen g old → completion_of (upload_number id) oid (pos size) (shown g old) ≡ Some completion.Differs → Makes g step old new → Completes g world id upload old new (Err Differs)
  differs k o said makes =
      let it = after k o completion.Differs said in
      let same = moves_still g old new step makes.moves (λ _. ap normal it.1 ∙ h.ready.ordered k o) in
      ((λ begun. it.0 (sym begun.0 ∙ sym a.name) (sym begun.1 ∙ sym a.length)), still same makes, same)

  -- what a stop may leave of a call that failed
  either : (k : IsHonest g old) (o : IsOpen g old) (c : Completion)
      → Completed (shown g old) world (upload_number id) upload.repo upload.name upload.size upload.pieces chunk oid size (h.shows k o) h.laws (a.stages k o) a.next arrived c
      → (IsWorld made × Represents (step (shown g old)) made) ⊎ Represents (step (shown g old)) world
  either k o completion.New it = inl (keeps_with_object world (object_of upload) (is_object k o it.1) (is_unretired k o it.0) h.laws, subst (Represents (step (shown g old))) same_object (to_normal _ _ it.3))
  either k o completion.Already it = inr (stays k o it.3)
  either k o completion.Differs it = inr (stays k o it.1)

  -- it leaves the world if the bytes differ from what was begun
  unless_begun : (k : IsHonest g old) (o : IsOpen g old) (c : Completion)
      → Completed (shown g old) world (upload_number id) upload.repo upload.name upload.size upload.pieces chunk oid size (h.shows k o) h.laws (a.stages k o) a.next arrived c
      → (IsAsBegun upload → ⊥) → Represents (step (shown g old)) world
  unless_begun k o completion.New it differ = absurd (differ (is_begun it.0 it.1))
  unless_begun k o completion.Already it differ = stays k o it.3
  unless_begun k o completion.Differs it differ = stays k o it.1

  -- the result of the transaction that failed
  abbrev tried : Completion
  tried = completion_by oid (pos size) (staged_row (upload_number id) upload.repo upload.name upload.size) (shown g old)

  would : (k : IsHonest g old) (o : IsOpen g old)
      → Completed (shown g old) world (upload_number id) upload.repo upload.name upload.size upload.pieces chunk oid size (h.shows k o) h.laws (a.stages k o) a.next arrived tried
  would k o = completed_by (shown g old) world (upload_number id) upload.repo upload.name upload.size upload.pieces chunk oid size (h.shows k o) h.laws (a.stages k o) a.next arrived

  pub refused : (f : StoreFault) → Fails g step old new → Completes g world id upload old new (Err (fault.Store f))
  refused f fails = (
    ends_failed_or g old new world made step fails (λ k o s. either k o tried (would k o)) h,
    λ differ. keeps_failed g old new world (λ was t. t ≡ step was) fails
        (λ t k o s is. subst (λ (u : Tables). Represents u world) (sym is) (unless_begun k o tried (would k o) differ)) h,
  )

  -- the result of the call for a result of the call on the tables
  abbrev pub Reported : Completion → Type 0
  Reported completion.New = Completes g world id upload old new (Ok New)
  Reported completion.Already = IsThere
  Reported completion.Differs = Completes g world id upload old new (Err Differs)

  pub completes_by : (c : Completion) → IsHonest g new → IsOpen g old × (completion_of (upload_number id) oid (pos size) (shown g old) ≡ Some c) → Makes g step old new → Reported c
  completes_by completion.New honest said makes = added (makes.moves.was_honest honest) said.0 said.1 makes
  completes_by completion.Already honest said makes = known (makes.moves.was_honest honest) said.0 said.1 makes
  completes_by completion.Differs honest said makes = differs (makes.moves.was_honest honest) said.0 said.1 makes

-- the repository has the object already, and the store refused to remove the upload; the world is kept
pub unremoved : {S : Type 0} (g : Ghosts S) (old new : S) (world : World) (id : UploadId) (upload : Staged) (f : StoreFault) → Keeps g old new world → Completes g world id upload old new (Err (fault.Store f))
unremoved g old new world id upload f kept = (ends_reported g old new world (with_object (object_of upload) world) kept, λ differ. kept)
