-- What calls on uploads leave of the world that a store holds, and of a staged upload.
use Rattle.refinement.proofs.Prelude.{◌≡◌, false, ◌∙◌, ℕ, pos, ◌+◌, ◌≤◌, ℤ, List, [], ◌∷◌, ◌++◌, length, Result, Ok, Err, OnOk, OnErr, refl, sym, ap, subst, concat, Ghosts, largest_object, World, Tables, IsHonest, HasTables, Moves, Makes, Puts, Fails, Begins, normal, shown, with_chunk, upload_number, asked_upload, asked_chunk, staged_with, IsBegun, without_staged, without_staged_from, after_begin, Represents, Holds, Keeps, IsStaged, Stages, StagesNone}
use Rattle.names.specs.Names.{repo_text}
use Rattle.model.specs.World.{is_retired}
use Rattle.tables.specs.declared.fault.StoreFault.{StoreFault}
use Rattle.tables.specs.declared.new_rows.NewUpload.{NewUpload}
use Rattle.tables.specs.declared.rows.UploadId.{UploadId}
use Rattle.refinement.proofs.Leading.{keeps_by, keeps_put_by, keeps_made, keeps_failed}
use Rattle.refinement.proofs.Rearranged.{to_normal, normal_staged}
use Rattle.refinement.proofs.Staging.{chunk_staged, chunk_represented}
use Rattle.refinement.proofs.Begun.{begun_represented, begun_staged}
use Rattle.refinement.proofs.Withdrawn.{staged_withdrawn, staged_gone}
use Rattle.refinement.proofs.Shortened.{staged_shortened}

module _ {S : Type 0} (g : Ghosts S) (a b : S) (id : ℤ) (repo name : List ℕ) (size : ℕ) (pieces : List (List ℕ)) where
  -- a call that leaves the tables unchanged
  pub stages_still : HasTables g a → Moves g (λ t. t) a b → Stages g a id repo name size pieces → Stages g b id repo name size pieces
  stages_still ready moves was k o = subst (IsStaged id repo name size pieces) (sym (moves.shows k ready o)) (was (moves.was_honest k) (moves.was_open k o))

  -- ---- one more chunk

  abbrev with_bytes : List ℕ → Tables → Tables
  with_bytes bytes t = normal (with_chunk (asked_chunk id (length pieces) bytes) t)

  pub stages_more : (bytes : List ℕ) → HasTables g a → Moves g (with_bytes bytes) a b → Stages g a id repo name size pieces → Stages g b id repo name size (pieces ++ bytes ∷ [])
  stages_more bytes ready moves was k o =
      subst (IsStaged id repo name size (pieces ++ bytes ∷ [])) (sym (moves.shows k ready o))
      (normal_staged _ id repo name size (pieces ++ bytes ∷ []) (chunk_staged (shown g a) id repo name size pieces bytes (was (moves.was_honest k) (moves.was_open k o))))

  pub keeps_chunk : {T E : Type 0} (r : Result T E) (world : World) (bytes : List ℕ) → OnOk r (Puts g (with_bytes bytes) a b) → OnErr r (Fails g (with_bytes bytes) a b)
      → Stages g a id repo name size pieces → length (concat pieces) + length bytes ≤ size → Holds g a world → Keeps g a b world
  keeps_chunk r world bytes made failed was fits h =
      keeps_put_by g a b r world (with_bytes bytes) made failed (λ k o s. to_normal _ world (chunk_represented (shown g a) world id repo name size pieces bytes s (was k o) fits)) h

-- ---- an upload that is begun

module _ {S : Type 0} (g : Ghosts S) (a b : S) (asked : NewUpload) (in_range : asked.size ≤ largest_object) (world : World) (unretired : is_retired (repo_text asked.repo.now) asked.oid.now world ≡ false) where
  would_begin : (t : Tables) → Represents (shown g a) world → IsBegun asked (shown g a) t → Represents t world
  would_begin t s begun =
      subst (λ (u : Tables). Represents u world) (sym begun.2) (begun_represented (shown g a) world begun.0 (repo_text asked.repo.now) asked.oid.now asked.size s begun.1 in_range unretired)

  pub keeps_begun : (r : Result UploadId StoreFault) → Begins g a b r asked → IsHonest g b → Holds g a world → Keeps g a b world
  keeps_begun (Ok id) e honest h =
      keeps_made g a b world (after_begin (asked_upload asked (upload_number id))) e.made (λ k o s. would_begin (after_begin (asked_upload asked (upload_number id)) (shown g a)) s (upload_number id, (e.answers honest h.ready).1, refl)) h
  keeps_begun (Err fault) e honest h = keeps_failed g a b world (IsBegun asked) e.failed (λ t k o s begun. would_begin t s begun) h

  pub stages_begun : (id : UploadId) → Begins g a b (Ok id) asked → Holds g a world → Stages g b (upload_number id) (repo_text asked.repo.now) asked.oid.now asked.size []
  stages_begun id e h k o =
      let s = h.shows (e.made.moves.was_honest k) (e.made.moves.was_open k o) in
      subst (IsStaged (upload_number id) (repo_text asked.repo.now) asked.oid.now asked.size []) (sym (e.made.moves.shows k h.ready o))
      (begun_staged (shown g a) world (upload_number id) (repo_text asked.repo.now) asked.oid.now asked.size s (e.answers k h.ready).1 in_range)

-- ---- an upload that is removed

module _ {S : Type 0} (g : Ghosts S) (a b : S) (id : ℤ) (world : World) where
  pub keeps_removed : {T E : Type 0} (r : Result T E) → OnOk r (Makes g (without_staged id) a b) → OnErr r (Fails g (without_staged id) a b) → Holds g a world → Keeps g a b world
  keeps_removed r made failed h = keeps_by g a b r world (without_staged id) made failed (λ k o s. staged_withdrawn (shown g a) world id s) h

  pub keeps_shortened : {T E : Type 0} (r : Result T E) (n : ℕ) → OnOk r (Puts g (without_staged_from id (pos n)) a b) → OnErr r (Fails g (without_staged_from id (pos n)) a b) → Holds g a world → Keeps g a b world
  keeps_shortened r n made failed h = keeps_put_by g a b r world (without_staged_from id (pos n)) made failed (λ k o s. staged_shortened (shown g a) world id n s) h

  pub stages_none : Makes g (without_staged id) a b → Holds g a world → StagesNone g b id
  stages_none made h k o = ap (staged_with id) (made.moves.shows k h.ready o) ∙ staged_gone (shown g a) id
