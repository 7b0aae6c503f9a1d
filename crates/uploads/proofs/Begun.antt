-- An upload that is begun is staged.
use Rattle.uploads.proofs.Prelude.{◌≡◌, ◌∙◌, ◌≤◌, Bool, false, sym, ℕ, List, Option, Result, Ok, Err, Ghosts, largest_object, World, IsHonest, StoreFault, UploadId, UploadRow, From, Keeps, Holds, leads_still, keeps_still, keeps_then}
use Rattle.names.specs.Names.{repo_text}
use Rattle.model.specs.World.{is_retired}
use Rattle.names.specs.declared.texts.RepoName.{RepoName}
use Rattle.store.specs.Shown as tables
use Rattle.tables.specs.declared.new_rows.NewUpload.{NewUpload}
use Rattle.store.specs.Shown.{Finds}
use Rattle.refinement.specs.Left.{Reads}
use Rattle.refinement.proofs.Leading.{reads_lead}
use Rattle.refinement.proofs.Staged.{keeps_begun, stages_begun}
use Rattle.uploads.specs.Beginning.{Begins}

module _ {S : Type 0} (g : Ghosts S) (old new : S) (asked : NewUpload) (in_range : asked.size ≤ largest_object) where
  honest_before : (r : Result UploadId StoreFault) → tables.Begins g old new r asked → IsHonest g new → IsHonest g old
  honest_before (Ok id) e k = e.made.moves.was_honest k
  honest_before (Err fault) e k = e.failed.moves.was_honest k

  begins_by : (r : Result UploadId StoreFault) → tables.Begins g old new r asked → IsHonest g new → (world : World) → Holds g old world → is_retired (repo_text asked.repo.now) asked.oid.now world ≡ false
      → Begins g world asked.repo.now asked.oid.now asked.size old new r
  begins_by (Ok id) e honest world h unretired = (keeps_begun g old new asked in_range world unretired (Ok id) e honest h, stages_begun g old new asked in_range world unretired id e h)
  begins_by (Err fault) e honest world h unretired = keeps_begun g old new asked in_range world unretired (Err fault) e honest h

  pub begun_from : (r : Result UploadId StoreFault) → tables.Begins g old new r asked → From g old new (λ world. is_retired (repo_text asked.repo.now) asked.oid.now world ≡ false → Begins g world asked.repo.now asked.oid.now asked.size old new r)
  begun_from r e = record { honest = honest_before r e; each = begins_by r e }

module _ {S : Type 0} (g : Ghosts S) where
  -- the staged upload of a repository was sought
  pub finds_keeps : (a b : S) (repo : List ℕ) (r : Result (Option UploadRow) StoreFault) → Finds g a b repo r → From g a b (Keeps g a b)
  finds_keeps a b repo r it = record { honest = it.same.was_honest; each = λ k world h. keeps_still g a b world (leads_still g a b world it.same it.adds h) }

  -- one call after another
  pub kept_then : (a b c : S) → From g a b (Keeps g a b) → From g b c (Keeps g b c) → From g a c (Keeps g a c)
  kept_then a b c p q = record {
    honest = λ k. p.honest (q.honest k);
    each = λ k world h. let it = p.each (q.honest k) world h in keeps_then g a b c world it (q.each k world it.holds);
  }

  -- a call that only read
  pub read_keeps : {P : World → Type 0} (a b : S) → Reads g a b P → From g a b (Keeps g a b)
  read_keeps a b r = record { honest = r.same.was_honest; each = λ k world h. keeps_still g a b world (reads_lead g a b _ world r h) }

  module _ (a b c : S) (repo : RepoName) (oid : List ℕ) (size : ℕ) where
    begins_after : (r : Result UploadId StoreFault) (world : World) → Keeps g a b world → Begins g world repo oid size b c r → Begins g world repo oid size a c r
    begins_after (Ok id) world keeps begun = (keeps_then g a b c world keeps begun.0, begun.1)
    begins_after (Err fault) world keeps begun = keeps_then g a b c world keeps begun

    -- an upload was begun after a call that kept the world
    pub begun_then : (r : Result UploadId StoreFault) → From g a b (Keeps g a b) → From g b c (λ world. is_retired (repo_text repo) oid world ≡ false → Begins g world repo oid size b c r)
        → From g a c (λ world. is_retired (repo_text repo) oid world ≡ false → Begins g world repo oid size a c r)
    begun_then r p q = record {
      honest = λ k. p.honest (q.honest k);
      each = λ k world h unretired. let it = p.each (q.honest k) world h in begins_after r world it (q.each k world it.holds unretired);
    }

    -- an upload was begun after a call that said that the name is not retired
    pub begun_unretired : (retired : Bool) (r : Result UploadId StoreFault) → retired ≡ false → Reads g a b (λ world. retired ≡ is_retired (repo_text repo) oid world)
        → From g b c (λ world. is_retired (repo_text repo) oid world ≡ false → Begins g world repo oid size b c r) → From g a c (λ world. Begins g world repo oid size a c r)
    begun_unretired retired r off p q = record {
      honest = λ k. p.same.was_honest (q.honest k);
      each = λ k world h.
          let before = q.honest k in
          let lead = reads_lead g a b _ world p h in
          begins_after r world (keeps_still g a b world lead) (q.each k world lead.holds (sym (p.each before world h) ∙ off));
    }
