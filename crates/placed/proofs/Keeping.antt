-- What the file keeps through a call on its disk, and what it has at a place.
use Rattle.placed.proofs.Prelude.{◌≡◌, ℕ, false, List, Some, sym, ap, subst, ◌∙◌, Contains, AllByRecursion, Region, Regions, regions_of, HasContent, KeepsContents, IsSameFile, HasWritten, Chunk, Staged, region_in, pieces_in, pieces_at, AreSeparate, IsPlace, IsReceived, pieces, IsAlteredBy, refl, received_pieces}
use Rattle.sqlite_disk.specs.declared.Disk.{Ghosts}
use Rattle.contents.specs.Files.{IsChangedBy}
use Rattle.placed.specs.Kept.{IsInFile}
use Rattle.placed.proofs.Bytes.{content_is}

-- what is still written of the content is written apart from the region
abbrev pub IsAway : Region → Staged → Type 0
IsAway region s = s.is_sealed ≡ false → AreSeparate s.draft.region region

abbrev pub AreAway : Region → List Staged → Type 0
AreAway region = AllByRecursion (IsAway region)

-- both files have the same pieces at these places
abbrev pub AgreeAt : (left file : List ℕ) → List Chunk → Type 0
AgreeAt left file = AllByRecursion (λ (c : Chunk). pieces_at left c ≡ pieces_at file c)

-- both files have the same pieces of these contents
abbrev pub AgreeOn : (left file : List ℕ) → List Staged → Type 0
AgreeOn left file = AllByRecursion (λ (s : Staged). received_pieces left s ≡ received_pieces file s)

-- two files that have the same content at a place show the same pieces there
pub pieces_alike : (left file : List ℕ) (c : Chunk) (region : Region) (content : List ℕ)
    → region_in c.bytes ≡ Some region → HasContent left region content → HasContent file region content
    → pieces_at left c ≡ pieces_at file c
pieces_alike left file c region content means one two =
    ap (pieces_in left c) means ∙ ap (pieces c.upload) (content_is left region content one ∙ sym (content_is file region content two))
    ∙ sym (ap (pieces_in file c) means)

-- a file that is not touched
pub file_itself : {D : Type 0} (d : Ghosts D) (disk : D) → IsSameFile d disk disk
file_itself d disk = record { seen = refl; stop = λ left may. may; clean = λ k. k }

module _ {D : Type 0} (d : Ghosts D) (old new : D) where
  -- a call that changes nothing in the file
  pub kept_same : IsSameFile d old new → (region : Region) → IsInFile d old region → IsInFile d new region
  kept_same same region k = record {
    content = k.content;
    seen = subst (λ file. HasContent file region k.content) (sym same.seen) k.seen;
    left = λ left may. k.left left (same.stop left may);
  }

  -- a call that changed the file altered it
  pub altered : (step : List ℕ → List ℕ → Type 0) → IsChangedBy d step old new → IsAlteredBy d step old new
  altered step by = record { seen = by.seen; stop = by.stop; clean = by.clean }

  -- and so did a call that changed the file, with one after it that leaves the file
  pub changed_then_same : (step : List ℕ → List ℕ → Type 0) (then : D) → IsChangedBy d step old then
      → IsSameFile d then new → IsAlteredBy d step old new
  changed_then_same step then by same = record {
    seen = subst (step (d.seen old)) (sym same.seen) by.seen;
    stop = λ left may. by.stop left (same.stop left may);
    clean = λ k. by.clean (same.clean k);
  }

  -- a call that writes into another region
  pub kept_altered : (at region : Region) → IsAlteredBy d (KeepsContents at) old new → AreSeparate at region
      → IsInFile d old region → IsInFile d new region
  kept_altered at region by apart k = record {
    content = k.content;
    seen = by.seen region k.content apart k.seen;
    left = λ left may. let it = by.stop left may in it.2 region k.content apart (k.left it.0 it.1);
  }

  module _ (was now : Regions) (more : (r : Region) → Contains (regions_of was) r → Contains (regions_of now) r) where
    -- a place stays one while its region is in use and what may be written is no more
    pub place_same : IsSameFile d old new → (before after : List Staged)
        → ((region : Region) → AreAway region before → AreAway region after) → (c : Chunk) → IsPlace d old was before c
        → IsPlace d new now after c
    place_same same before after fewer c p = record {
      region = p.region;
      means = p.means;
      some = p.some;
      kept = kept_same same p.region p.kept;
      used = more p.region p.used;
      apart = fewer p.region p.apart;
    }

    pub received_same : IsSameFile d old new → (s : Staged) → IsReceived d old was s → IsReceived d new now s
    received_same same s r = record {
      used = more s.draft.region r.used;
      some = r.some;
      bytes = r.bytes;
      written = subst (λ file. HasWritten file s.draft r.bytes) (sym same.seen) r.written;
      within = r.within;
    }
