-- Which tables and contents come after those of a store, and what is known of a store that was open.
use Rattle.placed.proofs.Prelude.{◌≡◌, ℕ, Bool, true, List, [], Option, is_some, filter, find, refl, sym, ap, subst, ◌∙◌, AllByRecursion, all-filter, ascending-filter, IsAscending, Chunk, Upload, Tables, is_staged_with, upload_number, Ghosts, normal, settled, Remains, IsHonest, IsOpen, HasTables, shown, Placed, Staged, is_place, view, pieces_at, IsStagedIn, IsPlace, IsServed, staged_of, AreHonest, shown_with, HasPlaces, Regions, AreReceived, IsReceived, OfOthers, AreStagedApart, others_of, others_of_found, int_eq, not, ℤ, Some, None}
use Rattle.sqlite_disk.specs.declared.Disk as disk
use Rattle.placed.proofs.Settled.{settled-left}
use Rattle.placed.proofs.Tracked.{HasSomePlaces, every_place, places-kept}
use Rattle.placed.proofs.Both.{alike}
use Rattle.placed.proofs.Lists.{filter_every}

-- these tables come after the others: what they show with the file is known, no place is new, and each content that is
-- still being received is one of a staged upload
pub record Leads (file : List ℕ) (before after : List Staged) (t v shows : Tables) : Type 0 where
  pub shown : view file after v ≡ shows
  pub some : HasSomePlaces t v
  pub uploads : AllByRecursion (IsStagedIn t) before → AllByRecursion (IsStagedIn v) after

-- these are some of the contents that are being received
abbrev pub ArePart : List Staged → List Staged → Type 0
ArePart before after = (q : Staged → Bool) × (after ≡ filter q before)

-- all of them
pub all_of : (staged : List Staged) → ArePart staged staged
all_of staged = ((λ x. true), filter_every staged)

-- what holds of all holds of them
pub part_all : (P : Staged → Type 0) (before after : List Staged) → ArePart before after → AllByRecursion P before
    → AllByRecursion P after
part_all P before after part all = subst (AllByRecursion P) (sym part.1) (all-filter P part.0 before all)

pub part_apart : (R : Staged → Staged → Type 0) (before after : List Staged) → ArePart before after
    → IsAscending R before → IsAscending R after
part_apart R before after part up = subst (IsAscending R) (sym part.1) (ascending-filter R part.0 before up)

pub part_received : {D : Type 0} (d : disk.Ghosts D) (disk : D) (regions : Regions) (before after : List Staged)
    → ArePart before after → AreReceived d disk regions before → AreReceived d disk regions after
part_received d disk regions before after part all = record {
  each = part_all (IsReceived d disk regions) before after part all.each;
  once = part_apart OfOthers before after part all.once;
  apart = part_apart AreStagedApart before after part all.apart;
}

-- the contents but that of an upload
pub others_part : (id : ℤ) (staged : List Staged) → ArePart staged (others_of id staged)
others_part id staged = ((λ s. not (int_eq (upload_number s.id) id)), refl)

pub part_of_found : (k : Option ℤ) (staged : List Staged) → ArePart staged (others_of_found k staged)
part_of_found None staged = all_of staged
part_of_found (Some id) staged = others_part id staged

-- tables that have the same uploads, with the same chunks
pub leads_same : (file : List ℕ) (staged : List Staged) (t v shows : Tables) → view file staged v ≡ shows
    → v.uploads ≡ t.uploads → v.chunks ≡ t.chunks → Leads file staged staged t v shows
leads_same file staged t v shows shown uploads chunks = record {
  shown = shown;
  some = every_place t v (ap (filter is_place) chunks);
  uploads = subst (λ (us : List Upload). AllByRecursion (λ s. is_some (find (is_staged_with (upload_number s.id)) us) ≡ true) staged)
      (sym uploads);
}

module _ {T D : Type 0} (g : Ghosts T) (d : disk.Ghosts D) (s : Placed T D) where
  -- tables as this store shows them with its file
  abbrev pub viewed : Tables → Tables
  viewed t = view (d.seen s.disk) (staged_of s) t

  -- the tables that the database shows are served
  abbrev pub Serves : Type 0
  Serves = IsServed d s.disk s.regions (staged_of s) (shown g s.rows)

  -- the row is a place beside these contents that are being received
  abbrev pub HasPlace : List Staged → Chunk → Type 0
  HasPlace staged c = IsPlace d s.disk s.regions staged c

  -- these tables come after those of the database
  abbrev pub LeadsTo : List Staged → Tables → Tables → Type 0
  LeadsTo after v shows = Leads (d.seen s.disk) (staged_of s) after (shown g s.rows) v shows

  -- the result of the step comes after them, and with the file shows that of the other step
  abbrev pub Follows : List Staged → (Tables → Tables) → (Tables → Tables) → Type 0
  Follows after step seen = LeadsTo after (step (shown g s.rows)) (seen (shown_with g d s))

  -- what remains of tables that come after those of the store
  pub turned : {after : List Staged} {v w : Tables} → LeadsTo after v w → Serves → (u : Tables) → Remains v u
      → (left : List ℕ) → d.may_leave s.disk left → settled (view left [] u) ≡ settled w
  turned {after} {v} {w} leads served u remains left may =
      settled-left (d.seen s.disk) left after v u remains (leads.uploads served.uploads)
      (places-kept (λ c. pieces_at left c ≡ pieces_at (d.seen s.disk) c) (shown g s.rows) v leads.some
      (alike g d s left may _ served.places))
      ∙ ap settled leads.shown

  module _ (rows : T) where
    -- what is known of a store that was open, if its database is honest after the call
    pub record Known : Type 0 where
      pub honest : IsHonest g rows
      pub tables : HasTables g s.rows
      pub ordered : normal (shown g s.rows) ≡ shown g s.rows
      pub received : AreReceived d s.disk s.regions (staged_of s)
      pub served : Serves

    pub known : (IsHonest g rows → IsHonest g s.rows) → HasPlaces g d s → AreHonest g d (record s { rows = rows })
        → IsOpen g s.rows → Known
    known was_honest h k o = let was = h.placed (was_honest k.0, k.1) in record {
      honest = k.0;
      tables = h.rows;
      ordered = h.rows.ordered (was_honest k.0) o;
      received = was.received;
      served = was.served o;
    }

    -- tables to which the rows may be changed come after those of the database
    abbrev pub LeadsAny : (Tables → Tables → Type 0) → (Tables → Tables → Type 0) → Type 0
    LeadsAny change after = (v : Tables) → change (shown g s.rows) v
        → (w : Tables) × after (shown_with g d s) w × (ls : List Staged) × LeadsTo ls v w
