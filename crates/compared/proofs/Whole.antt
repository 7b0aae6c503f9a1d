-- Two stores with the same tables: the second holds the world of the first.
use Rattle.std.proofs.Common.{◌≡◌, Bool, true, false, filter, map, Ok, Result, refl, sym, subst}
use Rattle.model.specs.World.{World}
use Rattle.tables.specs.Rows.{Tables}
use Rattle.tables.specs.Statements.{is_complete}
use Rattle.tables.specs.Steps.{token_fields}
use Rattle.tables.specs.declared.fault.StoreFault.{StoreFault}
use Rattle.store.specs.declared.state.State.{Ghosts}
use Rattle.store.specs.Shown.{HasTables, IsHonest, shown}
use Rattle.refinement.specs.Representation.{Holds, Represents}
use Rattle.compared.specs.Comparing.{Compares, IsCurrent}
use Rattle.tables.specs.Listing.{repo_fields, repo_lock_fields, retired_fields}
use Rattle.compared.specs.Same.{AreSame, HaveSameChunks}
use Rattle.compared.proofs.Represented.{same_represented}

-- what each of the six comparisons is of
abbrev pub SameRepos : Tables → Tables → Type 0
SameRepos t u = map repo_fields u.repos ≡ map repo_fields t.repos

abbrev pub SameLocks : Tables → Tables → Type 0
SameLocks t u = map repo_lock_fields u.locks ≡ map repo_lock_fields t.locks

abbrev pub SameTokens : Tables → Tables → Type 0
SameTokens t u = map token_fields u.tokens ≡ map token_fields t.tokens

abbrev pub SameRetired : Tables → Tables → Type 0
SameRetired t u = map retired_fields u.retired ≡ map retired_fields t.retired

abbrev pub SameUploads : Tables → Tables → Type 0
SameUploads t u = u.uploads ≡ filter is_complete t.uploads

-- all six
abbrev pub AllSix : Tables → Tables → Type 0
AllSix t u = SameRepos t u × (SameLocks t u × (SameTokens t u × (SameRetired t u × (SameUploads t u × HaveSameChunks t u))))

pub to_same : (t u : Tables) → AllSix t u → AreSame t u
to_same t u all = record { repos = all.0; locks = all.1.0; tokens = all.1.1.0; retired = all.1.1.1.0; uploads = all.1.1.1.1.0; chunks = all.1.1.1.1.1 }

pub from_same : (t u : Tables) → AreSame t u → AllSix t u
from_same t u same = (same.repos, (same.locks, (same.tokens, (same.retired, (same.uploads, same.chunks)))))

module _ {S T : Type 0} (g : Ghosts S) (h : Ghosts T) where
  pub passed : (a b : S) (u v : T) (same : Bool) (P : Tables → Tables → Type 0) → same ≡ true → Compares g h a b u v (Ok same) P → Compares g h a b u v (Ok true) P
  passed a b u v same P is p = subst (λ (x : Bool). Compares g h a b u v (Ok x) P) is p

  pub same_holds : (a c : S) (u w : T) (r : Result Bool StoreFault) → Compares g h a c u w r AreSame → r ≡ Ok true → IsHonest g c → IsHonest h w → HasTables h u → IsCurrent h u
      → (world : World) → Holds g a world → Holds h w world
  same_holds a c u w r compares ok honest honest₂ has₂ current world holds =
      let p = subst (λ x. Compares g h a c u w x AreSame) ok compares in
      let is = p.answers honest honest₂ holds.ready has₂ in
      let before = p.both.old_same.was_honest honest in
      let kept = same_represented (shown g a) (shown h u) world (is.2.0 refl) (holds.ready.marked before is.0) (current (p.both.new_same.was_honest honest₂) is.1) (holds.shows before is.0) in
      record {
        ready = p.both.new_same.ready has₂;
        laws = holds.laws;
        shows = λ _ still. subst (λ t. Represents t world) (sym (p.both.new_same.shows honest₂ has₂ still)) kept;
      }
