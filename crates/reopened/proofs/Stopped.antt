-- What a stop leaves of a database and of its file of contents represents one of the worlds of the store's bound.
use Rattle.std.proofs.Common.{◌≡◌, ℕ, ℤ, pos, inl, inr, IsTrue, Bool, true, false, cond, List, [], ◌∷◌, refl, sym, ap, subst, ◌∙◌}
use Rattle.std.proofs.Math.Logic.{∥∥₁_map}
use Rattle.std.specs.Ordering.{int_eq}
use Rattle.sqlite_disk.specs.declared.Disk as disk
use Rattle.sqlite_catalog.specs.Listing.{IsSound}
use Rattle.sqlite_keyed.proofs.KeyedLemmas.{same_int}
use Rattle.sqlite_trees.specs.Tree.{Trees}
use Rattle.sqlite_wal.specs.Recovery.{Image}
use Rattle.sqlite_store.specs.declared.store.FileStore.{FileStore}
use Rattle.sqlite_store.specs.FileStore as files
use Rattle.sqlite.specs.Files.{over_files}
use Rattle.sqlite.proofs.Theorems.{opens_again}
use Rattle.model.specs.Bounds.{Bound}
use Rattle.tables.specs.Layout.{current, number_of, version_three}
use Rattle.tables.specs.Rows.{Meta, Tables, tables_of, tables_under}
use Rattle.tables.specs.Runs.{current_meta, meta_of}
use Rattle.tables.specs.declared.Store.{Store}
use Rattle.tables.specs.declared.layout.Layout.TheVariants.{Places}
use Rattle.tables.proofs.Marked.{kept_marked}
use Rattle.tables.proofs.Numbers.{all_with_number}
use Rattle.tables.proofs.Opened.{kept_is_sound}
use Rattle.store.specs.Database.{alone}
use Rattle.store.specs.Normal.{AreMarked, normal, settled}
use Rattle.store.specs.Shown.{IsHonest, Leaves}
use Rattle.placed.specs.Placed.{AreHonest, beside}
use Rattle.placed.specs.View.{shown_meta, shown_number, view}
use Rattle.placed.specs.declared.placed.Placed.{Placed}
use Rattle.refinement.specs.Left.{IsAmong, IsBoundedBy}
use Rattle.reopened.specs.Opening.{AreAmongWith, HoldAmong}

-- ---- the number of the database

-- tables that represent one of these worlds have the number of version 2
among_number : (t : Tables) (bound : Bound) → IsAmong t bound → t.meta ≡ current_meta ∷ []
among_number t [] none = absurd none
among_number t (world ∷ bound) (inl here) = here.1.meta
among_number t (world ∷ bound) (inr rest) = among_number t bound rest

-- only the number of version 3 is shown as that of version 2
shown_three : (n : ℤ) → shown_number n ≡ pos (number_of current) → n ≡ pos (number_of version_three)
shown_three n is = at (int_eq n (pos (number_of version_three))) refl is
  where
    at : (b : Bool) → int_eq n (pos (number_of version_three)) ≡ b
        → cond b (pos (number_of current)) (pos 0) ≡ pos (number_of current) → n ≡ pos (number_of version_three)
    at true same e = same_int n (pos (number_of version_three)) same
    at false other e = absurd (cc)

numbered_three : (ms : List Meta) → shown_meta ms ≡ current_meta ∷ [] → ms ≡ meta_of version_three ∷ []
numbered_three [] is = absurd (cc)
numbered_three (m ∷ []) is =
    let shown : ◌≡◌ {A = Meta} (record m { version = shown_number m.version }) current_meta = cc in
    let number = shown_three m.version (ap (λ (k : Meta). k.version) shown) in
    ap (λ (k : Meta). k ∷ []) (
    ap (λ (n : ℤ). record { one = m.one; version = n }) number
    ∙ ap (λ (k : Meta). record { one = k.one; version = pos (number_of version_three) }) shown
    )
numbered_three (m ∷ n ∷ ms) is = absurd (cc)

viewed_number : (file : List ℕ) (t : Tables) → (settled (view file [] t)).meta ≡ current_meta ∷ []
    → t.meta ≡ meta_of version_three ∷ []
unfolding view
viewed_number file t is = numbered_three t.meta is

viewed_marked : (file : List ℕ) (t : Tables) → AreMarked t → AreMarked (settled (view file [] t))
unfolding view
viewed_marked file t marked = marked

-- ---- what a stop leaves

module _ {D C : Type 0} {g : disk.Ghosts D} (d : disk.Ghosts C) (s : Placed (Store (FileStore D g)) C) (bound : Bound)
    (honest : AreHonest (alone over_files) d s)
    (b : IsBoundedBy (beside (alone over_files) d) s bound) (file : List ℕ) (may_file : d.may_leave s.disk file) where
  sound_with : (db : Trees) → files.recovers s.rows.conn.store db → AreAmongWith db file bound
  sound_with db found =
      let kept = b.safe honest db found in
      let rows = normal (tables_of kept.0) in
      let by_rows : Leaves (alone over_files) s.rows rows =
      ((tables_of kept.0, (kept.0, kept.1, subst (files.recovers s.rows.conn.store) kept.2 found, refl), refl), kept_marked kept.0 kept.1) in
      let left : Leaves (beside (alone over_files) d) s (settled (view file [] rows)) =
      (record { rows = rows; file = file; by_rows = by_rows; by_file = may_file; is = refl }, viewed_marked file rows by_rows.1) in
      let among : IsAmong (settled (view file [] rows)) bound = b.among honest (settled (view file [] rows)) left in
      let three = viewed_number file rows (among_number (settled (view file [] rows)) bound among) in (
        kept.0.schema,
        all_with_number Places kept.0 kept.1 three,
        subst (IsSound kept.0.schema) (sym kept.2) (kept_is_sound kept.0 kept.1),
        subst (λ (t : Trees). IsAmong (settled (view file [] (normal (tables_under kept.0.schema t)))) bound) (sym kept.2) among,
      )

  -- the next open can read what a stop leaves of both
  pub left_both : IsTrue (files.view s.rows.conn.store).is_numbered → (image : Image)
      → (files.state s.rows.conn.store).may_leave image → HoldAmong image file bound
  left_both numbered image may =
      ∥∥₁_map (opens_again s.rows.conn.store numbered (λ db found. let it = sound_with db found in (it.0, it.2)) image may)
      (λ db. (db.0, db.2, sound_with db.0 db.1))
