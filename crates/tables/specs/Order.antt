-- The order of the rows that a store has committed.
use Rattle.std.specs.Prelude.{◌≡◌, IsTrue}
use Rattle.std.proofs.Common.{ap, subst}
use Rattle.std.proofs.Math.Logic.{∥∥₁_elim}
use Rattle.sqlite_disk.specs.declared.Disk.{Ghosts}
use Rattle.sqlite_wal.proofs.StateLemmas.{clean_of}
use Rattle.sqlite_trees.specs.Tree.{Trees}
use Rattle.sqlite_trees.specs.View.{View, IsOrdered}
use Rattle.sqlite_trees.specs.Objects.{catalog_tree, IsListed}
use Rattle.sqlite_trees.specs.Props.{IsOrdered-prop}
use Rattle.sqlite_trees.specs.declared.memory.MemStore.{MemStore}
use Rattle.sqlite_trees.specs.Memory.{memory_view, memory_is_ordered, memory_is_listed, memory_is_unaltered}
use Rattle.sqlite_store.specs.declared.store.FileStore.{FileStore}
use Rattle.sqlite_store.specs.FileStore.{state, view}
use Rattle.sqlite_store.specs.Saved.{kept_schema}
use Rattle.sqlite_store.specs.Listed.{catalog_rows, is_listed}
use Rattle.sqlite_store.proofs.ListingLemmas.{all_ordered}

-- the rows of each table are in the order of their rowids, and the catalog lists each tree with its shape
pub record IsInOrder (v : View) : Type 0 where
  pub ordered : IsOrdered v.committed_shape v.committed
  pub listed : IsListed (v.committed catalog_tree) v.committed_shape v.committed_reals

-- a store in memory that committed all its changes is in order
pub memory_in_order : (s : MemStore) → (memory_view s).trees ≡ (memory_view s).committed → IsInOrder (memory_view s)
memory_in_order s same =
    let v = memory_view s in
    let shapes = memory_is_unaltered s (ap (λ (t : Trees). t catalog_tree) same) in
    record {
      ordered = subst (λ shape. IsOrdered shape v.committed) shapes.0 (subst (IsOrdered v.shape) same (memory_is_ordered s));
      listed = subst (λ reals. IsListed (v.committed catalog_tree) v.committed_shape reals) shapes.1
          (subst (λ shape. IsListed (v.committed catalog_tree) shape v.reals) shapes.0 (subst (λ (t : Trees). IsListed (t catalog_tree) v.shape v.reals) same (memory_is_listed s)));
    }

-- an open store over files is in order
pub files_in_order : {D : Type 0} {g : Ghosts D} (s : FileStore D g) → IsTrue (view s).is_open → IsInOrder (view s)
files_in_order s is_open = record {
  ordered = rw (clean_of (state s) is_open) (∥∥₁_elim (s.stored is_open) (IsOrdered-prop _ _) (λ stored. all_ordered stored.ours.file.db _));
  listed = rw (clean_of (state s) is_open, catalog_rows (state s).page_size (kept_schema s.saved s.schema.items) _) (is_listed (kept_schema s.saved s.schema.items));
}
