-- The result of removing an object for good, from what its statements found and did.
use Rattle.tables.proofs.Prelude.{◌≡◌, ℕ, pos, ℤ, ◌∙◌, List, find, option_map, is_some, Option, Some, None, true, false, refl, sym, ap, Tables, Upload, is_object, upload_sized, read_object, upload_number, used_of}
use Rattle.std.specs.Prelude.{◌-ℤ◌}
use Rattle.tables.specs.declared.rows.ObjectRow.{ObjectRow}
use Rattle.tables.specs.Statements.{with_retired}
use Rattle.tables.specs.Staging.{Sized, IsObjectOf, with_used, without_upload}
use Rattle.tables.specs.Retiring.{without_object, without_found_object, after_retire}
use Rattle.tables.proofs.Recalled.{KeepsKnown, upload_keeps}

-- the tables without an object, by its id and its size
abbrev pub without_sized : List ℕ → List ℕ → Sized → Tables → Tables
without_sized repo oid o t = with_retired repo oid (with_used repo (used_of repo t -ℤ o.size) (without_upload o.id t))

pub no_object : (o : Option Upload) → IsObjectOf None o → o ≡ None
no_object None h = refl
no_object (Some u) h = absurd (let e : None ≡ Some (upload_sized u) = h in cc)

pub one_object : (row : ObjectRow) (o : Option Upload) → IsObjectOf (Some row) o → (u : Upload) × (o ≡ Some u) × (upload_sized u ≡ read_object row)
one_object row None h = absurd (let e : Some (read_object row) ≡ None = h in cc)
one_object row (Some u) h = (u, refl, let e : read_object row ≡ upload_sized u = (let e : Some (read_object row) ≡ Some (upload_sized u) = h in cc) in sym e)

module _ (repo oid : List ℕ) (t : Tables) where
  pub nothing_retired : IsObjectOf None (find (is_object repo oid) t.uploads) → (after_retire repo oid t ≡ t) × (is_some (find (is_object repo oid) t.uploads) ≡ false)
  unfolding after_retire
  nothing_retired none = let is = no_object (find (is_object repo oid) t.uploads) none in (ap (λ o. without_found_object repo oid o t) is, ap is_some is)

  pub one_retired : (row : ObjectRow) → IsObjectOf (Some row) (find (is_object repo oid) t.uploads) → (after_retire repo oid t ≡ without_sized repo oid (read_object row) t) × (is_some (find (is_object repo oid) t.uploads) ≡ true)
  unfolding after_retire without_object
  one_retired row some = let it = one_object row (find (is_object repo oid) t.uploads) some in (ap (λ o. without_found_object repo oid o t) it.1 ∙ ap (λ s. without_sized repo oid s t) it.2, ap is_some it.1)

found_keep : (repo oid : List ℕ) (o : Option Upload) → KeepsKnown (without_found_object repo oid o)
unfolding without_object with_retired with_used
found_keep repo oid None known t h = h
found_keep repo oid (Some u) known t h = upload_keeps u.id known t h

pub retire_keeps : (repo oid : List ℕ) → KeepsKnown (after_retire repo oid)
unfolding after_retire
retire_keeps repo oid known t h = found_keep repo oid (find (is_object repo oid) t.uploads) known t h
