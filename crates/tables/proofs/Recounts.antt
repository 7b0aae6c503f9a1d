-- The result of removing an object whose bytes are damaged, from what its statements found and did.
use Rattle.tables.proofs.Prelude.{◌≡◌, ℕ, ℤ, suc, arith, List, ◌∷◌, [], map, take, length, get_or, subst, sym, ap, ◌∙◌, Option, Some, None, find, Tables, Upload, is_object, show_upload, upload_number, element}
use Rattle.std.proofs.Common.{◌<◌, ◌+◌}
use Rattle.std.specs.Prelude.{◌+ℤ◌}
use Rattle.sqlite.specs.Order.{Row}
use Rattle.sqlite_keyed.proofs.SumLemmas.{sum_of-push}
use Rattle.tables.specs.declared.rows.ObjectRow.{ObjectRow}
use Rattle.tables.specs.Staging.{Sized, IsObjectOf, with_used, without_upload}
use Rattle.tables.specs.Discarding.{sizes_sum, recounted, without_discarded, after_discard}
use Rattle.tables.proofs.Recalled.{KeepsKnown, upload_keeps}
use Rattle.tables.proofs.Removals.{no_object, one_object}

-- the size in one more row is added
pub one_more_size : (rows : List Row) (us : List Upload) (i : ℕ) (row : Row) (size : ℤ) → rows ≡ map show_upload us → i < length rows → row ≡ get_or rows i row
    → ((u : Upload) → row ≡ show_upload u → size ≡ u.size) → sizes_sum (take i us) +ℤ size ≡ sizes_sum (take (i + 1) us)
one_more_size rows us i row size all within at reads =
    let here = element show_upload (λ (u : Upload). u) (λ (u : Upload). u) row us i (subst (λ l. i < length l) all within) in
    let is : row ≡ show_upload here.0 = at ∙ ap (λ l. get_or l i row) all ∙ here.1 in
    let next : suc i ≡ i + 1 = omega arith in
    ap (λ n. sizes_sum (take i us) +ℤ n) (reads here.0 is) ∙ sym (sum_of-push (λ (u : Upload). u.size) (take i us) here.0) ∙ ap sizes_sum (sym here.2 ∙ ap (λ n. take n us) next)

module _ (repo oid : List ℕ) (t : Tables) where
  pub nothing_discarded : IsObjectOf None (find (is_object repo oid) t.uploads) → after_discard repo oid t ≡ t
  unfolding after_discard
  nothing_discarded none = ap (λ o. without_discarded repo o t) (no_object (find (is_object repo oid) t.uploads) none)

  pub one_discarded : (row : ObjectRow) → IsObjectOf (Some row) (find (is_object repo oid) t.uploads) → after_discard repo oid t ≡ recounted repo (without_upload (upload_number row.id) t)
  unfolding after_discard
  one_discarded row some =
      let it = one_object row (find (is_object repo oid) t.uploads) some in
      ap (λ o. without_discarded repo o t) it.1 ∙ ap (λ (s : Sized). recounted repo (without_upload s.id t)) it.2

found_keep : (repo : List ℕ) (o : Option Upload) → KeepsKnown (without_discarded repo o)
unfolding recounted with_used
found_keep repo None known t h = h
found_keep repo (Some u) known t h = upload_keeps u.id known t h

pub discard_keeps : (repo oid : List ℕ) → KeepsKnown (after_discard repo oid)
unfolding after_discard
discard_keeps repo oid known t h = found_keep repo (find (is_object repo oid) t.uploads) known t h
