-- The objects among the uploads that were listed, and the first of them.
use Rattle.std.proofs.Common.{◌≡◌, ◌∙◌, ℕ, pos, Bool, true, false, List, map, filter, length, take, refl, sym, ap}
use Rattle.std.specs.Bool.{Decides}
use Rattle.std.specs.Ordering.{int_eq}
use Rattle.std.proofs.lemmas.Bool.Decides.{Decides-like}
use Rattle.std.proofs.lemmas.List.{length-map, take-map}
use Rattle.sqlite_keyed.proofs.ListLemmas.{filter-map, filter_same, map_back}
use Rattle.tables.specs.Rows.{Tables, Upload}
use Rattle.tables.specs.Listing.{AreMarkedOf, MarkedFields, mark_of, marked_fields, read_marked}
use Rattle.tables.specs.declared.rows.MarkedUpload.{MarkedUpload}
use Rattle.moving.specs.Moving.{Continues, objects_in}

marked : (b : Bool) → int_eq (mark_of b) (pos 1) ≡ b
marked true = refl
marked false = refl

-- the listed uploads that are complete are the objects
pub objects_listed : (found : List MarkedUpload) (t : Tables) → AreMarkedOf found t.uploads
    → AreMarkedOf (filter (λ m. m.is_complete) found) (objects_in t)
objects_listed found t are =
    let is_marked : MarkedFields → Bool = λ f. int_eq f.done (pos 1) in
    ap (map read_marked) (filter_same (λ (m : MarkedUpload). m.is_complete) (λ m. is_marked (read_marked m)) (λ m. sym (marked m.is_complete)) found)
    ∙ sym (filter-map is_marked read_marked found) ∙ ap (filter is_marked) are ∙ filter-map is_marked marked_fields t.uploads

-- the columns of an upload make it
upload_from : MarkedFields → Upload
upload_from f = record { id = f.upload.id; repo = f.upload.repo; oid = f.upload.oid; size = f.upload.size; done = f.done }

same_uploads : (us ws : List Upload) → map marked_fields us ≡ map marked_fields ws → us ≡ ws
unfolding upload_from
same_uploads us ws same =
    sym (map_back marked_fields upload_from (λ _. refl) us) ∙ ap (map upload_from) same ∙ map_back marked_fields upload_from (λ _. refl) ws

-- the listed uploads are the first objects exactly if a copy can be continued
pub first_decided : (answer : Bool) (copied objects xs ys : List MarkedUpload) (n : ℕ) (t u : Tables) → AreMarkedOf objects (objects_in t)
    → AreMarkedOf copied u.uploads → n ≡ length copied → xs ≡ copied → ys ≡ take n objects
    → Decides answer (map read_marked xs ≡ map read_marked ys) → Decides answer (Continues t u)
first_decided answer copied objects xs ys n t u ours theirs len is_copied is_first =
    let count : n ≡ length u.uploads =
    len ∙ sym (length-map copied read_marked) ∙ ap length theirs ∙ length-map u.uploads marked_fields in
    let all = ap (map read_marked) is_copied ∙ theirs in
    let first : map read_marked ys ≡ map marked_fields (take (length u.uploads) (objects_in t)) =
    ap (map read_marked) is_first
    ∙ sym (take-map read_marked n objects)
    ∙ ap (take n) ours
    ∙ take-map marked_fields n (objects_in t)
    ∙ ap (λ k. map marked_fields (take k (objects_in t))) count in
    Decides-like answer (λ same. same_uploads u.uploads (take (length u.uploads) (objects_in t)) (sym all ∙ same ∙ first))
    (λ same. all ∙ ap (map marked_fields) same ∙ sym first)
