-- An empty file has no table.
use Rattle.typed_rows.proofs.Prelude.{◌≡◌, ℕ, ◌<◌, ◌≤◌, false, true, List, [], ◌∷◌, ◌++◌, codes, length, take, slice_index, Option, Some, unwrap_or, inl, inr, refl, sym, ap, ◌∙◌, arith, get_or-take, AllZip, IsTableRow, IsIndexRow, IsViewRow, is_table_row, is_index_row, is_view_row, Database, Opens, IsLive}
use Rattle.std.proofs.Common.{filter}
use Rattle.std.proofs.lemmas.List.{length-take}
use Rattle.std.proofs.Math.Logic.{∥∥₁_elim}
use Rattle.sqlite_pages.specs.PageMap.{PageMap}
use Rattle.sqlite_wal.specs.Recovery.{Image}
use Rattle.sqlite_wal.proofs.CreateLemmas.{begun_is_not_blank}
use Rattle.sqlite_wal.proofs.AppendLemmas.{some_value}
use Rattle.sqlite_pool.specs.Stored.{stored_size, used_size, sealed, Adopts}
use Rattle.sqlite_pool.specs.StoredLaws.{trimmed_some}
use Rattle.sqlite_pool.specs.Header.{first_page}
use Rattle.sqlite_pool.specs.File.{header_in, IsSoundFile}
use Rattle.sqlite_pool.proofs.ProbeLemmas.{first_byte}
use Rattle.sqlite_trees.specs.Tree.{Trees}
use Rattle.sqlite_trees.specs.Objects.{catalog_tree}
use Rattle.sqlite.specs.State.{State}
use Rattle.sqlite.specs.Files.{IsNothing, IsEmpty, AreFoundIn}
use Rattle.sqlite.specs.Start.{FindsIn}

-- the first page of a database begins with the S of SQLite
is_some_database : (size : ℕ) (image : Image) (pages : PageMap) → Adopts size image pages → IsSoundFile size pages → ¬ IsNothing image
is_some_database size image pages found sound nothing =
    let (page, is) = some_value (found.stored 1) found.whole.first in
    let len = found.whole.sized 1 page is in
    let used : pages 1 ≡ Some (take size page) = ap (λ (p : PageMap). p 1) (sym found.shows) ∙ trimmed_some size _ 1 page is in
    let head : header_in pages ≡ take 100 (take size page) = ap (λ (o : Option (List ℕ)). take 100 (unwrap_or o [])) used in
    let magic : take 16 (take 100 (take size page)) ≡ codes "SQLite format 3" ++ 0 ∷ [] = ap (take 16) (sym head) ∙ sound.header.0.magic in
    let whole : length (take 16 (take 100 (take size page))) ≡ 16 = ap length magic in
    let large : 16 ≤ length (take 100 (take size page)) = omega (arith, whole, length-take 16 (take 100 (take size page))) in
    let larger : 16 ≤ length (take size page) = omega (arith, large, length-take 100 (take size page)) in
    let sized : 16 ≤ size = omega (arith, larger, length-take size page) in
    let big : 16 ≤ length page = omega (arith, larger, length-take size page) in
    let byte : slice_index page 0 ≡ 83 =
    sym (get_or-take size page 0 0 (omega arith)) ∙ sym (get_or-take 100 (take size page) 0 0 (omega arith)) ∙ sym (get_or-take 16 (take 100 (take size page)) 0 0 (omega arith)) ∙ ap (λ (b : List ℕ). slice_index b 0) magic in
    let never = λ (other : ℕ) (some : 0 < other). let gate = first_byte other some in
    begun_is_not_blank (sealed (first_page other)) page (stored_size size) image found.stored found.found is len (omega (arith, len, big)) (byte ∙ sym gate) (λ none. let zero = sym gate ∙ none in omega arith) in
    elim nothing [ inl plain ↦ never (used_size 4096 false) (omega arith) plain | inr summed ↦ never (used_size 4096 true) (omega arith) summed ]

none_found : (image : Image) (db : Trees) → IsNothing image → AreFoundIn image db → IsEmpty db
none_found image db nothing (inr blank) = blank.1
none_found image db nothing (inl held) = absurd (∥∥₁_elim held.4 (λ a b. absurd a) (λ ours. is_some_database held.0 image held.1 held.3 ours.file.sound nothing))

none_left : {A B : Type 0} (P : A → B → Type 0) (xs : List A) (ys : List B) → xs ≡ [] → AllZip P xs ys → ys ≡ []
none_left P [] [] e h = refl
none_left P [] (y ∷ ys) e h = absurd h
none_left P (x ∷ xs) ys e h = absurd (let a : x ∷ xs ≡ [] = e in cc)

-- an open of an empty file finds no table
pub no_table_in : (image : Image) (s : State) → IsNothing image → FindsIn image s → Opens s → IsLive s → s.now.schema ≡ record { tables = []; indexes = []; views = [] }
no_table_in image s nothing found opens live =
    let listed = (live opens.is_open).0.lists.listed in
    let none : s.now.trees catalog_tree ≡ [] = ap (λ (d : Database). d.trees catalog_tree) opens.clean ∙ (none_found image s.committed.trees nothing found.reads).1 in
    let tables = none_left IsTableRow _ _ (ap (filter is_table_row) none) listed.tables in
    let indexes = none_left (IsIndexRow s.now.schema.tables) _ _ (ap (filter is_index_row) none) listed.indexes in
    let views = none_left IsViewRow _ _ (ap (filter is_view_row) none) listed.views in
    λ i. record { tables = tables i; indexes = indexes i; views = views i }
