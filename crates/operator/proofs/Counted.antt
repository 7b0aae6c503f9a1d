-- What a repository uses, by the rows that the calls return.
use Rattle.operator.proofs.Prelude.{◌≡◌, ◌∙◌, ℕ, List, [], ◌∷◌, ◌++◌, Result, Ok, Err, IfOk, refl, sym, ap, subst, true, false, length, World, Reads, reads_then, ⊤, Ghosts, repo_text, UploadRow}
use Rattle.std.proofs.Common.{Bool, IsErrAnd, Option, pos, suc, ◌+◌, ◌<◌, map, filter, take, cond, get_or, Some, option_map, bytes_eq}
use Rattle.std.specs.List.{AllZip}
use Rattle.std.proofs.lemmas.List.{length-map, take_more}
use Rattle.std.proofs.lemmas.List.Sorted.{length_permutation}
use Rattle.std.proofs.lemmas.Slice.Zip.{AllZip-long}
use Rattle.policy.specs.Values.{repo_view}
use Rattle.policy.specs.declared.repos.Repo.{Repo}
use Rattle.model.specs.World.{Object}
use Rattle.model.specs.Orders.{insert_by, sort_by, text_before}
use Rattle.model.specs.RepoState.{ObjectSize, object_size, objects_of}
use Rattle.tables.specs.Rows.{Tables}
use Rattle.store.specs.Shown.{AddsNothing, HasTables, IsHonest, Moves}
use Rattle.store.specs.declared.room.Room.{Room}
use Rattle.tables.specs.declared.fault.StoreFault.{StoreFault}
use Rattle.refinement.proofs.ReadOnly.{reads_same}
use Rattle.refinement.proofs.Holding.{holds_still}
use Rattle.refinement.specs.Left.{KeepsTables}
use Rattle.uploads.specs.Listing.{IsRowOf, Lists}
use Rattle.operator.specs.Usage.{IsLine, IsLineOf, Uses, staged_size, usage_cells}
use Rattle.operator.specs.declared.counting.Usage.{Usage}

-- nothing is claimed of an error
pub none_ok : {T E : Type 0} (P : T → Type 0) (Q : E → Type 0) (r : Result T E) → IsErrAnd r Q → IfOk r P
none_ok P Q (Ok x) is = absurd is
none_ok P Q (Err e) is = tt

-- ---- objects

insert_length : {A : Type 0} (before : A → A → Bool) (x : A) (ys : List A) → length (insert_by before x ys) ≡ suc (length ys)
insert_length before x [] = refl
insert_length before x (y ∷ ys) = at (before x y) refl (insert_length before x ys)
  where
    at : (b : Bool) → before x y ≡ b → length (insert_by before x ys) ≡ suc (length ys)
        → length (cond (before x y) (x ∷ y ∷ ys) (y ∷ insert_by before x ys)) ≡ suc (suc (length ys))
    at true e rest = rw e refl
    at false e rest = rw e (ap suc rest)

sort_length : {A : Type 0} (before : A → A → Bool) (xs : List A) → length (sort_by before xs) ≡ length xs
sort_length before [] = refl
sort_length before (x ∷ xs) = insert_length before x (sort_by before xs) ∙ ap suc (sort_length before xs)

module _ {S : Type 0} (g : Ghosts S) where
  -- there are as many rows as objects
  pub objects_length : (world : World) (s : S) (repo : List ℕ) (rows : List UploadRow) → Lists g world s (Some repo) rows → length rows ≡ length (objects_of repo world)
  objects_length world s repo rows l =
      let own = filter (λ (o : Object). bytes_eq o.repo repo) world.objects in
      sym (AllZip-long (IsRowOf g s) rows l.objects l.each) ∙ sym (length_permutation l.objects own l.same)
      ∙ sym (length-map own object_size) ∙ sym (sort_length (λ (a b : ObjectSize). text_before a.name b.name) (map object_size own))

-- one more of each
zip_more : {A B : Type 0} (R : A → B → Type 0) (xs : List A) (ys : List B) (x : A) (y : B) → AllZip R xs ys → R x y → AllZip R (xs ++ x ∷ []) (ys ++ y ∷ [])
zip_more R [] [] x y p q = (q, tt)
zip_more R [] (b ∷ ys) x y p q = absurd p
zip_more R (a ∷ xs) [] x y p q = absurd p
zip_more R (a ∷ xs) (b ∷ ys) x y p q = (p.0, zip_more R xs ys x y p.1 q)

module _ {S : Type 0} (g : Ghosts S) where
  -- after calls that left the tables, a repository uses what it used
  uses_still : (a b : S) (world : World) (repo : List ℕ) (now : ℕ) (u : Usage) → HasTables g a → KeepsTables g a b → Uses g world a repo now u → Uses g world b repo now u
  uses_still a b world repo now u ready m p = record {
    objects = p.objects;
    bytes = p.bytes;
    staged = λ honest opened. subst (λ (t : Tables). option_map pos u.staged ≡ staged_size repo t) (sym (m.shows honest ready opened)) (p.staged (m.was_honest honest) (m.was_open honest opened));
    locks = p.locks;
    tokens = p.tokens;
  }

  lines_still : (a b : S) (world : World) (now : ℕ) (repos : List Repo) (lines : List (List (List ℕ))) → HasTables g a → KeepsTables g a b
      → AllZip (IsLineOf g world a now) repos lines → AllZip (IsLineOf g world b now) repos lines
  lines_still a b world now [] [] ready m p = tt
  lines_still a b world now [] (l ∷ ls) ready m p = absurd p
  lines_still a b world now (r ∷ rs) [] ready m p = absurd p
  lines_still a b world now (r ∷ rs) (l ∷ ls) ready m p =
      ((p.0.0, uses_still a b world (repo_text r.name) now p.0.0 ready m p.0.1, p.0.2), lines_still a b world now rs ls ready m p.1)

  -- one more line
  pub lines_then : (a b c : S) (now : ℕ) (repos : List Repo) (i : ℕ) (repo : Repo) (lines : List (List (List ℕ))) (usage : Usage) (line : List (List ℕ)) → i < length repos → repo ≡ get_or repos i repo
      → Reads g a b (λ world. AllZip (IsLineOf g world b now) (take i repos) lines) → Reads g b c (λ world. Uses g world c (repo_text repo.name) now usage)
      → line ≡ usage_cells (repo_text repo.name) repo.quota usage → Reads g a c (λ world. AllZip (IsLineOf g world c now) (take (i + 1) repos) (lines ++ line ∷ []))
  lines_then a b c now repos i repo lines usage line within is p q texts =
      let both = reads_then g a b c _ _ (λ _. ⊤) (λ world laws before here. tt) p q in
      let more : take (i + 1) repos ≡ take i repos ++ repo ∷ [] = take_more repos i repo within ∙ ap (λ (r : Repo). take i repos ++ r ∷ []) (sym is) in
      record {
        same = both.same;
        adds = both.adds;
        each = λ honest world h.
            let before = lines_still b c world now (take i repos) lines (p.same.ready h.ready) q.same (p.each (q.same.was_honest honest) world h) in
            let here : IsLineOf g world c now repo line = (usage, q.each honest world (holds_still g a b world p.same h), texts) in
            subst (λ (rs : List Repo). AllZip (IsLineOf g world c now) rs (lines ++ line ∷ [])) (sym more) (zip_more (IsLineOf g world c now) (take i repos) lines repo line before here);
      }

  -- the lines of repositories as the definitions have them
  pub lines_viewed : (s : S) (world : World) (now : ℕ) (repos : List Repo) (lines : List (List (List ℕ))) → AllZip (IsLineOf g world s now) repos lines → AllZip (IsLine g world s now) (map repo_view repos) lines
  lines_viewed s world now [] [] all = tt
  lines_viewed s world now [] (l ∷ ls) all = absurd all
  lines_viewed s world now (r ∷ rs) [] all = absurd all
  lines_viewed s world now (r ∷ rs) (l ∷ ls) all = (all.0, lines_viewed s world now rs ls all.1)

  -- what a call says of the file of contents, which leaves the tables
  pub room_read : (a b : S) (found : Result (Option Room) StoreFault) → Moves g (λ t. t) a b → AddsNothing g a b
      → (IsHonest g b → IfOk found (λ room. g.has_room a room)) → Reads g a b (λ _. IfOk found (λ room. g.has_room a room))
  room_read a b found same adds says = reads_same g a b (IfOk found (λ room. g.has_room a room)) same adds says

  -- the same, before another call that reads
  pub room_then : (a b c : S) (found : Result (Option Room) StoreFault) (Q : World → Type 0) → Moves g (λ t. t) a b → AddsNothing g a b
      → (IsHonest g b → IfOk found (λ room. g.has_room a room)) → Reads g b c Q
      → Reads g a c (λ world. IfOk found (λ room. g.has_room a room) × Q world)
  room_then a b c found Q same adds says q = reads_then g a b c _ _ _ (λ world laws p q. (p, q)) (room_read a b found same adds says) q
