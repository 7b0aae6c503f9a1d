-- How a split at slashes and a search for two dots decide whether a text is a name.
use Rattle.std.proofs.Common.{◌≡◌, ℕ, ◌<◌, Bool, true, false, ◌&&◌, ◌||◌, List, [], ◌∷◌, ◌++◌, length, get_or, inl, inr, ◌⊎◌, ◌≤◌, refl, sym, ap, ◌∙◌, arith, cond, ◌==◌, ◌↔◌, codes}
use Rattle.std.specs.List.{onto_first, list_all, position_or_len, before_first, after_first}
use Rattle.std.specs.Str.Iter.{HasSubslice}
use Rattle.std.proofs.lemmas.Bool.{cases_lt, cases_Bool, eqb-true, and_right, false≢true}
use Rattle.std.proofs.lemmas.Bool.Decides.{Decides-eqb}
use Rattle.std.proofs.lemmas.List.Folds.{list_all_at}
use Rattle.std.proofs.lemmas.List.Splits.{slice_split_first, slice_split_none}
use Rattle.std.proofs.lemmas.List.Sums.{fails_before_first, passes_at_first, prefix_len-le-length}
use Rattle.std.proofs.lemmas.Slice.Eq.{starts_is}
use Rattle.std.proofs.Math.Bool.{or-true}
use Rattle.std.proofs.Math.Nat.{le_antisymm}
use Rattle.std.specs.Prelude.{not}
use Rattle.names.specs.Texts.{between, parts, begins, has_two_dots, is_name_byte, is_user, is_repo, are_owner_and_name}

abbrev is_slash : ℕ → Bool
is_slash b = b == 47

cut_at_slash : (text : List ℕ) → position_or_len is_slash text < length text
    → parts text ≡ before_first is_slash text ∷ parts (after_first is_slash text)
cut_at_slash text has = slice_split_first is_slash text 0 has

one_part : (text : List ℕ) → position_or_len is_slash text ≡ length text → parts text ≡ text ∷ []
one_part text none = slice_split_none is_slash text (λ k d h. fails_before_first is_slash text k d (omega (arith, h, none)))

onto_some : (b : ℕ) (cut : List (List ℕ)) → (a : List ℕ) × (more : List (List ℕ)) × (onto_first b cut ≡ a ∷ more)
onto_some b [] = (b ∷ [], [], refl)
onto_some b (p ∷ ps) = (b ∷ p, ps, refl)

has_part : (text : List ℕ) → (a : List ℕ) × (more : List (List ℕ)) × (parts text ≡ a ∷ more)
has_part [] = ([], [], refl)
has_part (b ∷ text) = at (is_slash b) (onto_some b (parts text))
  where
    at : (v : Bool) → (a : List ℕ) × (more : List (List ℕ)) × (onto_first b (parts text) ≡ a ∷ more)
        → (a : List ℕ) × (more : List (List ℕ)) × (cond v ([] ∷ parts text) (onto_first b (parts text)) ≡ a ∷ more)
    at true o = ([], parts text, refl)
    at false o = o

slash_is_none : (b : ℕ) → is_slash b ≡ true → is_name_byte b ≡ false
slash_is_none b e = ap is_name_byte (eqb-true b 47 e)

none_is : (text : List ℕ) → length text ≤ position_or_len is_slash text → position_or_len is_slash text ≡ length text
none_is text none = le_antisymm (prefix_len-le-length (λ b. not (is_slash b)) text) none

-- a user's name has no slash
no_user : (text : List ℕ) → position_or_len is_slash text < length text → is_user text ≡ false
no_user text has =
    let place = position_or_len is_slash text in
    let other = list_all_at is_name_byte text place 0 has (slash_is_none (get_or text place 0) (passes_at_first is_slash text 0 has)) in
    and_right (between 1 40 (length text)) (list_all is_name_byte text) other

-- if the rest is a name, it is the second part
owner_and_rest : (owner name : List ℕ) → are_owner_and_name (owner ∷ parts name) ≡ (is_user owner && is_user name)
owner_and_rest owner name = at (cases_lt (position_or_len is_slash name) (length name))
  where
    at : (position_or_len is_slash name < length name) ⊎ (length name ≤ position_or_len is_slash name)
        → are_owner_and_name (owner ∷ parts name) ≡ (is_user owner && is_user name)
    at (inl has) =
        let more = has_part (after_first is_slash name) in
        ap are_owner_and_name (ap (λ l. owner ∷ l) (cut_at_slash name has ∙ ap (λ l. before_first is_slash name ∷ l) more.2))
        ∙ sym (and_right (is_user owner) (is_user name) (no_user name has))
    at (inr none) = ap are_owner_and_name (ap (λ l. owner ∷ l) (one_part name (none_is name none)))

pub repo_none : (text : List ℕ) → position_or_len is_slash text ≡ length text → is_repo text ≡ false
repo_none text none = ap are_owner_and_name (one_part text none)

pub repo_cut : (text owner name : List ℕ)
    → (position_or_len is_slash text < length text) × (owner ≡ before_first is_slash text) × (name ≡ after_first is_slash text)
    → is_repo text ≡ (is_user owner && is_user name)
repo_cut text owner name cut =
    ap are_owner_and_name (cut_at_slash text cut.0) ∙ owner_and_rest (before_first is_slash text) (after_first is_slash text) ∙ (cc)

-- ---- two dots

dots_stand : (front rest : List ℕ) → has_two_dots (front ++ (codes ".." ++ rest)) ≡ true
dots_stand [] rest = refl
dots_stand (b ∷ front) rest = ap (λ v. begins (codes "..") (b ∷ front ++ (codes ".." ++ rest)) || v) (dots_stand front rest) ∙ or-true _

begins_or_later : (b : ℕ) (text : List ℕ) → (has_two_dots text ≡ true → HasSubslice text (codes ".."))
    → (v : Bool) → begins (codes "..") (b ∷ text) ≡ v → (v || has_two_dots text) ≡ true → HasSubslice (b ∷ text) (codes "..")
begins_or_later b text later true here e = ([], _, (starts_is Decides-eqb (b ∷ text) (codes "..") _ refl).0 here)
begins_or_later b text later false here e = let more = later e in (b ∷ more.0, more.1, ap (λ l. b ∷ l) more.2)

dots_found : (text : List ℕ) → has_two_dots text ≡ true → HasSubslice text (codes "..")
dots_found [] e = absurd (cc)
dots_found (b ∷ text) e = begins_or_later b text (dots_found text) (begins (codes "..") (b ∷ text)) refl e

pub dots_are : (found : Bool) (text : List ℕ) → (found ≡ true) ↔ HasSubslice text (codes "..") → found ≡ has_two_dots text
dots_are true text h = let at = h.0 refl in sym (ap has_two_dots at.2 ∙ dots_stand at.0 at.1)
dots_are false text h = at (cases_Bool (has_two_dots text))
  where
    at : (has_two_dots text ≡ true) ⊎ (has_two_dots text ≡ false) → false ≡ has_two_dots text
    at (inl e) = absurd (false≢true (h.1 (dots_found text e)))
    at (inr e) = sym e
