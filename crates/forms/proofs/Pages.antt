-- The JSON of several locks.
use Rattle.forms.proofs.Prelude.{◌≡◌, ℕ, false, List, [], ◌∷◌, map, Option, Some, None, refl, sym, ap, ◌∙◌, Bor, Data, array, item, compact_text, has_float, items_have_float, items_of, lock_data, locks_data, list_json, split_json, reply_of, json, IsOf, AreOf, lock_shown, page_shown, split_data, split_shown, ShownLock}
use Rattle.serde_json.specs.View as view
use Rattle.model.specs.World.{Lock}
use Rattle.model.specs.Answers.{Page}
use Rattle.model.specs.Answers as model
use Rattle.forms.specs.Replies.{IsPageOf, IsSplitOf, IsAnswer}
use Rattle.forms.specs.declared.answer.Answer.TheVariants.{Listed, Split}
use Rattle.forms.specs.declared.page.ShownPage.{ShownPage}
use Rattle.forms.specs.declared.page.SplitPage.{SplitPage}

pub items_are : (values : List Data) → view.items_of values ≡ items_of values
items_are [] = refl
items_are (value ∷ values) = ap (item value) (items_are values)

-- ---- no lock has a float, so the text of its JSON is known

locks_have_none : (locks : List Lock) → items_have_float (items_of (map lock_data locks)) ≡ false
locks_have_none [] = refl
locks_have_none (l ∷ locks) = locks_have_none locks

pub list_has_none : (page : Page) → has_float (list_json page) ≡ false
list_has_none page = at page.next
  where
    at : (next : Option ℕ) → has_float (list_json (record { locks = page.locks; next = next })) ≡ false
    at None = rw (locks_have_none page.locks) refl
    at (Some id) = rw (locks_have_none page.locks) refl

pub split_has_none : (next : Option ℕ) (ours theirs : List Lock) → has_float (split_data next ours theirs) ≡ false
split_has_none None ours theirs = rw (locks_have_none ours, locks_have_none theirs) refl
split_has_none (Some id) ours theirs = rw (locks_have_none ours, locks_have_none theirs) refl

-- ---- the shown locks have the JSON of the locks that they show

lock_same : (shown : ShownLock) (l : Lock) → IsOf shown l → lock_data (lock_shown shown) ≡ lock_data l
lock_same shown l is = rw (is.id, is.at, is.owner, is.path) refl

each_same : (shown : List ShownLock) (locks : List Lock) → AreOf shown locks → map lock_data (map lock_shown shown) ≡ map lock_data locks
each_same [] [] is = refl
each_same [] (l ∷ locks) is = absurd is
each_same (one ∷ shown) [] is = absurd is
each_same (one ∷ shown) (l ∷ locks) is =
    ap (λ d. d ∷ map lock_data (map lock_shown shown)) (lock_same one l is.0) ∙ ap (λ ds. lock_data l ∷ ds) (each_same shown locks is.1)

pub locks_same : (shown : List ShownLock) (locks : List Lock) → AreOf shown locks → locks_data (map lock_shown shown) ≡ locks_data locks
locks_same shown locks is = ap (λ ds. array (items_of ds)) (each_same shown locks is)

page_same : (shown : ShownPage) (page : Page) → IsPageOf shown page → list_json (page_shown shown) ≡ list_json page
page_same shown page is = rw (locks_same shown.locks.now page.locks is.0, is.1) refl

split_same : (shown : SplitPage) (user : List ℕ) (page : Page) → IsSplitOf shown user page → split_shown shown ≡ split_json user page
split_same shown user page is =
    rw (locks_same shown.ours.now _ is.0, locks_same shown.theirs.now _ is.1, is.2) refl

-- the body of a page is that of the answer that it represents
pub listed : (shown : Bor ShownPage) (given : model.Answer) (text : List ℕ) → text ≡ compact_text (list_json (page_shown shown.now)) → IsAnswer (Listed shown) given
    → (reply_of given).body ≡ json text
listed shown given text is (page, of, same) =
    rw same (ap (λ d. json (compact_text d)) (sym (page_same shown.now page of)) ∙ ap json (sym is))

pub split : (shown : Bor SplitPage) (given : model.Answer) (text : List ℕ) → text ≡ compact_text (split_shown shown.now) → IsAnswer (Split shown) given
    → (reply_of given).body ≡ json text
split shown given text is (user, page, of, same) =
    rw same (ap (λ d. json (compact_text d)) (sym (split_same shown.now user page of)) ∙ ap json (sym is))
