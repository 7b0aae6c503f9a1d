-- A reply to a client, in the terms of the definitions.
use Rattle.std.specs.Prelude.{◌≡◌, ℕ, List, not, filter, Ok, Err}
use Rattle.model.specs.World.{Lock}
use Rattle.model.specs.Callers.{is_own}
use Rattle.model.specs.Answers.{Page, by_rule, by_row, by_lock, offers, makes_lock, lists, splits, releases}
use Rattle.model.specs.Answers as model
use Rattle.forms.specs.declared.answer.Answer.{Answer}
use Rattle.forms.specs.declared.answer.Answer.TheVariants.{Offered, Locked, Held, Listed, Split, Released, Denied, DeniedByRow}
use Rattle.forms.specs.declared.answer.DenialStatus.{DenialStatus}
use Rattle.forms.specs.declared.answer.DenialStatus.TheVariants.{Forbidden, NotFound}
use Rattle.forms.specs.declared.page.ShownPage.{ShownPage}
use Rattle.forms.specs.declared.page.SplitPage.{SplitPage}
use Rattle.forms.specs.ShownLocks.{IsOf, AreOf}
use Rattle.forms.specs.Offers.{offers_shown}

-- the status of a denial by the policy
abbrev pub denial_status : DenialStatus → ℕ
denial_status Forbidden = 403
denial_status NotFound = 404

-- the shown page has these locks and this next lock
abbrev pub IsPageOf : ShownPage → Page → Type 0
IsPageOf shown page = AreOf shown.locks.now page.locks × (page.next ≡ shown.next)

-- the shown page has the user's own locks of this page, the other locks of it, and its next lock
abbrev pub IsSplitOf : SplitPage → List ℕ → Page → Type 0
IsSplitOf shown user page =
    AreOf shown.ours.now (filter (is_own user) page.locks)
    × AreOf shown.theirs.now (filter (λ l. not (is_own user l)) page.locks)
    × (page.next ≡ shown.next)

-- the code's answer represents this answer of the definitions
abbrev pub IsAnswer : Answer → model.Answer → Type 0
IsAnswer (Offered batch) given = given ≡ Ok (offers (offers_shown batch.now))
IsAnswer (Locked shown) given = (l : Lock) × IsOf shown.now l × (given ≡ Ok (makes_lock l))
IsAnswer (Held shown) given = (l : Lock) × IsOf shown.now l × (given ≡ Err (by_lock l))
IsAnswer (Listed shown) given = (page : Page) × IsPageOf shown.now page × (given ≡ Ok (lists page))
IsAnswer (Split shown) given =
    (user : List ℕ) × (page : Page) × IsSplitOf shown.now user page × (given ≡ Ok (splits user page))
IsAnswer (Released shown) given = (l : Lock) × IsOf shown.now l × (given ≡ Ok (releases l))
IsAnswer (Denied rule) given = given ≡ Err (by_rule rule)
IsAnswer (DeniedByRow row right status) given = given ≡ Err (by_row row right (denial_status status))
