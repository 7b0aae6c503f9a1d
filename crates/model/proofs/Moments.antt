-- The computed text of a moment is its text.
use Rattle.std.proofs.Common.{◌≡◌, ℕ, zero, suc, ◌+◌, ◌-◌, ◌/◌, ◌%◌, ◌<◌, ◌≤◌, Bool, true, false, nat_lt, cond, refl, sym, ap, subst, ◌∙◌, arith, ℤ, pos}
use Rattle.std.proofs.lemmas.Bool.{lt-ltb, le-ltb, ltb-true, ltb-false}
use Rattle.jiff_core.specs.Calendar.{IsCivilDate, IsYear, days_from_civil, days_in_year, days_in_month, days_of_months, day_count}
use Rattle.jiff_core.proofs.SignedLemmas.{signed_arith}
use Rattle.jiff_core.proofs.CalendarLemmas.{day_count-epoch, day_count-end, days_from_civil-day_count, day_count-next_year, day_count-lt_year, day_count-day_of_year, day_of_year_bound, days_of_months_more, days_of_months-zero, days_of_months_all}
use Rattle.names.specs.Moments.{civil_text, IsMomentText}
use Rattle.model.specs.Moments.{count_off, year_and_day, month_and_day, text_in, moment_text}
use Rattle.model.specs.Laws.{MomentIsText, MomentHasText}

-- the number of days before the n + k-th unit
pub before : (ℕ → ℕ) → ℕ → ℕ → ℕ
before f n zero = 0
before f n (suc k) = f n + before f (n + 1) k

same_pair : (a b c d : ℕ) → a ≡ c → b ≡ d → ◌≡◌ {A = ℕ × ℕ} (a, b) (c, d)
same_pair a b c d e h = ap (λ (x : ℕ). (x, b)) e ∙ ap (λ (y : ℕ). (c, y)) h

now_in : (f : ℕ → ℕ) (most n d : ℕ) → nat_lt d (f n) ≡ true → count_off f (suc most) n d ≡ (n, d)
now_in f most n d e = ap (λ (b : Bool). cond b (n, d) (count_off f most (n + 1) (d - f n))) e

later_in : (f : ℕ → ℕ) (most n d : ℕ) → nat_lt d (f n) ≡ false → count_off f (suc most) n d ≡ count_off f most (n + 1) (d - f n)
later_in f most n d e = ap (λ (b : Bool). cond b (n, d) (count_off f most (n + 1) (d - f n))) e

one_more : (f : ℕ → ℕ) (most n k r : ℕ) → k ≤ most → r < f (n + k) → count_off f most n (before f n k + r) ≡ (n + k, r)
unfolding before
one_more f zero n zero r few less = same_pair n (0 + r) (n + 0) r (omega arith) (omega arith)
one_more f zero n (suc k) r few less = absurd (omega (arith, few))
one_more f (suc most) n zero r few less =
    let at : f (n + 0) ≡ f n = ap f (omega arith) in
    now_in f most n (0 + r) (lt-ltb (0 + r) (f n) (omega (arith, less, at))) ∙ same_pair n (0 + r) (n + 0) r (omega arith) (omega arith)
one_more f (suc most) n (suc j) r few less =
    let at : f (n + suc j) ≡ f (n + 1 + j) = ap f (omega arith) in
    later_in f most n (f n + before f (n + 1) j + r) (le-ltb (f n + before f (n + 1) j + r) (f n) (omega arith))
    ∙ ap (count_off f most (n + 1)) (omega arith)
    ∙ one_more f most (n + 1) j r (omega (arith, few)) (omega (arith, less, at))
    ∙ same_pair (n + 1 + j) r (n + suc j) r (omega arith) refl

years_before : (n k : ℕ) → before (λ y. days_in_year (pos y)) n k + day_count (pos n) 1 1 ≡ day_count (pos (n + k)) 1 1
unfolding before
years_before n zero = let at : day_count (pos (n + 0)) 1 1 ≡ day_count (pos n) 1 1 = ap (λ (y : ℕ). day_count (pos y) 1 1) (omega arith) in omega (arith, at)
years_before n (suc k) =
    let at : day_count (pos (n + 1 + k)) 1 1 ≡ day_count (pos (n + suc k)) 1 1 = ap (λ (y : ℕ). day_count (pos y) 1 1) (omega arith) in
    let next = day_count-next_year (pos n) (pos (n + 1)) (omega (arith, signed_arith)) (omega (arith, signed_arith)) in
    omega (arith, years_before (n + 1) k, next, at)

months_before : (y : ℤ) (i k : ℕ) → before (days_in_month y) (1 + i) k + days_of_months y i ≡ days_of_months y (i + k)
unfolding before
months_before y i zero = let at : days_of_months y (i + 0) ≡ days_of_months y i = ap (days_of_months y) (omega arith) in omega (arith, at)
months_before y i (suc k) =
    let at : days_of_months y (i + 1 + k) ≡ days_of_months y (i + suc k) = ap (days_of_months y) (omega arith) in
    let first : before (days_in_month y) (1 + (i + 1)) k ≡ before (days_in_month y) (1 + i + 1) k = ap (λ (m : ℕ). before (days_in_month y) m k) (omega arith) in
    let index : i + 1 ≡ 1 + i = omega arith in
    let here : days_in_month y (i + 1) ≡ days_in_month y (1 + i) = ap (λ (m : ℕ). days_in_month y m) index in
    let less : days_of_months y (i + 1 - 1) ≡ days_of_months y i = ap (days_of_months y) (omega arith) in
    omega (arith, months_before y (i + 1) k, days_of_months_more y (i + 1) (omega arith), at, first, here, less)

-- the years from 1970 on
since_1970 : (year month day d : ℕ) → IsCivilDate (pos year) month day → day_count (pos year) month day ≡ 4_371_953 + d → 1970 ≤ year
since_1970 year month day d date e = at (nat_lt year 1970) refl
  where
    at : (v : Bool) → nat_lt year 1970 ≡ v → 1970 ≤ year
    at false h = ltb-false year 1970 h
    at true h =
        let early = ltb-true year 1970 h in
        let less = day_count-lt_year (pos year) month day (pos 1970) 1 1 date (omega arith) (omega (arith, signed_arith, early)) in
        absurd (omega (arith, e, less, day_count-epoch))

year_is : (year month day d : ℕ) → IsCivilDate (pos year) month day → day_count (pos year) month day ≡ 4_371_953 + d
    → year_and_day d ≡ (year, days_of_months (pos year) (month - 1) + day - 1)
year_is year month day d date e =
    let from : 1970 ≤ year = since_1970 year month day d date e in
    let f : ℕ → ℕ = λ y. days_in_year (pos y) in
    let k = year - 1970 in
    let r = days_of_months (pos year) (month - 1) + day - 1 in
    let same : 1970 + k ≡ year = omega (arith, from) in
    let long : f (1970 + k) ≡ f year = ap f same in
    let at : day_count (pos (1970 + k)) 1 1 ≡ day_count (pos year) 1 1 = ap (λ (y : ℕ). day_count (pos y) 1 1) same in
    let bound = day_of_year_bound (pos year) month day date in
    let whole = day_count-day_of_year (pos year) month day date.2.0 in
    let days : before f 1970 k + r ≡ d = omega (arith, years_before 1970 k, at, whole, e, day_count-epoch, date.2.0) in
    ap year_and_day (sym days) ∙ one_more f 8029 1970 k r (omega (arith, signed_arith, date.0.1)) (omega (arith, bound, long, date.2.0)) ∙ same_pair (1970 + k) r year r same refl

month_is : (year month day : ℕ) → IsCivilDate (pos year) month day → month_and_day year (days_of_months (pos year) (month - 1) + day - 1) ≡ (month, day - 1)
month_is year month day date =
    let f : ℕ → ℕ = days_in_month (pos year) in
    let k = month - 1 in
    let same : 1 + k ≡ month = omega (arith, date.1.0) in
    let long : f (1 + k) ≡ f month = ap f same in
    let at : days_of_months (pos year) (0 + k) ≡ days_of_months (pos year) k = ap (days_of_months (pos year)) (omega arith) in
    let first : before f (1 + 0) k ≡ before f 1 k = ap (λ (m : ℕ). before f m k) (omega arith) in
    let days : before f 1 k + (day - 1) ≡ days_of_months (pos year) (month - 1) + day - 1 = omega (arith, months_before (pos year) 0 k, days_of_months-zero (pos year), at, first, date.2.0) in
    ap (month_and_day year) (sym days) ∙ one_more f 11 1 k (day - 1) (omega (arith, date.1.1)) (omega (arith, date.2.1, long, date.2.0)) ∙ same_pair (1 + k) (day - 1) month (day - 1) same refl

text_is : (year month day second : ℕ) → IsCivilDate (pos year) month day → text_in (year, days_of_months (pos year) (month - 1) + day - 1) second ≡ civil_text year month day second
text_is year month day second date =
    ap (λ (p : ℕ × ℕ). civil_text year p.0 (p.1 + 1) second) (month_is year month day date)
    ∙ ap (λ (d : ℕ). civil_text year month d second) (let one = date.2.0 in omega (arith, one))

pub moment_is_text : MomentIsText
unfolding moment_text
moment_is_text moment text is =
    let d = moment / 86400 in
    let count = days_from_civil-day_count (pos is.year) is.month is.day in
    let days : day_count (pos is.year) is.month is.day ≡ 4_371_953 + d = omega (arith, signed_arith, count, is.days) in
    is.spelled
    ∙ sym (text_is is.year is.month is.day (moment % 86400) is.date)
    ∙ ap (λ (p : ℕ × ℕ). text_in p (moment % 86400)) (sym (year_is is.year is.month is.day d is.date days))

-- ---- each moment has a text

-- the result of counting off: the n + k-th unit, and the days left in it
pub record IsCountedOff (f : ℕ → ℕ) (most n day : ℕ) (found : ℕ × ℕ) : Type 0 where
  pub k : ℕ
  pub few : k ≤ most
  pub is : found.0 ≡ n + k
  pub whole : before f n k + found.1 ≡ day
  pub less : found.1 < f (n + k)

counted_here : (f : ℕ → ℕ) (most n day : ℕ) → day < f n → IsCountedOff f most n day (n, day)
unfolding before
counted_here f most n day less =
    let at : f (n + 0) ≡ f n = ap f (omega arith) in
    record { k = 0; few = omega arith; is = omega arith; whole = omega arith; less = omega (arith, less, at) }

counted_on : (f : ℕ → ℕ) (most n day : ℕ) (found : ℕ × ℕ) → f n ≤ day → IsCountedOff f most (n + 1) (day - f n) found → IsCountedOff f (suc most) n day found
unfolding before
counted_on f most n day found past c =
    let at : f (n + 1 + c.k) ≡ f (n + suc c.k) = ap f (omega arith) in
    record { k = suc c.k; few = omega (arith, c.few); is = omega (arith, c.is); whole = omega (arith, c.whole, past); less = omega (arith, c.less, at) }

counted : (f : ℕ → ℕ) (most n day : ℕ) → day < before f n (suc most) → IsCountedOff f most n day (count_off f most n day)
unfolding before
counted f zero n day less = counted_here f 0 n day (omega (arith, less))
counted f (suc most) n day less = at (nat_lt day (f n)) refl (counted f most (n + 1) (day - f n))
  where
    at : (v : Bool) → nat_lt day (f n) ≡ v → (day - f n < before f (n + 1) (suc most) → IsCountedOff f most (n + 1) (day - f n) (count_off f most (n + 1) (day - f n)))
        → IsCountedOff f (suc most) n day (cond v (n, day) (count_off f most (n + 1) (day - f n)))
    at true e rest = counted_here f (suc most) n day (ltb-true day (f n) e)
    at false e rest = let past = ltb-false day (f n) e in counted_on f most n day (count_off f most (n + 1) (day - f n)) past (rest (omega (arith, less, past)))

-- the day of a year that has this index, counted from 0
date_in : (year r : ℕ) → IsYear (pos year) → r < days_in_year (pos year)
    → (month : ℕ) × (day : ℕ) × IsCivilDate (pos year) month day × (days_of_months (pos year) (month - 1) + day ≡ r + 1)
date_in year r is less =
    let f : ℕ → ℕ = days_in_month (pos year) in
    let from : before f (1 + 0) 12 ≡ before f 1 12 = ap (λ (m : ℕ). before f m 12) (omega arith) in
    let c = counted f 11 1 r (omega (arith, less, months_before (pos year) 0 12, days_of_months_all (pos year), days_of_months-zero (pos year), from)) in
    let q = (count_off f 11 1 r).1 in
    let first : before f (1 + 0) c.k ≡ before f 1 c.k = ap (λ (m : ℕ). before f m c.k) (omega arith) in
    let at : days_of_months (pos year) (0 + c.k) ≡ days_of_months (pos year) (1 + c.k - 1) = ap (days_of_months (pos year)) (omega arith) in (
      1 + c.k,
      q + 1,
      (is, (omega arith, omega (arith, c.few)), (omega arith, omega (arith, c.less))),
      omega (arith, c.whole, months_before (pos year) 0 c.k, days_of_months-zero (pos year), first, at),
    )

-- the date for a count of days from 1970 on, up to the year 9999
date_of : (d : ℕ) → d < 2_932_897
    → (year : ℕ) × (month : ℕ) × (day : ℕ) × IsCivilDate (pos year) month day × (days_from_civil (pos year) month day ≡ pos d)
date_of d less =
    let f : ℕ → ℕ = λ y. days_in_year (pos y) in
    let c = counted f 8029 1970 d (omega (arith, less, years_before 1970 8030, day_count-epoch, day_count-end)) in
    let year = 1970 + c.k in
    let r = (count_off f 8029 1970 d).1 in
    let date = date_in year r (omega (arith, signed_arith, c.few)) c.less in
    let count = days_from_civil-day_count (pos year) date.0 date.1 in
    let whole = day_count-day_of_year (pos year) date.0 date.1 date.2.2.0 in
    (year, date.0, date.1, date.2, omega (arith, signed_arith, count, whole, date.3, c.whole, years_before 1970 c.k, day_count-epoch))

pub moment_has_text : MomentHasText
moment_has_text moment within =
    let d = date_of (moment / 86400) (omega (arith, within)) in
    let text = civil_text d.0 d.1 d.2 (moment % 86400) in
    let is : IsMomentText moment text = record { year = d.0; month = d.1; day = d.2; date = d.3; days = d.4; spelled = refl } in
    subst (IsMomentText moment) (moment_is_text moment text is) is
