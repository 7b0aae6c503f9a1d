-- The text of a moment, computed: the days are counted off in years, and then in months.
use Rattle.std.specs.Prelude.{ℕ, zero, suc, ◌+◌, ◌-◌, ◌/◌, ◌%◌, List, nat_lt, if◌then◌else◌, pos}
use Rattle.jiff_core.specs.Calendar.{days_in_year, days_in_month}
use Rattle.names.specs.Moments.{civil_text}

-- for a number of days, the year or month that the day falls in, and the days before it in that year or month
abbrev pub count_off : (ℕ → ℕ) → ℕ → ℕ → ℕ → ℕ × ℕ
count_off days_in zero n day = (n, day)
count_off days_in (suc most) n day =
    let later = count_off days_in most (n + 1) (day - days_in n) in
    if nat_lt day (days_in n) then (n, day) else later

-- the year, and the day in it, counted from 0; no moment is after the year 9999
abbrev pub year_and_day : ℕ → ℕ × ℕ
year_and_day day = count_off (λ y. days_in_year (pos y)) 8029 1970 day

-- the month, and the day in it, counted from 0
abbrev pub month_and_day : ℕ → ℕ → ℕ × ℕ
month_and_day year day = count_off (days_in_month (pos year)) 11 1 day

-- the text of a second of a day of a year
abbrev pub text_in : ℕ × ℕ → ℕ → List ℕ
text_in year second =
    let month = month_and_day year.0 year.1 in civil_text year.0 month.0 (month.1 + 1) second

-- YYYY-MM-DDTHH:MM:SSZ
unfoldable pub moment_text : ℕ → List ℕ
moment_text moment = text_in (year_and_day (moment / 86400)) (moment % 86400)
