-- How a moment is printed: as a civil date and a time of day, in UTC (RFC 3339, Internet Date/Time Format).
use Rattle.std.specs.Prelude.{◌≡◌, ℕ, ◌+◌, ◌/◌, ◌%◌, List, [], ◌∷◌, ◌++◌, codes, pos}
use Rattle.jiff_core.specs.Calendar.{IsCivilDate, days_from_civil}

-- the last two decimal digits of a number below 100
abbrev pub two_digits : ℕ → List ℕ
two_digits n = (48 + n / 10) ∷ (48 + n % 10) ∷ []

-- the four decimal digits of a number below 10,000
abbrev pub four_digits : ℕ → List ℕ
four_digits n = two_digits (n / 100) ++ two_digits (n % 100)

-- YYYY-MM-DD
abbrev pub date_text : ℕ → ℕ → ℕ → List ℕ
date_text year month day =
    four_digits year ++ codes "-" ++ two_digits month ++ codes "-" ++ two_digits day

-- HH:MM:SS, for a second of the day
abbrev pub time_text : ℕ → List ℕ
time_text second =
    two_digits (second / 3600) ++ codes ":" ++ two_digits (second / 60 % 60) ++ codes ":" ++ two_digits (second % 60)

-- YYYY-MM-DDTHH:MM:SSZ
abbrev pub civil_text : ℕ → ℕ → ℕ → ℕ → List ℕ
civil_text year month day second = date_text year month day ++ codes "T" ++ time_text second ++ codes "Z"

-- the text is the civil date and the time of day of this many seconds after 1970-01-01
pub record IsMomentText (moment : ℕ) (text : List ℕ) : Type 0 where
  pub year : ℕ
  pub month : ℕ
  pub day : ℕ
  pub date : IsCivilDate (pos year) month day
  pub days : days_from_civil (pos year) month day ≡ pos (moment / 86400)
  pub spelled : text ≡ civil_text year month day (moment % 86400)
