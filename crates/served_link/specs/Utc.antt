-- Dates of the Gregorian calendar and times of their days, in UTC, as RFC 3339 writes them.
use Rattle.std.specs.Prelude.{ℕ, zero, suc, ◌+◌, ◌-◌, ◌/◌, ◌%◌, Bool, ◌&&◌, ◌||◌, not, nat_eq, nat_lt, if◌then◌else◌}
use Rattle.std.specs.Prelude.{List, [], ◌∷◌, ◌++◌, codes, min}
use Rattle.served_link.specs.declared.utc.Date.{Date}
use Rattle.served_link.specs.declared.utc.TheConstants.{DAY_MS, LAST_MS}

-- a leap year (RFC 3339, appendix C)
abbrev pub is_leap : (year : ℕ) → Bool
is_leap year = nat_eq (year % 4) 0 && (not (nat_eq (year % 100) 0) || nat_eq (year % 400) 0)

-- the days of a month, from 1 on (RFC 3339 §5.7)
abbrev pub month_days : (year month : ℕ) → ℕ
month_days year month =
    if nat_eq month 2
    then (if is_leap year then 29 else 28)
    else (if nat_eq month 4 || nat_eq month 6 || nat_eq month 9 || nat_eq month 11 then 30 else 31)

-- the days of a year: those of February, and 337 of the other months
abbrev pub year_days : (year : ℕ) → ℕ
year_days year = 337 + month_days year 2

-- the date so many days after the first of a month: in that month, or in one of so many that follow
unfoldable pub date_from : (following year month days : ℕ) → Date
date_from zero year month days = record { year = year; month = month; day = days + 1 }
date_from (suc following) year month days =
    if nat_lt days (month_days year month)
    then record { year = year; month = month; day = days + 1 }
    else date_from following year (month + 1) (days - month_days year month)

-- the date so many days after the first of a year, which has twelve months
abbrev pub date_in_year : (year days : ℕ) → Date
date_in_year year days = date_from 11 year 1 days

-- the date so many days after the first of a year: in that year, or in one of so many that follow
unfoldable pub date_after : (following year days : ℕ) → Date
date_after zero year days = date_in_year year days
date_after (suc following) year days =
    if nat_lt days (year_days year)
    then date_in_year year days
    else date_after following (year + 1) (days - year_days year)

-- the date so many days after 1 January 1970, up to the year 9999
abbrev pub date_of : (days : ℕ) → Date
date_of days = date_after 8029 1970 days

-- the last digit of a number, its last two, three and four (48 is 0)
abbrev pub digit : ℕ → ℕ
digit n = 48 + n % 10

abbrev pub two_digits : ℕ → List ℕ
two_digits n = digit (n / 10) ∷ digit n ∷ []

abbrev pub three_digits : ℕ → List ℕ
three_digits n = digit (n / 100) ∷ two_digits n

abbrev pub four_digits : ℕ → List ℕ
four_digits n = digit (n / 1000) ∷ three_digits n

-- full-date (RFC 3339 §5.6)
abbrev pub date_text : Date → List ℕ
date_text date = four_digits date.year ++ codes "-" ++ two_digits date.month ++ codes "-" ++ two_digits date.day

-- date-time in UTC, so many milliseconds after the day began
abbrev pub time_text : Date → (ms : ℕ) → List ℕ
time_text date ms =
    date_text date ++ codes "T" ++ two_digits (ms / 3_600_000) ++ codes ":" ++ two_digits (ms / 60_000 % 60) ++ codes ":"
    ++ two_digits (ms / 1_000 % 60) ++ codes "." ++ three_digits ms ++ codes "Z"

-- the same, so many milliseconds after the year 1970 began; after the year 9999, its last millisecond
abbrev pub utc_text : (ms : ℕ) → List ℕ
utc_text ms = time_text (date_of (min ms LAST_MS / DAY_MS)) (min ms LAST_MS % DAY_MS)
