-- The walk from month to month, and from year to year.
use Rattle.std.proofs.Common.{◌≡◌, refl, ℕ, suc, ◌+◌, ◌-◌, ◌<◌, ◌≤◌, arith, lt-ltb, le-ltb}
use Rattle.served_link.specs.Utc.{date_after, date_from, date_in_year, month_days, year_days}

-- a date in a month, and one behind it
pub in_month : (end year month days : ℕ) → month < end → days < month_days year month →
    date_from (end - month) year month days ≡ record { year = year; month = month; day = days + 1 }
unfolding date_from
in_month end year month days below here =
    let e : end - month ≡ suc (end - (month + 1)) = omega (arith, below) in rw (e, lt-ltb _ _ here) refl

pub past_month : (end year month days : ℕ) → month < end → month_days year month ≤ days →
    date_from (end - (month + 1)) year (month + 1) (days - month_days year month) ≡ date_from (end - month) year month days
unfolding date_from
past_month end year month days below past =
    let e : end - month ≡ suc (end - (month + 1)) = omega (arith, below) in rw (e, le-ltb _ _ past) refl

-- a date in a year, and one behind it
pub in_year : (end year days : ℕ) → year < end → days < year_days year →
    date_after (end - year) year days ≡ date_in_year year days
unfolding date_after
in_year end year days below here =
    let e : end - year ≡ suc (end - (year + 1)) = omega (arith, below) in rw (e, lt-ltb _ _ here) refl

pub past_year : (end year days : ℕ) → year < end → year_days year ≤ days →
    date_after (end - (year + 1)) (year + 1) (days - year_days year) ≡ date_after (end - year) year days
unfolding date_after
past_year end year days below past =
    let e : end - year ≡ suc (end - (year + 1)) = omega (arith, below) in rw (e, le-ltb _ _ past) refl

-- in the last month, and in the last year
pub last_month : (end year month days : ℕ) → month ≡ end →
    record { year = year; month = end; day = days + 1 } ≡ date_from (end - month) year month days
unfolding date_from
last_month end year month days e =
    let z : end - month ≡ 0 = omega (arith, e) in rw (z, e) refl

pub last_year : (end year days : ℕ) → year ≡ end → date_in_year end days ≡ date_after (end - year) year days
unfolding date_after
last_year end year days e = let z : end - year ≡ 0 = omega (arith, e) in rw (z, e) refl
