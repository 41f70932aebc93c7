-- The date of a second of Unix time: of the Gregorian calendar, in UTC, with no leap seconds. It is written as in HTTP
-- (IMF-fixdate of RFC 9110, 5.6.7), as in `Tue, 14 Nov 2023 22:13:20 GMT`, or in the basic format of ISO 8601, as in
-- `20231114T221320Z`.
use Rattle.std.specs.Prelude.{ℕ, zero, suc, ◌+◌, ◌-◌, ◌/◌, ◌%◌, ◌==◌, nat_le, nat_lt, List, ◌++◌, slice_index, codes, if◌then◌else◌}
use Rattle.httpdate.specs.Calendar.{days_of_years, days_of_months, weekday}
use Rattle.httpdate.specs.Text.{imf_fixdate, two_digits, four_digits}
use Rattle.httpdate.specs.declared.parts.Parts.{Parts}

-- the greatest number up to `most` whose count of days has passed on a day; 0 where none has
unfoldable pub passed : (days_of : ℕ → ℕ) → (most day : ℕ) → ℕ
passed days_of zero day = 0
passed days_of (suc n) day = if nat_le (days_of (suc n)) day then suc n else passed days_of n day

-- how many whole years from 1970 on have passed on a day; day 0 is 1 January 1970
abbrev pub years_passed : ℕ → ℕ
years_passed day = passed days_of_years 8029 day

-- the day's place in its year, from 0
abbrev pub place_in_year : ℕ → ℕ
place_in_year day = day - days_of_years (years_passed day)

-- how many whole months of a year have passed on the day at a place in it
abbrev pub months_passed : (year place : ℕ) → ℕ
months_passed year place = passed (days_of_months year) 11 place

abbrev pub date_with : (day rest year months place : ℕ) → Parts
date_with day rest year months place = record {
  year = year;
  mon = months + 1;
  day = place - days_of_months year months + 1;
  hour = rest / 3600;
  min = rest % 3600 / 60;
  sec = rest % 60;
  wday = weekday day;
}

-- the date of the day, and the time of day after this many seconds of it
abbrev pub date_on : (day rest : ℕ) → Parts
date_on day rest =
    date_with day rest (1970 + years_passed day) (months_passed (1970 + years_passed day) (place_in_year day)) (place_in_year day)

unfoldable pub date_of : ℕ → Parts
date_of second = date_on (second / 86400) (second % 86400)

-- the first second of the year 10000
abbrev pub end_of_dates : ℕ
end_of_dates = 253402300800

abbrev pub date_text : ℕ → List ℕ
date_text second = if nat_lt second end_of_dates then imf_fixdate (date_of second) else codes "after the year 9999"

-- ---- in the basic format

-- `20231114T221320Z`
abbrev pub basic_of : Parts → List ℕ
basic_of p =
    four_digits p.year ++ two_digits p.mon ++ two_digits p.day ++ codes "T"
    ++ two_digits p.hour ++ two_digits p.min ++ two_digits p.sec ++ codes "Z"

unfoldable pub basic_text : ℕ → List ℕ
basic_text second = if nat_lt second end_of_dates then basic_of (date_of second) else codes "AFTERTHEYEAR9999"

-- ---- in the code

-- the month by the second and the third letter of its name
abbrev pub month_by : ℕ → ℕ → ℕ
month_by b c =
    if b == 97 then (if c == 110 then 1 else if c == 114 then 3 else 5)
    else if b == 101 then (if c == 98 then 2 else if c == 112 then 9 else 12)
    else if b == 117 then (if c == 110 then 6 else if c == 108 then 7 else 8)
    else if b == 112 then 4
    else if b == 99 then 10
    else 11
