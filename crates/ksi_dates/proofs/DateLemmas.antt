-- The date of a second, as the kit's calendar has it.
use Rattle.std.proofs.Common.{◌≡◌, ℕ, zero, suc, ◌+◌, ◌-◌, ◌/◌, ◌%◌, ◌<◌, ◌≤◌, inl, inr, refl, sym, ap, ◌∙◌, subst, arith}
use Rattle.std.proofs.Common.{codes}
use Rattle.std.proofs.lemmas.Bool.{cases_order, cond_above, cond_below}
use Rattle.std.proofs.lemmas.Bool.Decides.{leb_tells}
use Rattle.httpdate.specs.declared.date.HttpDate.{HttpDate}
use Rattle.httpdate.specs.Calendar.{days_of_years, days_of_months, days_from_civil, IsCivilDate, weekday}
use Rattle.httpdate.specs.Date.{unix_secs, date_text as http_text}
use Rattle.httpdate.specs.Text.{imf_fixdate}
use Rattle.httpdate.proofs.CalendarLemmas.{days_from_civil_year, days_from_civil_month}
use Rattle.ksi_dates.specs.Dates.{date_of, date_text, end_of_dates, passed, years_passed, place_in_year, months_passed}

-- the count that has passed is the one behind which no later one has
pub passed_is : (days_of : ℕ → ℕ) (most day n : ℕ) → n ≤ most → days_of n ≤ day → ((k : ℕ) → n < k → day < days_of k) → passed days_of most day ≡ n
unfolding passed
passed_is days_of zero day n few now later = omega (arith, few)
passed_is days_of (suc m) day n few now later = elim (leb_tells (days_of (suc m)) day) [
  | inl t ↦ (rw t.0 (elim (cases_order n (suc m)) [
    | inl e ↦ sym e
    | inr (inl lt) ↦ absurd (omega (arith, later (suc m) lt, t.1))
    | inr (inr gt) ↦ absurd (omega (arith, gt, few))
  ]))
  | inr f ↦ (rw f.0 (elim (cases_order n (suc m)) [
    | inl e ↦ absurd (omega (arith, subst (λ (k : ℕ). days_of k ≤ day) e now, f.1))
    | inr (inl lt) ↦ passed_is days_of m day n (omega (arith, lt)) now later
    | inr (inr gt) ↦ absurd (omega (arith, gt, few))
  ]))
]

-- ---- of a day of the calendar

pub years_are : (y m d : ℕ) → IsCivilDate y m d → years_passed (days_from_civil y m d) ≡ y - 1970
unfolding days_of_months
years_are y m d civil =
    passed_is days_of_years 8029 (days_from_civil y m d) (y - 1970) (omega (arith, civil.0)) (omega arith)
    (λ k lt. let back : 1970 + k - 1970 ≡ k = omega arith in
    let before = days_from_civil_year y m d (1970 + k) 1 1 civil (omega (arith, lt, civil.0)) in
    omega (arith, rw back at before))

pub months_are : (y m d : ℕ) → IsCivilDate y m d → months_passed y (days_of_months y (m - 1) + (d - 1)) ≡ m - 1
months_are y m d civil =
    passed_is (days_of_months y) 11 (days_of_months y (m - 1) + (d - 1)) (m - 1) (omega (arith, civil.1)) (omega arith)
    (λ k lt. let back : k + 1 - 1 ≡ k = omega arith in
    let before = days_from_civil_month y m d (k + 1) 1 civil (omega (arith, lt, civil.1)) in
    omega (arith, rw back at before))

-- ---- of a date

pub date_is : (date : HttpDate) (second : ℕ) → unix_secs date ≡ second → date.parts ≡ date_of second
unfolding date_of
date_is date second e =
    let y = date.parts.year in
    let m = date.parts.mon in
    let d = date.parts.day in
    let at = days_from_civil y m d in
    let on : second / 86400 ≡ at = omega (arith, e, date.time) in
    let hour : date.parts.hour ≡ second % 86400 / 3600 = omega (arith, e, date.time) in
    let minute : date.parts.min ≡ second % 86400 % 3600 / 60 = omega (arith, e, date.time) in
    let sec : date.parts.sec ≡ second % 86400 % 60 = omega (arith, e, date.time) in
    let years : years_passed (second / 86400) ≡ y - 1970 = ap years_passed on ∙ years_are y m d date.civil in
    let year : 1970 + years_passed (second / 86400) ≡ y = omega (arith, years, date.civil.0) in
    let place : place_in_year (second / 86400) ≡ days_of_months y (m - 1) + (d - 1) = rw (years, on) (omega arith) in
    let months : months_passed (1970 + years_passed (second / 86400)) (place_in_year (second / 86400)) ≡ m - 1 = (λ i. months_passed (year i) (place i)) ∙ months_are y m d date.civil in
    let mon : m ≡ months_passed (1970 + years_passed (second / 86400)) (place_in_year (second / 86400)) + 1 = omega (arith, months, date.civil.1) in
    let day : d ≡ place_in_year (second / 86400) - days_of_months (1970 + years_passed (second / 86400)) (months_passed (1970 + years_passed (second / 86400)) (place_in_year (second / 86400))) + 1
    = rw (months, year, place) (omega (arith, date.civil.2)) in
    λ i. record { year = sym year i; mon = mon i; day = day i; hour = hour i; min = minute i; sec = sec i; wday = (date.right_day ∙ ap weekday (sym on)) i }

pub told : (date : HttpDate) (second : ℕ) → unix_secs date ≡ second → second < end_of_dates → http_text date ≡ date_text second
told date second e lt = ap imf_fixdate (date_is date second e) ∙ cond_below second end_of_dates _ _ lt

pub after_all : (second : ℕ) → end_of_dates ≤ second → codes "after the year 9999" ≡ date_text second
after_all second le = cond_above second end_of_dates _ _ _ le refl
