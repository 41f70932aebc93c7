-- The date in the basic format, from its form in HTTP.
use Rattle.std.proofs.Common.{◌≡◌, ◌∙◌, ℕ, zero, suc, ◌+◌, ◌/◌, ◌%◌, ◌≤◌, ◌<◌, List, [], ◌∷◌, ◌++◌, slice_index_or, refl, sym, ap, arith, codes}
use Rattle.std.proofs.lemmas.Bool.{cond_above, cond_below}
use Rattle.httpdate.specs.declared.parts.Parts.{Parts}
use Rattle.httpdate.specs.declared.date.HttpDate.{HttpDate}
use Rattle.httpdate.specs.Date.{unix_secs, date_text as http_text}
use Rattle.httpdate.specs.Text.{day_name, month_name, two_digits, four_digits, time_of_day}
use Rattle.ksi_dates.specs.Dates.{basic_of, basic_text, date_of, end_of_dates, month_by}
use Rattle.ksi_dates.proofs.DateLemmas.{date_is}

pub told : (date : HttpDate) (second : ℕ) → unix_secs date ≡ second → second < end_of_dates → basic_of date.parts ≡ basic_text second
unfolding basic_text
told date second e lt = ap basic_of (date_is date second e) ∙ cond_below second end_of_dates _ _ lt

pub after_all : (second : ℕ) → end_of_dates ≤ second → codes "AFTERTHEYEAR9999" ≡ basic_text second
unfolding basic_text
after_all second le = cond_above second end_of_dates _ _ _ le refl

-- ---- the characters of an HTTP date at their places

abbrev pub basic_by : List ℕ → ℕ → List ℕ
basic_by http month =
    slice_index_or http 12 0 ∷ slice_index_or http 13 0 ∷ slice_index_or http 14 0 ∷ slice_index_or http 15 0 ∷ (48 + month / 10) ∷ (48 + month % 10)
    ∷ slice_index_or http 5 0 ∷ slice_index_or http 6 0 ∷ 84 ∷ slice_index_or http 17 0 ∷ slice_index_or http 18 0 ∷ slice_index_or http 20 0
    ∷ slice_index_or http 21 0 ∷ slice_index_or http 23 0 ∷ slice_index_or http 24 0 ∷ 90 ∷ []

-- the name of a day has three letters
record Letters (name : List ℕ) : Type 0 where
  first : ℕ
  second : ℕ
  third : ℕ
  is : name ≡ first ∷ second ∷ third ∷ []

day_letters : (n : ℕ) → 1 ≤ n → n ≤ 7 → Letters (day_name n)
day_letters zero low high = absurd (omega (arith, low))
day_letters (suc zero) low high = record { first = 77; second = 111; third = 110; is = refl }
day_letters (suc (suc zero)) low high = record { first = 84; second = 117; third = 101; is = refl }
day_letters (suc (suc (suc zero))) low high = record { first = 87; second = 101; third = 100; is = refl }
day_letters (suc (suc (suc (suc zero)))) low high = record { first = 84; second = 104; third = 117; is = refl }
day_letters (suc (suc (suc (suc (suc zero))))) low high = record { first = 70; second = 114; third = 105; is = refl }
day_letters (suc (suc (suc (suc (suc (suc zero)))))) low high = record { first = 83; second = 97; third = 116; is = refl }
day_letters (suc (suc (suc (suc (suc (suc (suc zero))))))) low high = record { first = 83; second = 117; third = 110; is = refl }
day_letters (suc (suc (suc (suc (suc (suc (suc (suc n)))))))) low high = absurd (omega (arith, high))

-- that of a month too, and they determine it
record MonthLetters (n : ℕ) : Type 0 where
  first : ℕ
  second : ℕ
  third : ℕ
  is : month_name n ≡ first ∷ second ∷ third ∷ []
  month : month_by second third ≡ n

month_letters : (n : ℕ) → 1 ≤ n → n ≤ 12 → MonthLetters n
month_letters zero low high = absurd (omega (arith, low))
month_letters (suc zero) low high = record { first = 74; second = 97; third = 110; is = refl; month = refl }
month_letters (suc (suc zero)) low high = record { first = 70; second = 101; third = 98; is = refl; month = refl }
month_letters (suc (suc (suc zero))) low high = record { first = 77; second = 97; third = 114; is = refl; month = refl }
month_letters (suc (suc (suc (suc zero)))) low high = record { first = 65; second = 112; third = 114; is = refl; month = refl }
month_letters (suc (suc (suc (suc (suc zero))))) low high = record { first = 77; second = 97; third = 121; is = refl; month = refl }
month_letters (suc (suc (suc (suc (suc (suc zero)))))) low high = record { first = 74; second = 117; third = 110; is = refl; month = refl }
month_letters (suc (suc (suc (suc (suc (suc (suc zero))))))) low high = record { first = 74; second = 117; third = 108; is = refl; month = refl }
month_letters (suc (suc (suc (suc (suc (suc (suc (suc zero)))))))) low high = record { first = 65; second = 117; third = 103; is = refl; month = refl }
month_letters (suc (suc (suc (suc (suc (suc (suc (suc (suc zero))))))))) low high = record { first = 83; second = 101; third = 112; is = refl; month = refl }
month_letters (suc (suc (suc (suc (suc (suc (suc (suc (suc (suc zero)))))))))) low high = record { first = 79; second = 99; third = 116; is = refl; month = refl }
month_letters (suc (suc (suc (suc (suc (suc (suc (suc (suc (suc (suc zero))))))))))) low high = record { first = 78; second = 111; third = 118; is = refl; month = refl }
month_letters (suc (suc (suc (suc (suc (suc (suc (suc (suc (suc (suc (suc zero)))))))))))) low high = record { first = 68; second = 101; third = 99; is = refl; month = refl }
month_letters (suc (suc (suc (suc (suc (suc (suc (suc (suc (suc (suc (suc (suc n))))))))))))) low high = absurd (omega (arith, high))

abbrev with_names : Parts → List ℕ → List ℕ → List ℕ
with_names p day month =
    day ++ codes ", " ++ two_digits p.day ++ codes " " ++ month ++ codes " " ++ four_digits p.year ++ codes " " ++ time_of_day p ++ codes " GMT"

pub from_http : (date : HttpDate) → basic_by (http_text date) (month_by (slice_index_or (http_text date) 9 0) (slice_index_or (http_text date) 10 0)) ≡ basic_of date.parts
from_http date =
    let p = date.parts in
    let day : Letters (day_name p.wday) = day_letters p.wday (omega (arith, date.right_day)) (omega (arith, date.right_day)) in
    let month : MonthLetters p.mon = month_letters p.mon (omega (arith, date.civil.1)) (omega (arith, date.civil.1)) in
    let by : List ℕ → List ℕ = λ h. basic_by h (month_by (slice_index_or h 9 0) (slice_index_or h 10 0)) in
    let known : List ℕ = with_names p (day.first ∷ day.second ∷ day.third ∷ []) (month.first ∷ month.second ∷ month.third ∷ []) in
    (λ i. by (with_names p (day.is i) (month.is i))) ∙ ap (λ (m : ℕ). basic_by known m) month.month
