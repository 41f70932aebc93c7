-- Leaves of two calendars.
use Rattle.std.proofs.Common.{◌≡◌, ◌≢◌, ℕ, ◌<◌, ◌≤◌, List, Bool, true, false, not, refl, sym, ap, ◌∙◌, inl, inr, arith}
use Rattle.std.specs.Str.{bytes_eq}
use Rattle.std.proofs.lemmas.Slice.Eq.{bytes_eq-Decides}
use Rattle.ksi_imprint.specs.Imprints.{zero_imprint}
use Rattle.ksi_calendar.specs.Calendar.{Seconds, calendar_leaf}
use Rattle.ksi_consistency.proofs.Cases.{lt_cases, eq_cases}

-- before its start
early : (seconds : Seconds) (t : ℕ) → t < seconds.start → calendar_leaf seconds t ≡ zero_imprint
early seconds t before = elim (lt_cases t seconds.start) [ inl b ↦ rw b.0 refl | inr a ↦ absurd (omega (arith, before, a.1)) ]

pub not_other : (a b : List ℕ) → not (bytes_eq a b) ≡ false → a ≡ b
not_other a b e = by (bytes_eq a b) refl e
  where
    by : (t : Bool) → bytes_eq a b ≡ t → not t ≡ false → a ≡ b
    by true is e = (bytes_eq-Decides a b).0 is
    by false is e = absurd (cc e)

-- leaves that are the same from before both starts to a last second
pub agree_to : (old new : Seconds) (begin last : ℕ) → begin ≤ old.start → begin ≤ new.start → ((t : ℕ) → begin ≤ t → t < last → calendar_leaf old t ≡ calendar_leaf new t) → calendar_leaf old last ≡ calendar_leaf new last
    → (t : ℕ) → t ≤ last → calendar_leaf old t ≡ calendar_leaf new t
agree_to old new begin last first second between end t to = elim (lt_cases t begin) [
  | inl before ↦ early old t (omega (arith, before.1, first)) ∙ sym (early new t (omega (arith, before.1, second)))
  | inr from ↦ elim (eq_cases t last) [
    | inl same ↦ ap (calendar_leaf old) same.1 ∙ end ∙ sym (ap (calendar_leaf new) same.1)
    | inr other ↦ between t from.1 (omega (arith, other.1, to))
  ]
]

pub is_other : (a b : List ℕ) → not (bytes_eq a b) ≡ true → a ≢ b
is_other a b e = by (bytes_eq a b) refl e
  where
    by : (t : Bool) → bytes_eq a b ≡ t → not t ≡ true → a ≢ b
    by true is e = absurd (cc e)
    by false is e = λ same. absurd (cc (sym is ∙ (bytes_eq-Decides a b).1 same))

-- leaves that are the same before a second
pub agree_before : (old new : Seconds) (begin second : ℕ) → begin ≤ old.start → begin ≤ new.start → ((t : ℕ) → begin ≤ t → t < second → calendar_leaf old t ≡ calendar_leaf new t) → (t : ℕ) → t < second → calendar_leaf old t ≡ calendar_leaf new t
agree_before old new begin second one two between t to = elim (lt_cases t begin) [
  | inl before ↦ early old t (omega (arith, before.1, one)) ∙ sym (early new t (omega (arith, before.1, two)))
  | inr from ↦ between t from.1 to
]
