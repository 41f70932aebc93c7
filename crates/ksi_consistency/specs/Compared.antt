-- What comparing two calendars says.
use Rattle.std.specs.Prelude.{◌≡◌, ◌≢◌, ℕ, ◌+◌, ◌-◌, ◌<◌, ◌≤◌, ◌⊎◌, List, Contains, length, Ok, Err}
use Rattle.ksi_imprint.specs.Imprints.{IsClash}
use Rattle.ksi_imprint.specs.declared.clash.Clash.{Clash}
use Rattle.ksi_split.specs.Powers.{split_of}
use Rattle.ksi_calendar.specs.Climbing.{calendar_join_text}
use Rattle.ksi_calendar.specs.Calendar.{Seconds, calendar_leaf, calendar_root, calendar_tree}
use Rattle.ksi_consistency.specs.Checked.{front_checked, front_texts}
use Rattle.ksi_consistency.specs.Parts.{IsPart}
use Rattle.ksi_consistency.specs.declared.compared.Compared.{Compared}
use Rattle.ksi_consistency.specs.declared.compared.Compared.TheVariants as answers
use Rattle.ksi_consistency.specs.declared.halves.Halves.{Halves}

-- the string of a join of both parts
abbrev pub halves_text : Halves → List ℕ
halves_text halves = calendar_join_text halves.left halves.right

-- both calendars have the same leaves to p
abbrev pub AgreeTo : (old new : Seconds) → (p : ℕ) → Type 0
AgreeTo old new p = (t : ℕ) → t ≤ p → calendar_leaf old t ≡ calendar_leaf new t

-- they have different leaves of a second to p
pub record DifferBy (old new : Seconds) (p : ℕ) : Type 0 where
  pub second : ℕ
  pub to : second ≤ p
  pub differ : calendar_leaf old second ≢ calendar_leaf new second

-- a clash of two strings of joins, each of two imprints and a level
pub record IsNodeClash (image : List ℕ → List ℕ) (clash : Clash) : Type 0 where
  pub strings : IsClash image clash
  pub one : length clash.one ≡ 67
  pub two : length clash.two ≡ 67

-- what a part of the calendar to p hashes: both its own parts
pub record IsKeptText (image : List ℕ → List ℕ) (seconds : Seconds) (p : ℕ) (text : List ℕ) : Type 0 where
  pub first : ℕ
  pub count : ℕ
  pub many : 1 < count
  pub part : IsPart (p + 1) first count
  pub joined : text ≡ calendar_join_text (calendar_tree image seconds first (split_of count)) (calendar_tree image seconds (first + split_of count) (count - split_of count))

-- a clash in what a front shows of two calendars: of a string that is kept in the old one, or that checking the front
-- hashes, with one that is kept in either
pub record IsFrontClash (image : List ℕ → List ℕ) (old new : Seconds) (p1 p2 : ℕ) (given : List ℕ) (front : List (List ℕ)) (clash : Clash) : Type 0 where
  pub nodes : IsNodeClash image clash
  pub shown : IsKeptText image old p1 clash.one ⊎ Contains (front_texts image p1 p2 given front) clash.one
  pub kept : IsKeptText image old p1 clash.two ⊎ IsKeptText image new p2 clash.two

-- both parts are these
pub record IsHalves (halves : Halves) (one two : List ℕ) : Type 0 where
  pub left : halves.left ≡ one
  pub right : halves.right ≡ two

-- a front is accepted between the roots of both calendars
abbrev pub IsFrontOf : (List ℕ → List ℕ) → (old new : Seconds) → (p1 p2 : ℕ) → List (List ℕ) → Type 0
IsFrontOf image old new p1 p2 front = front_checked image p1 p2 (calendar_root image old p1) (calendar_root image new p2) front ≡ Ok tt

-- a clash is of strings of joins
abbrev pub IsShort : Compared → Type 0
IsShort (answers.Clash clash) = (length clash.one ≡ 67) × (length clash.two ≡ 67)
IsShort _ = Unit {0}

-- what each answer says
abbrev pub IsAnswer : (List ℕ → List ℕ) → (old new : Seconds) → (p1 p2 : ℕ) → List (List ℕ) → Compared → Type 0
IsAnswer image old new p1 p2 front (answers.NotAccepted refusal) = front_checked image p1 p2 (calendar_root image old p1) (calendar_root image new p2) front ≡ Err refusal
IsAnswer image old new p1 p2 front answers.Equal = IsFrontOf image old new p1 p2 front × AgreeTo old new p1
IsAnswer image old new p1 p2 front (answers.Clash clash) = IsFrontOf image old new p1 p2 front × DifferBy old new p1 × IsFrontClash image old new p1 p2 (calendar_root image old p1) front clash
