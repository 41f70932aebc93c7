-- The calendar of seconds whose roots are known, from a start on.
use Rattle.std.specs.Prelude.{◌≡◌, ℕ, zero, suc, ◌-◌, ◌<◌, ◌≤◌, nat_lt, if◌then◌else◌, List, [], ◌∷◌, IsSome, Option, Some, None, unwrap_or}
use Rattle.ksi_imprint.specs.Imprints.{zero_imprint}
use Rattle.ksi_split.specs.declared.tree_link.TreeLink.{TreeLink}
use Rattle.ksi_calendar.specs.Calendar.{Seconds, calendar_root, calendar_path}

-- the root of each second, if it is known
abbrev pub Roots : Type 0
Roots = ℕ → Option (List ℕ)

-- p is covered: it is at or after the start, and each second from the start to it has a root
pub record IsCovered (roots : Roots) (start p : ℕ) : Type 0 where
  pub from : start ≤ p
  pub each : (t : ℕ) → start ≤ t → t ≤ p → IsSome (roots t)

-- ---- the first second that has no root

-- this is the first second from the start to the last that has no root
pub record IsFirstMissing (roots : Roots) (start last second : ℕ) : Type 0 where
  pub from : start ≤ second
  pub to : second ≤ last
  pub missing : roots second ≡ None
  pub before : (t : ℕ) → start ≤ t → t < second → IsSome (roots t)

abbrev pub earlier_of : (second : ℕ) → Option (List ℕ) → (later : Option ℕ) → Option ℕ
earlier_of second None later = Some second
earlier_of second (Some root) later = later

-- the first of n seconds from this one on that has no root
abbrev pub missing_among : Roots → (second n : ℕ) → Option ℕ
missing_among roots second zero = None
missing_among roots second (suc n) = earlier_of second (roots second) (missing_among roots (suc second) n)

-- the first second from the start to the last that has no root, or none if all have one
unfoldable pub first_missing : Roots → (start last : ℕ) → Option ℕ
first_missing roots start last = missing_among roots start (suc last - start)

-- ---- the calendar of the covered seconds

-- the roots of n seconds from this one on
abbrev pub roots_among : Roots → (second n : ℕ) → List (List ℕ)
roots_among roots second zero = []
roots_among roots second (suc n) = unwrap_or (roots second) zero_imprint ∷ roots_among roots (suc second) n

-- the seconds from the start to the last, each with its root
unfoldable pub covered_seconds : Roots → (start last : ℕ) → Seconds
covered_seconds roots start last = record { start = start; roots = roots_among roots start (suc last - start) }

-- the root of the calendar of these, from second 0 to p
abbrev pub covered_root : (List ℕ → List ℕ) → Roots → (start p : ℕ) → List ℕ
covered_root image roots start p = calendar_root image (covered_seconds roots start p) p

-- the chain from second t to that root
abbrev pub covered_path : (List ℕ → List ℕ) → Roots → (start t p : ℕ) → List (TreeLink (List ℕ))
covered_path image roots start t p = calendar_path image (covered_seconds roots start p) t p

-- the leaf of a second: the zero imprint before the start, else its root
abbrev pub second_leaf : Roots → (start t : ℕ) → List ℕ
second_leaf roots start t = if nat_lt t start then zero_imprint else unwrap_or (roots t) zero_imprint
