-- The answer of a comparison as a function, with the clash that is found.
use Rattle.std.specs.Prelude.{ℕ, zero, suc, ◌+◌, ◌-◌, ◌==◌, nat_lt, if◌then◌else◌, List, [], ◌∷◌, reverse, Option, Some, None, Result, Ok, Err}
use Rattle.std.specs.Str.{bytes_eq}
use Rattle.ksi_imprint.specs.declared.clash.Clash.{Clash}
use Rattle.ksi_split.specs.Powers.{split_of}
use Rattle.ksi_split.specs.Ways.{way_of}
use Rattle.ksi_split.specs.declared.side.Side.{Side}
use Rattle.ksi_split.specs.declared.side.Side.TheVariants.{Left, Right}
use Rattle.ksi_calendar.specs.Climbing.{calendar_join_text}
use Rattle.ksi_calendar.specs.Calendar.{Seconds, calendar_leaf, calendar_root, calendar_tree}
use Rattle.ksi_consistency.specs.Checked.{front_checked, roots_from}
use Rattle.ksi_consistency.specs.declared.compared.Compared.{Compared}
use Rattle.ksi_consistency.specs.declared.compared.Compared.TheVariants as answers
use Rattle.ksi_consistency.specs.declared.refusal.FrontRefusal.{FrontRefusal}

-- ---- the first second to p of which two calendars have different leaves

abbrev pub apart_among : (old new : Seconds) → (t n : ℕ) → Option ℕ
apart_among old new t zero = None
apart_among old new t (suc n) = if bytes_eq (calendar_leaf old t) (calendar_leaf new t) then apart_among old new (suc t) n else Some t

unfoldable pub first_apart : (old new : Seconds) → (p : ℕ) → Option ℕ
first_apart old new p = apart_among old new 0 (p + 1)

-- ---- the first two strings that differ, in pairs on the path down to that second

-- what a part of more than one leaf hashes: both its own parts
abbrev pub part_text : (List ℕ → List ℕ) → Seconds → (first count : ℕ) → List ℕ
part_text image seconds first count =
    calendar_join_text (calendar_tree image seconds first (split_of count)) (calendar_tree image seconds (first + split_of count) (count - split_of count))

-- two strings where they differ, and else what is found below them
abbrev pub or_below : (one two : List ℕ) → Clash → Clash
or_below one two below = if bytes_eq one two then below else record { one = one; two = two }

-- in the part of `count` leaves from `first`, whose strings in both calendars are laid side by side, down these sides
unfoldable pub below_clash : (List ℕ → List ℕ) → (old new : Seconds) → (first count : ℕ) → List Side → Clash
below_clash image old new first count [] = record { one = []; two = [] }
below_clash image old new first count (Left ∷ sides) =
    or_below (part_text image old first count) (part_text image new first count) (below_clash image old new first (split_of count) sides)
below_clash image old new first count (Right ∷ sides) =
    or_below (part_text image old first count) (part_text image new first count) (below_clash image old new (first + split_of count) (count - split_of count) sides)

-- down the way to a second
abbrev pub clash_to : (List ℕ → List ℕ) → (old new : Seconds) → (second first count : ℕ) → Clash
clash_to image old new second first count = below_clash image old new first count (way_of (second - first) count)

-- in the part of n leaves from `first`, the first m of which are in the old calendar: the strings of the joins of a
-- front's imprints, the last one first, in pairs with those of the calendars; if both calendars have one tree, go on
-- below that
unfoldable pub front_clash : (List ℕ → List ℕ) → (old new : Seconds) → (given : List ℕ) → (second first m n : ℕ) → List (List ℕ) → Clash
front_clash image old new given second first m n [] = clash_to image old new second first m
front_clash image old new given second first m n (x ∷ inner) =
    if m == n
    then clash_to image old new second first m
    else if nat_lt (split_of n) m
    then or_below (calendar_join_text x (roots_from image given (m - split_of n) (n - split_of n) inner).old) (part_text image old first m)
    (or_below (calendar_join_text x (roots_from image given (m - split_of n) (n - split_of n) inner).new) (part_text image new first n)
    (if nat_lt (second - first) (split_of n)
    then clash_to image old new second first (split_of n)
    else front_clash image old new given second (first + split_of n) (m - split_of n) (n - split_of n) inner))
    else or_below (calendar_join_text (roots_from image given m (split_of n) inner).new x) (part_text image new first n)
    (front_clash image old new given second first m (split_of n) inner)

-- ---- the answer

abbrev pub answered : (List ℕ → List ℕ) → (old new : Seconds) → (p1 p2 : ℕ) → List (List ℕ) → Result (Unit {0}) FrontRefusal → Option ℕ → Compared
answered image old new p1 p2 front (Err refusal) apart = answers.NotAccepted refusal
answered image old new p1 p2 front (Ok accepted) None = answers.Equal
answered image old new p1 p2 front (Ok accepted) (Some second) =
    answers.Clash (front_clash image old new (calendar_root image old p1) second 0 (p1 + 1) (p2 + 1) (reverse front))

-- not accepted between the roots of both calendars, or else the same leaves to p1, or a clash
unfoldable pub compared : (List ℕ → List ℕ) → (old new : Seconds) → (p1 p2 : ℕ) → List (List ℕ) → Compared
compared image old new p1 p2 front =
    answered image old new p1 p2 front (front_checked image p1 p2 (calendar_root image old p1) (calendar_root image new p2) front) (first_apart old new p1)
