-- Fronts: of a tree of n leaves, the parts that show together that the tree of its first m leaves is its front.
use Rattle.std.specs.Prelude.{ℕ, zero, suc, ◌+◌, ◌-◌, ◌==◌, nat_lt, Bool, true, false, if◌then◌else◌, List, [], ◌∷◌, ◌++◌}
use Rattle.ksi_split.specs.Powers.{split_of}
use Rattle.ksi_split.specs.Trees.{tree}
use Rattle.ksi_calendar.specs.Climbing.{calendar_join}
use Rattle.ksi_calendar.specs.Calendar.{Seconds, calendar_leaf}

-- for the first m of the n leaves from lo, of which there are at most `most`: nothing where these are all of them and the
-- given root is that of their tree, else their tree; and where they are not all, what is needed in the part that the first
-- m leaves end in, and then the other part: SUBPROOF of RFC 9162, 2.1.4.1
unfoldable pub front_within : {A : Type 0} → (A → A → A) → (ℕ → A) → (most m lo n : ℕ) → (given : Bool) → List A
front_within join leaf zero m lo n given = []
front_within join leaf (suc most) m lo n given =
    if m == n
    then (if given then [] else tree join leaf lo n ∷ [])
    else if nat_lt (split_of n) m
    then front_within join leaf most (m - split_of n) (lo + split_of n) (n - split_of n) false ++ tree join leaf lo (split_of n) ∷ []
    else front_within join leaf most m lo (split_of n) given ++ tree join leaf (lo + split_of n) (n - split_of n) ∷ []

-- the same, whatever n
unfoldable pub front_of : {A : Type 0} → (A → A → A) → (ℕ → A) → (m lo n : ℕ) → (given : Bool) → List A
front_of join leaf m lo n given = front_within join leaf n m lo n given

-- how many imprints these are
unfoldable pub count_within : (most m n : ℕ) → (given : Bool) → ℕ
count_within zero m n given = 0
count_within (suc most) m n given =
    if m == n
    then (if given then 0 else 1)
    else if nat_lt (split_of n) m
    then count_within most (m - split_of n) (n - split_of n) false + 1
    else count_within most m (split_of n) given + 1

unfoldable pub count_of : (m n : ℕ) → (given : Bool) → ℕ
count_of m n given = count_within n m n given

-- the front of the calendar to p1 in the calendar to p2
abbrev pub calendar_front : (List ℕ → List ℕ) → Seconds → (p1 p2 : ℕ) → List (List ℕ)
calendar_front image seconds p1 p2 = front_of (calendar_join image) (calendar_leaf seconds) (p1 + 1) 0 (p2 + 1) true

-- how many imprints it has
abbrev pub front_count : (p1 p2 : ℕ) → ℕ
front_count p1 p2 = count_of (p1 + 1) (p2 + 1) true
