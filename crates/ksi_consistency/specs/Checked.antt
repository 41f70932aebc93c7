-- What a front is checked for: both roots that its imprints lead to.
use Rattle.std.specs.Prelude.{ℕ, ◌+◌, ◌-◌, ◌==◌, nat_lt, if◌then◌else◌, List, [], ◌∷◌, length, reverse, Result, Ok, Err}
use Rattle.std.specs.Str.{bytes_eq}
use Rattle.ksi_split.specs.Powers.{split_of}
use Rattle.ksi_calendar.specs.Climbing.{calendar_join, calendar_join_text}
use Rattle.ksi_consistency.specs.Front.{front_count}
use Rattle.ksi_consistency.specs.declared.roots.Roots.{Roots}
use Rattle.ksi_consistency.specs.declared.refusal.FrontRefusal.{FrontRefusal}
use Rattle.ksi_consistency.specs.declared.refusal.FrontRefusal.TheVariants.{Length, OldDiffers, NewDiffers}

-- both roots, if another part is to the right of the one with all of the first leaves
abbrev pub joined_right : (List ℕ → List ℕ) → Roots → List ℕ → Roots
joined_right image inner x = record { old = inner.old; new = calendar_join image inner.new x }

-- both roots, where the first leaves fill another part, on the left
abbrev pub joined_left : (List ℕ → List ℕ) → Roots → List ℕ → Roots
joined_left image inner x = record { old = calendar_join image x inner.old; new = calendar_join image x inner.new }

-- the root of the first m leaves, and that of all n, by the imprints of a front, the last one first: where none is left they
-- are the given one, and where the first leaves are all leaves the imprint itself
unfoldable pub roots_from : (List ℕ → List ℕ) → (given : List ℕ) → (m n : ℕ) → List (List ℕ) → Roots
roots_from image given m n [] = record { old = given; new = given }
roots_from image given m n (x ∷ inner) =
    if m == n
    then record { old = x; new = x }
    else if nat_lt (split_of n) m
    then joined_left image (roots_from image given (m - split_of n) (n - split_of n) inner) x
    else joined_right image (roots_from image given m (split_of n) inner) x

-- the strings that the joins on the way to both roots hash
unfoldable pub texts_from : (List ℕ → List ℕ) → (given : List ℕ) → (m n : ℕ) → List (List ℕ) → List (List ℕ)
texts_from image given m n [] = []
texts_from image given m n (x ∷ inner) =
    if m == n
    then []
    else if nat_lt (split_of n) m
    then calendar_join_text x (roots_from image given (m - split_of n) (n - split_of n) inner).old
    ∷ calendar_join_text x (roots_from image given (m - split_of n) (n - split_of n) inner).new
    ∷ texts_from image given (m - split_of n) (n - split_of n) inner
    else calendar_join_text (roots_from image given m (split_of n) inner).new x ∷ texts_from image given m (split_of n) inner

-- those of a front that is checked
abbrev pub front_texts : (List ℕ → List ℕ) → (p1 p2 : ℕ) → (given : List ℕ) → List (List ℕ) → List (List ℕ)
front_texts image p1 p2 given front = texts_from image given (p1 + 1) (p2 + 1) (reverse front)

-- both roots that a front leads to, where the root of the calendar to p1 is given
abbrev pub front_roots : (List ℕ → List ℕ) → (p1 p2 : ℕ) → (given : List ℕ) → List (List ℕ) → Roots
front_roots image p1 p2 given front = roots_from image given (p1 + 1) (p2 + 1) (reverse front)

abbrev pub roots_checked : Roots → (old new : List ℕ) → Result (Unit {0}) FrontRefusal
roots_checked roots old new =
    if bytes_eq roots.old old
    then (if bytes_eq roots.new new then Ok tt else Err (NewDiffers roots.new new))
    else Err (OldDiffers roots.old old)

-- F1, F2 and F3: the front has as many imprints as are needed; they lead to the old root, and to the new one
abbrev pub front_checked : (List ℕ → List ℕ) → (p1 p2 : ℕ) → (old new : List ℕ) → List (List ℕ) → Result (Unit {0}) FrontRefusal
front_checked image p1 p2 old new front =
    if length front == front_count p1 p2
    then roots_checked (front_roots image p1 p2 old front) old new
    else Err (Length (front_count p1 p2) (length front))
