-- The schedule that a text spells, or its first fault, line by line, as the code goes. `Spelled` says the same in words;
-- the law `schedule_is_read` says that these are one.
use Rattle.std.specs.Borrow.{Bor}
use Rattle.std.specs.Prelude.{◌≡◌, ◌<◌, ℕ, ◌+◌, List, [], ◌∷◌, length, Option, Some, None, IfSome, Result, Ok, Err}
use Rattle.ksi_imprint.specs.declared.refused.Refused.{Refused}
use Rattle.ksi_imprint.specs.declared.refused.Refused.TheVariants as refused
use Rattle.ksi_schedule.specs.Pieces.{Text, lines, words}
use Rattle.ksi_schedule.specs.Events.{History}
use Rattle.ksi_schedule.specs.Lines.{Said, nothing, history, with_line}
use Rattle.ksi_schedule.specs.declared.fault.LineFault.{LineFault}
use Rattle.ksi_schedule.specs.declared.fault.LineFault.TheVariants.{Header}
use Rattle.ksi_schedule.specs.declared.fault.ScheduleFault.{ScheduleFault}
use Rattle.ksi_schedule.specs.declared.fault.ScheduleFault.TheVariants as faults

-- a fault and its line
abbrev pub Fault : Type 0
Fault = LineFault × ℕ

abbrev pub ended : ℕ → Said → Result History Fault
ended n (history version h) = Ok h
ended n _ = Err (Header, n)

abbrev pub behind : (Said → Result History Fault) → ℕ → Result Said LineFault → Result History Fault
behind others n (Ok said) = others said
behind others n (Err fault) = Err (fault, n)

-- the lines from number n on, given the meaning of those before them
unfoldable pub read_from : (n : ℕ) → List Text → Said → Result History Fault
read_from n [] said = ended n said
read_from n (line ∷ others) said = behind (read_from (n + 1) others) n (with_line said line)

unfoldable pub schedule_at : Text → Result History Fault
schedule_at text = read_from 1 (lines text) nothing

-- ---- in the code

-- the result of reading, unless memory ran out
abbrev pub Reads : Result History Fault → Result History (Refused ScheduleFault) → Type 0
Reads expected (Ok h) = expected ≡ Ok h
Reads expected (Err (refused.Fault (faults.Line fault n))) = expected ≡ Err (fault, n)
Reads expected (Err refused.NoMemory) = Unit {0}

-- the result of a line, unless memory ran out
abbrev pub Goes : Result History LineFault → History → Result (Unit {0}) (Refused LineFault) → Type 0
Goes expected new (Ok u) = expected ≡ Ok new
Goes expected new (Err (refused.Fault fault)) = expected ≡ Err fault
Goes expected new (Err refused.NoMemory) = Unit {0}

abbrev pub on_line : ℕ → Refused LineFault → Refused ScheduleFault
on_line n (refused.Fault fault) = refused.Fault (faults.Line fault n)
on_line n refused.NoMemory = refused.NoMemory

abbrev pub lines_left : Option (Bor Text) → List Text
lines_left None = []
lines_left (Some rest) = lines rest.now

abbrev pub words_left : Option (Bor Text) → List Text
words_left None = []
words_left (Some rest) = words rest.now

-- the part before the first mark, and the part after it
pub record IsCut (mark : ℕ) (bytes : Text) (r : Bor Text × Option (Bor Text)) : Type 0 where
  pub words : mark ≡ 32 → words bytes ≡ r.0.now ∷ words_left r.1
  pub lines : mark ≡ 10 → 0 < length bytes → lines bytes ≡ r.0.now ∷ lines_left r.1
  pub shorter : IfSome r.1 (λ rest. length rest.now < length bytes)

abbrev pub HasLine : Text → Option (Bor Text × Bor Text) → Type 0
HasLine text None = lines text ≡ []
HasLine text (Some x) = (lines text ≡ x.0.now ∷ lines x.1.now) × (length x.1.now < length text)

abbrev pub HasOne : List Text → Option (Bor Text) → Type 0
HasOne ws (Some x) = ws ≡ x.now ∷ []
HasOne ws None = ¬ (length ws ≡ 1)

abbrev pub HasTwo : List Text → Option (Bor Text × Bor Text) → Type 0
HasTwo ws (Some x) = ws ≡ x.0.now ∷ x.1.now ∷ []
HasTwo ws None = ¬ (length ws ≡ 2)

abbrev pub HasThree : List Text → Option (Bor Text × Bor Text × Bor Text) → Type 0
HasThree ws (Some x) = ws ≡ x.0.now ∷ x.1.now ∷ x.2.now ∷ []
HasThree ws None = ¬ (length ws ≡ 3)

abbrev pub HasFour : List Text → Option (Bor Text × Bor Text × Bor Text × Bor Text) → Type 0
HasFour ws (Some x) = ws ≡ x.0.now ∷ x.1.now ∷ x.2.now ∷ x.3.now ∷ []
HasFour ws None = ¬ (length ws ≡ 4)

abbrev pub HasFive : List Text → Option (Bor Text × Bor Text × Bor Text × Bor Text × Bor Text) → Type 0
HasFive ws (Some x) = ws ≡ x.0.now ∷ x.1.now ∷ x.2.now ∷ x.3.now ∷ x.4.now ∷ []
HasFive ws None = ¬ (length ws ≡ 5)
