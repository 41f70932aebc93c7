-- Why a block with some lines does not take one more, for the proof of the code.
use Rattle.std.specs.Prelude.{◌≡◌, ℕ, ◌<◌, List, length}
use Rattle.ksi_logblock.specs.declared.logs.LogRefusal.{LogRefusal}
use Rattle.ksi_logblock.specs.declared.logs.LogRefusal.TheVariants.{NoLines, TooManyLines, LineTooLong}
use Rattle.ksi_logblock.specs.Blocks.{longest_line, most_lines}

abbrev pub IsLineRefusal : List (List ℕ) → List ℕ → LogRefusal → Type 0
IsLineRefusal before line NoLines = ⊥
IsLineRefusal before line TooManyLines = length before ≡ most_lines
IsLineRefusal before line (LineTooLong k size) = (k ≡ length before) × (k < most_lines) × (size ≡ length line) × (longest_line < size)
