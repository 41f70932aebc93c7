-- Lines and blocks.
pub mod Steps
use Rattle.std.specs.Prelude.{◌≡◌, ◌≢◌, ◌==◌, ℕ, List, [], ◌∷◌, ◌++◌, codes, All, count_by}
use Rattle.std.specs.Fmt.{decimal}
use Rattle.std.specs.List.{AllByRecursion}
use Rattle.ksi_schedule.specs.Pieces.{Text}
use Rattle.ksi_records.specs.declared.blocks.place.Place.{Place}

-- it has no line feed
abbrev pub IsLine : Text → Type 0
IsLine line = All (λ b. b ≢ 10) line

-- a line other than a full stop
abbrev pub IsInner : Text → Type 0
IsInner line = IsLine line × (line ≢ codes ".")

-- a line feed after each line
abbrev pub lines_text : List Text → Text
lines_text [] = []
lines_text (line ∷ lines) = line ++ 10 ∷ lines_text lines

-- lines, of which the last alone is a full stop
abbrev pub IsBlock : Text → Type 0
IsBlock block = (lines : List Text) × AllByRecursion IsInner lines × (block ≡ lines_text lines ++ codes ".\n")

-- the same that is cut off: no line is a full stop, and the last has no line feed
abbrev pub IsCutBlock : Text → Type 0
IsCutBlock text = (lines : List Text) × (last : Text) × AllByRecursion IsInner lines × IsLine last × (text ≡ lines_text lines ++ last)

-- how many lines
abbrev pub lines_in : Text → ℕ
lines_in block = count_by (λ b. b == 10) block

-- the words of a place
abbrev pub place_words : Place → List Text
place_words place = decimal place.entry ∷ decimal place.line ∷ []
