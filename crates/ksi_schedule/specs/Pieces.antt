-- Lines of a text, and words of a line.
use Rattle.std.specs.Prelude.{ℕ, ◌==◌, List, [], ◌∷◌, if◌then◌else◌}
use Rattle.std.specs.List.{slice_split, onto_first}

-- bytes of a text, of a line or of a word
abbrev pub Text : Type 0
Text = List ℕ

-- The lines end with a line feed, which the last may lack.
abbrev pub lines : Text → List Text
lines [] = []
lines (b ∷ text) = if b == 10 then [] ∷ lines text else onto_first b (lines text)

-- The words are between the spaces: one more than there are spaces, and some may be empty.
abbrev pub words : Text → List Text
words line = slice_split (λ b. b == 32) line
