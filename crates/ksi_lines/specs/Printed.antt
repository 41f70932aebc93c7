-- A line's words.
use Rattle.std.specs.Prelude.{ℕ, ◌+◌, List, [], ◌∷◌, length}
use Rattle.std.specs.Fmt.{decimal}
use Rattle.ksi_lines.specs.declared.printing.Word.{Word}
use Rattle.ksi_lines.specs.declared.printing.Word.TheVariants as words
use Rattle.ksi_lines.specs.declared.line.Text.{Text}
use Rattle.ksi_lines.specs.declared.line.Text.TheVariants.{Short, Long}
use Rattle.ksi_schedule.specs.Printed.{hex_of}
use Rattle.ksi_lines.specs.Lines.{optional_text}

abbrev pub word_text : Word → List ℕ
word_text (words.Text piece) = piece.now
word_text (words.Number n) = decimal n
word_text (words.Optional n) = optional_text n
word_text (words.Digest imprint) = hex_of imprint.now

-- as many bytes as a word has at most
abbrev pub word_room : Word → ℕ
word_room (words.Text piece) = length piece.now
word_room (words.Number n) = 20
word_room (words.Optional n) = 20
word_room (words.Digest imprint) = 64

-- as many bytes as words have at most, each with a space
abbrev pub room : List Word → ℕ
room [] = 0
room (word ∷ words) = word_room word + 1 + room words

-- the bytes of a line
abbrev pub text_bytes : Text → List ℕ
text_bytes (Short text) = text.items
text_bytes (Long text) = text.items
