-- Words of rows, as they are printed. A row is its words, parted by single spaces.
use Rattle.std.specs.Prelude.{ℕ, ◌&&◌, ◌||◌, ◌==◌, not, nat_le, nat_lt, Bool, List, [], ◌∷◌, ◌++◌, take, drop, length, codes, if◌then◌else◌}
use Rattle.std.specs.Fmt.{decimal}
use Rattle.hex.specs.Hex.{encode_lower}
use Rattle.ksi_schedule.specs.Printed.{hex_of}
use Rattle.ksi_dates.specs.Dates.{date_text}
use Rattle.ksi_texts.specs.declared.word.Word.{Word}
use Rattle.ksi_texts.specs.declared.word.Word.TheVariants as words

-- a second of Unix time, and its date
abbrev pub second_text : ℕ → List ℕ
second_text second = decimal second ++ codes " (" ++ date_text second ++ codes ")"

-- the first ten digits of an imprint
abbrev pub short_text : List ℕ → List ℕ
short_text imprint = encode_lower (take 5 (drop 1 imprint)) ++ codes ".."

-- ---- bytes that anyone may have chosen

-- the marks " & ' < > and the backslash
abbrev pub is_mark : ℕ → Bool
is_mark byte = byte == 34 || byte == 38 || byte == 39 || byte == 60 || byte == 62 || byte == 92

-- a printable byte of ASCII, but for these marks
abbrev pub is_plain : ℕ → Bool
is_plain byte = nat_le 32 byte && nat_le byte 126 && not (is_mark byte)

-- any other byte is printed as \x and its two hex digits
abbrev pub escape : ℕ → List ℕ
escape byte = if is_plain byte then byte ∷ [] else codes "\\x" ++ encode_lower (byte ∷ [])

abbrev pub escaped : List ℕ → List ℕ
escaped [] = []
escaped (byte ∷ bytes) = escape byte ++ escaped bytes

-- the most bytes that are quoted of any text
abbrev pub most_quoted : ℕ
most_quoted = 64

-- the first of them in quotes, and two points where there are more
abbrev pub quoted_text : List ℕ → List ℕ
quoted_text bytes = codes "\"" ++ escaped (take most_quoted bytes) ++ (if nat_lt most_quoted (length bytes) then codes "\".." else codes "\"")

-- ---- in the code

abbrev pub word_text : Word → List ℕ
word_text (words.Text piece) = piece.now
word_text (words.Number n) = decimal n
word_text (words.Second second) = second_text second
word_text (words.Date second) = date_text second
word_text (words.Digest imprint) = hex_of imprint.now
word_text (words.Short bytes) = short_text bytes.now
word_text (words.Quoted bytes) = quoted_text bytes.now

-- words with nothing between them
abbrev pub pasted : List (List ℕ) → List ℕ
pasted [] = []
pasted (word ∷ words) = word ++ pasted words
