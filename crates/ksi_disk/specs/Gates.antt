-- Records with commit bytes (gates): how they are encoded, and how any bytes are read as records.
use Rattle.std.specs.Int.{w32, from_be_bytes, to_be_bytes}
use Rattle.std.specs.Prelude.{ℕ, zero, suc, ◌+◌, nat_le, ◌==◌, Bool, if◌then◌else◌, List, [], ◌∷◌, ◌++◌, length, take, drop}
use Rattle.ksi_disk.specs.Images.{laid_over}
use Rattle.ksi_disk.specs.declared.ending.Ending.{Ending}
use Rattle.ksi_disk.specs.declared.ending.Ending.TheVariants.{Closed, Broken}
use Rattle.ksi_disk.specs.declared.front.Front.{Front}
use Rattle.ksi_disk.specs.declared.front.Front.TheVariants as front

-- a record: an open commit byte, the length of its content in four bytes, its content
abbrev pub record_text : List ℕ → List ℕ
record_text content = 1 ∷ to_be_bytes w32 (length content) ++ content

-- a file with a text after the commit byte at a place
abbrev pub staged : List ℕ → ℕ → List ℕ → List ℕ
staged file gate text = laid_over file (gate + 1) text

-- what follows the commit byte of a record: its length, its content, and the next commit byte, which is closed
abbrev pub behind_gate : List ℕ → List ℕ
behind_gate content = to_be_bytes w32 (length content) ++ content ++ 0 ∷ []

-- records, one after the other
abbrev pub records_text : List (List ℕ) → List ℕ
records_text [] = []
records_text (content ∷ contents) = record_text content ++ records_text contents

-- the length in the first four bytes
abbrev pub stated : List ℕ → ℕ
stated bytes = from_be_bytes w32 (take 4 bytes)

-- there are four bytes, followed by as many as they state
abbrev pub is_whole : List ℕ → Bool
is_whole bytes = nat_le (4 + stated bytes) (length bytes)

-- The first thing in the bytes: a closed commit byte, which is any byte but 1; a record after an open one; or no commit byte,
-- or a truncated record.
abbrev pub front_at : List ℕ → Front
front_at [] = front.Broken
front_at (gate ∷ rest) =
    if gate == 1 then (if is_whole rest then front.Whole (take (stated rest) (drop 4 rest)) else front.Broken)
    else front.Closed

-- the records up to the first commit byte that is not open, and how they end there
pub record Reading : Type 0 where
  pub records : List (List ℕ)
  pub ending : Ending

abbrev pub ends : Ending → Reading
ends ending = record { records = []; ending = ending }

-- the place of the commit byte after the records, or where it is missing or its record is truncated
abbrev pub place_of : Ending → ℕ
place_of (Closed place) = place
place_of (Broken place) = place

-- records, followed by what is read after them
abbrev pub behind : List (List ℕ) → Reading → Reading
behind records reading = record { records = records ++ reading.records; ending = reading.ending }

abbrev pub reading_after : (ℕ → List ℕ → Reading) → ℕ → List ℕ → Front → Reading
reading_after others place bytes front.Closed = ends (Closed place)
reading_after others place bytes front.Broken = ends (Broken place)
reading_after others place bytes (front.Whole content) = behind (content ∷ []) (others (place + (5 + length content)) (drop (5 + length content) bytes))

abbrev pub reading_within : ℕ → ℕ → List ℕ → Reading
reading_within zero place bytes = ends (Broken place)
reading_within (suc most) place bytes = reading_after (reading_within most) place bytes (front_at bytes)

-- the reading of bytes that begin at a place: there are at most as many commit bytes as bytes, and one missing
unfoldable pub reading_at : ℕ → List ℕ → Reading
reading_at place bytes = reading_within (suc (length bytes)) place bytes

-- the reading of a file after a header of this many bytes
abbrev pub reading_of : ℕ → List ℕ → Reading
reading_of from file = reading_at from (drop from file)
