-- A log: its lines, and the first of them that no block takes.
use Rattle.std.specs.Prelude.{◌≡◌, ◌≢◌, ◌⊎◌, ℕ, ◌<◌, ◌≤◌, ◌==◌, List, [], ◌∷◌, ◌++◌, length, if◌then◌else◌}
use Rattle.std.specs.List.{AllByRecursion, onto_first}
use Rattle.ksi_logblock.specs.declared.logs.LogRefusal.{LogRefusal}
use Rattle.ksi_logblock.specs.declared.logs.LogRefusal.TheVariants.{NoLines, TooManyLines, LineTooLong}
use Rattle.ksi_logblock.specs.Blocks.{longest_line, most_lines}

-- the lines end with a line feed, which the last may lack
abbrev pub lines_of : List ℕ → List (List ℕ)
lines_of [] = []
lines_of (byte ∷ log) = if byte == 10 then [] ∷ lines_of log else onto_first byte (lines_of log)

-- each line with a line feed after it
abbrev pub text_of : List (List ℕ) → List ℕ
text_of [] = []
text_of (line ∷ lines) = line ++ 10 ∷ text_of lines

abbrev pub HasNoFeed : List ℕ → Type 0
HasNoFeed line = AllByRecursion (λ byte. byte ≢ 10) line

-- the last line is not empty, and lacks its line feed
pub record LacksLast (log : List ℕ) (lines : List (List ℕ)) : Type 0 where
  pub front : List (List ℕ)
  pub last : List ℕ
  pub split : lines ≡ front ++ last ∷ []
  pub some : 0 < length last
  pub text : log ≡ text_of front ++ last

-- the log is the text of these lines, or lacks the last line feed
pub record IsLogOf (log : List ℕ) (lines : List (List ℕ)) : Type 0 where
  pub free : AllByRecursion HasNoFeed lines
  pub text : (log ≡ text_of lines) ⊎ LacksLast log lines

abbrev pub IsShort : List ℕ → Type 0
IsShort line = length line ≤ longest_line

-- as many lines as a block may have, of as many bytes
pub record AreTaken (lines : List (List ℕ)) : Type 0 where
  pub few : length lines ≤ most_lines
  pub short : AllByRecursion IsShort lines

-- the lines of a block
pub record MakeBlock (lines : List (List ℕ)) : Type 0 where
  pub some : 0 < length lines
  pub taken : AreTaken lines

-- line k, counted from 0, after lines that a block takes
pub record IsReached (lines : List (List ℕ)) (k : ℕ) (line : List ℕ) : Type 0 where
  pub before : List (List ℕ)
  pub others : List (List ℕ)
  pub split : lines ≡ before ++ line ∷ others
  pub number : k ≡ length before
  pub taken : AreTaken before

-- there is a line after as many as a block may have
pub record IsLineTooMany (lines : List (List ℕ)) : Type 0 where
  pub line : List ℕ
  pub reached : IsReached lines most_lines line

-- line k, which a block has room for, has this many bytes, more than it may have
pub record IsLineTooLong (lines : List (List ℕ)) (k size : ℕ) : Type 0 where
  pub line : List ℕ
  pub reached : IsReached lines k line
  pub room : k < most_lines
  pub size_is : size ≡ length line
  pub long : longest_line < size

-- why lines make no block
abbrev pub IsLogRefusal : List (List ℕ) → LogRefusal → Type 0
IsLogRefusal lines NoLines = lines ≡ []
IsLogRefusal lines TooManyLines = IsLineTooMany lines
IsLogRefusal lines (LineTooLong k size) = IsLineTooLong lines k size
