-- Lines of an input.
use Rattle.std.specs.Prelude.{◌≡◌, ◌≢◌, ◌⊎◌, ℕ, ◌≤◌, ◌<◌, List, [], ◌∷◌, ◌++◌, All, length, take, Bool, true, false, Option, Some, None}
use Rattle.std.specs.Io.KnownBytes.{Consumes, IsAtEnd}
use Rattle.ksi_node.specs.declared.inlet.Came.{Came}
use Rattle.ksi_node.specs.declared.inlet.Came.TheVariants as cames
use Rattle.ksi_node.specs.declared.inlet.Cut.{Cut}
use Rattle.ksi_node.specs.declared.inlet.Piece.{Piece}
use Rattle.ksi_node.specs.declared.inlet.Piece.TheVariants as pieces

-- no byte is a line feed
abbrev pub NoFeed : List ℕ → Type 0
NoFeed text = All (λ b. b ≢ 10) text

-- ---- one line

-- the bytes of a line, and the rest of the input after its line feed
abbrev pub IsLine : (input line rest : List ℕ) → Type 0
IsLine input line rest = NoFeed line × (length line ≤ 32000) × (input ≡ line ++ 10 ∷ rest)

-- a line with more bytes than a line may have, and the rest after it; the input may end without its line feed
pub record IsLong (input rest : List ℕ) : Type 0 where
  pub line : List ℕ
  pub free : NoFeed line
  pub more : 32000 < length line
  pub cut : (input ≡ line ++ 10 ∷ rest) ⊎ ((input ≡ line) × (rest ≡ []))

-- only a part of a line is left, possibly empty, and it is dropped
abbrev pub IsEnd : (input rest : List ℕ) → Type 0
IsEnd input rest = NoFeed input × (length input ≤ 32000) × (rest ≡ [])

abbrev pub Comes : Came → (line input rest : List ℕ) → Type 0
Comes cames.Line line input rest = IsLine input line rest
Comes cames.Long line input rest = IsLong input rest
Comes cames.End line input rest = IsEnd input rest

-- a line has no line feed
abbrev pub IsFree : Came → (line : List ℕ) → Type 0
IsFree cames.Line line = NoFeed line
IsFree cames.Long line = Unit {0}
IsFree cames.End line = Unit {0}

-- the result of reading a line, if the input is known; else only that a line has no line feed
abbrev pub HasCome : Came → (line : List ℕ) → (input rest : Option (List ℕ)) → Type 0
HasCome came line None rest = IsFree came line
HasCome came line (Some input) None = ⊥
HasCome came line (Some input) (Some rest) = Comes came line input rest

-- ---- the lines of an input

-- a line was read, or `None` if it was too long
abbrev pub OneCame : Option (List ℕ) → (input rest : List ℕ) → Type 0
OneCame (Some line) input rest = IsLine input line rest
OneCame None input rest = IsLong input rest

-- these lines were read, one after the other, and this is the rest
abbrev pub LinesCame : List (Option (List ℕ)) → (input rest : List ℕ) → Type 0
LinesCame [] input rest = rest ≡ input
LinesCame (one ∷ lines) input rest = (mid : List ℕ) × OneCame one input mid × LinesCame lines mid rest

-- the same, if the input is known
abbrev pub HaveCome : List (Option (List ℕ)) → (input rest : Option (List ℕ)) → Type 0
HaveCome lines None rest = Unit {0}
HaveCome lines (Some input) None = ⊥
HaveCome lines (Some input) (Some rest) = LinesCame lines input rest

-- these are the lines of an input: only a part of a line follows them
abbrev pub AreLinesOf : Option (List ℕ) → List (Option (List ℕ)) → Type 0
AreLinesOf None lines = Unit {0}
AreLinesOf (Some input) lines = (left : List ℕ) × LinesCame lines input left × NoFeed left × (length left ≤ 32000)

-- ---- in the code

abbrev pub is_end : Came → Bool
is_end cames.Line = false
is_end cames.Long = false
is_end cames.End = true

abbrev pub is_long : Came → Bool
is_long cames.Line = false
is_long cames.Long = true
is_long cames.End = false

-- the line that was read, or `None` if it was too long
abbrev pub came_line : (is_long : Bool) → List ℕ → Option (List ℕ)
came_line true line = None
came_line false line = Some line

-- the result after the last piece of a line
abbrev pub came_of : Piece → (is_long : Bool) → Came
came_of piece true = cames.Long
came_of pieces.More false = cames.End
came_of pieces.Whole false = cames.Line
came_of pieces.Stopped false = cames.End

-- the line so far: its bytes, or that there are too many
abbrev pub Holds : (so_far line : List ℕ) → (is_long : Bool) → Type 0
Holds so_far line false = (line ≡ so_far) × (length so_far ≤ 32000)
Holds so_far line true = 32000 < length so_far

-- a piece of the input
abbrev pub IsPiece : Piece → List ℕ → (old new : Option (List ℕ)) → Type 0
IsPiece pieces.More bytes old new = Consumes old new bytes
IsPiece pieces.Whole bytes old new = Consumes old new (bytes ++ 10 ∷ [])
IsPiece pieces.Stopped bytes old new = (bytes ≡ []) × IsAtEnd old × Consumes old new []

abbrev pub PieceTaken : Piece → (old_line : List ℕ) (old_long : Bool) (new_line : List ℕ) (new_long : Bool) → (old new : Option (List ℕ)) → Type 0
PieceTaken piece old_line old_long new_line new_long old new =
    (bytes : List ℕ) × NoFeed bytes × IsPiece piece bytes old new × ((so_far : List ℕ) → Holds so_far old_line old_long → Holds (so_far ++ bytes) new_line new_long)

-- how many of the buffered bytes a piece uses
abbrev pub IsTaken : Piece → (bytes : List ℕ) → (front used : ℕ) → Type 0
IsTaken pieces.More bytes front used = used ≡ front
IsTaken pieces.Whole bytes front used = take used bytes ≡ take front bytes ++ 10 ∷ []
IsTaken pieces.Stopped bytes front used = (length bytes ≡ 0) × (front ≡ 0) × (used ≡ 0)

pub record IsCut (bytes : List ℕ) (cut : Cut) : Type 0 where
  pub within : cut.front ≤ length bytes
  pub used : cut.used ≤ length bytes
  pub free : NoFeed (take cut.front bytes)
  pub taken : IsTaken cut.piece bytes cut.front cut.used
