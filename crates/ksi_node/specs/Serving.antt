-- A node as a process: the outcomes of its lines, and the texts that it writes.
use Rattle.std.specs.Prelude.{◌≡◌, ℕ, List, [], ◌∷◌, ◌++◌, codes, Option}
use Rattle.std.specs.Fmt.{decimal}
use Rattle.std.specs.Io.KnownBytes.{Appends}
use Rattle.ksi_node.specs.Inlet.{AreLinesOf}
use Rattle.ksi_schedule.specs.Pieces.{Text}
use Rattle.ksi_schedule.specs.Printed.{text_of_lines}

-- the node is ready, with this number of records
abbrev pub ready_text : ℕ → Text
ready_text records = text_of_lines ((codes "ready" ∷ decimal records ∷ []) ∷ (codes "." ∷ []) ∷ [])

-- A node with states S, which writes a text for each line; the line is `None` if it was too long.
module _ {S : Type 0} (Outcome : Option Text → (before after : S) → (said : Text) → Type 0) where
  -- a block for each line, in order
  abbrev pub AreOutcomes : List (Option Text) → (before after : S) → (said : Text) → Type 0
  AreOutcomes [] before after said = (after ≡ before) × (said ≡ [])
  AreOutcomes (line ∷ lines) before after said =
      (mid : S) × (first : Text) × (others : Text) × Outcome line before mid first × AreOutcomes lines mid after others × (said ≡ first ++ others)

  -- the outcome of a line; its text is appended to the output
  abbrev pub Answered : Option Text → (before after : S) → (told now : Option Text) → Type 0
  Answered line before after told now = (said : Text) × Outcome line before after said × Appends told now said

  -- these lines were read; the output is `ready`, then a block for each
  pub record HasServed (records : ℕ) (lines : List (Option Text)) (before after : S) (told now : Option Text) : Type 0 where
    pub said : Text
    pub outcomes : AreOutcomes lines before after said
    pub appended : Appends told now (ready_text records ++ said)

  -- the lines of an input, all of them, were served
  abbrev pub IsServed : (records : ℕ) → (input : Option Text) → (before after : S) → (told now : Option Text) → Type 0
  IsServed records input before after told now = (lines : List (Option Text)) × AreLinesOf input lines × HasServed records lines before after told now

-- ---- in the code

-- a block of one line, and the full stop
abbrev pub block_text : (front word : Text) → Text
block_text front word = (front ++ word) ++ codes "\n.\n"
