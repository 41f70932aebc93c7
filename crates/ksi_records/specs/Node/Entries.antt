-- The log of a node: entries, each a line, and the block that the node wrote for it.
use Rattle.std.specs.Prelude.{◌≡◌, List, [], ◌∷◌, ◌++◌}
use Rattle.ksi_records.specs.Blocks.{IsBlock}
use Rattle.ksi_schedule.specs.Pieces.{Text}
use Rattle.ksi_records.specs.declared.node.head.Head.{Head}
use Rattle.ksi_records.specs.declared.node.head.Head.TheVariants as heads

-- a first line, what it says, and what follows it
pub record Entry : Type 0 where
  pub line : Text
  pub head : Head
  pub block : Text

abbrev pub entry_text : Entry → Text
entry_text entry = entry.line ++ 10 ∷ entry.block

-- one entry after the other
abbrev pub log_text : List Entry → Text
log_text [] = []
log_text (entry ∷ entries) = entry_text entry ++ log_text entries

-- what the node said is a block; none is of what was not said
abbrev pub HasBlock : Head → Text → Type 0
HasBlock (heads.Said it) block = IsBlock block
HasBlock (heads.Unsaid it) block = block ≡ []
HasBlock heads.Restarted block = block ≡ []

-- a block follows it
abbrev pub WantsBlock : Head → Type 0
WantsBlock (heads.Said it) = Unit {0}
WantsBlock (heads.Unsaid it) = ⊥
WantsBlock heads.Restarted = ⊥
