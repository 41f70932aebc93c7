-- What the code says of what it reads.
use Rattle.std.specs.Prelude.{◌≡◌, ◌≢◌, ◌<◌, ◌-◌, [], ◌∷◌, ◌++◌, Bool, true, false, codes, length, slice_index, Option, IfSome}
use Rattle.std.specs.Io.KnownBytes.{Consumes}
use Rattle.ksi_schedule.specs.Pieces.{Text}
use Rattle.ksi_records.specs.declared.blocks.lines.Came.{Came}
use Rattle.ksi_records.specs.declared.blocks.lines.Came.TheVariants as comes
use Rattle.ksi_records.specs.declared.blocks.lines.LastLine.{LastLine}
use Rattle.ksi_records.specs.declared.blocks.lines.LastLine.TheVariants as lasts
use Rattle.ksi_records.specs.Blocks.{IsLine, IsBlock, IsCutBlock}

abbrev pub IsLineOf : (old new : Option Text) → (line : Text) → Came → Type 0
IsLineOf old new line comes.Line = Consumes old new (line ++ 10 ∷ []) × IsLine line
IsLineOf old new line comes.Cut = IfSome old (λ bytes. (bytes ≢ []) × IsLine bytes)
IsLineOf old new line comes.End = IfSome old (λ bytes. bytes ≡ [])

abbrev pub IsLastLine : Text → LastLine → Type 0
IsLastLine line lasts.Stop = line ≡ codes ".\n"
IsLastLine line lasts.Other = (0 < length line) × (slice_index line (length line - 1) ≡ 10) × (line ≢ codes ".\n")
IsLastLine line lasts.Cut = 0 < length line → slice_index line (length line - 1) ≢ 10

abbrev pub IsBlockOf : (old new : Option Text) → (block : Text) → Bool → Type 0
IsBlockOf old new block true = Consumes old new block × IsBlock block
IsBlockOf old new block false = IfSome old IsCutBlock
