-- The lines of what is answered about logs, masked blocks and the proofs of their lines.
use Rattle.std.specs.Prelude.{ℕ, List, [], ◌∷◌, codes}
use Rattle.std.specs.Fmt.{decimal}
use Rattle.ksi_schedule.specs.Printed.{hex_of}
use Rattle.ksi_aggtree.specs.declared.chains.climbing.LevelFault.{LevelFault}
use Rattle.ksi_aggtree.specs.declared.chains.climbing.LevelFault.TheVariants.{Over}
use Rattle.ksi_logblock.specs.declared.logs.LogRefusal.{LogRefusal}
use Rattle.ksi_logblock.specs.declared.logs.LogRefusal.TheVariants as logs
use Rattle.ksi_logblock.specs.declared.locating.LineRefusal.{LineRefusal}
use Rattle.ksi_logblock.specs.declared.locating.LineRefusal.TheVariants as refusals
use Rattle.ksi_logblock.specs.declared.locating.Located.{Located}
use Rattle.ksi_logblock.specs.declared.locating.Located.TheVariants as answers
use Rattle.ksi_lines.specs.Lines.{line_text, refused_for}
use Rattle.ksi_lines.specs.Answers.{clash_line}

-- why a log makes no block
abbrev pub log_refused_line : LogRefusal → List ℕ
log_refused_line logs.NoLines = refused_for (codes "B3" ∷ [])
log_refused_line logs.TooManyLines = refused_for (codes "B5" ∷ [])
log_refused_line (logs.LineTooLong line size) = refused_for (codes "B6" ∷ decimal line ∷ decimal size ∷ [])

-- a block of this many lines has no line k
abbrev pub no_line_line : (k count : ℕ) → List ℕ
no_line_line k count = refused_for (codes "B4" ∷ decimal k ∷ decimal count ∷ [])

-- the first link of a line's proof whose level passes 255
abbrev pub level_line : LevelFault → List ℕ
level_line (Over link level) = refused_for (codes "B1" ∷ decimal link ∷ decimal level ∷ [])

abbrev pub not_led_line : LineRefusal → List ℕ
not_led_line (refusals.Level fault) = level_line fault
not_led_line (refusals.RootDiffers computed kept) = refused_for (codes "B2" ∷ hex_of computed ∷ hex_of kept ∷ [])

-- the place of a proof's line in a block
abbrev pub located_line : Located → List ℕ
located_line (answers.NotAccepted refusal) = not_led_line refusal
located_line (answers.In k) = line_text (codes "in" ∷ decimal k ∷ [])
located_line (answers.Clash clash) = clash_line clash.one clash.two
