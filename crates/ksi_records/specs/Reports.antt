-- What is written of a verdict: a line, and the exit status.
use Rattle.std.specs.Prelude.{ℕ, List, [], ◌∷◌, ◌++◌, codes}
use Rattle.std.specs.Fmt.{decimal}
use Rattle.ksi_schedule.specs.Pieces.{Text}
use Rattle.ksi_schedule.specs.Printed.{line_of}
use Rattle.ksi_wire.specs.Refused.{fault_word}
use Rattle.ksi_records.specs.declared.fault.RecordFault.{RecordFault}
use Rattle.ksi_records.specs.declared.fault.RecordFault.TheVariants as faults
use Rattle.ksi_records.specs.declared.version.Version.{Version}
use Rattle.ksi_records.specs.declared.version.Version.TheVariants as versions
use Rattle.ksi_records.specs.declared.verdict.Counts.{Counts}
use Rattle.ksi_records.specs.Blocks.{place_words}
use Rattle.ksi_records.specs.declared.verdict.Retraced.{Retraced}
use Rattle.ksi_records.specs.declared.verdict.Retraced.TheVariants as retraced

-- the word of a fault
abbrev pub record_word : RecordFault → Text
record_word (faults.Line fault) = fault_word fault
record_word faults.Message = codes "message"
record_word faults.Request = codes "request"
record_word faults.Cut = codes "cut"

-- version 1 does not have the lines that came
abbrev pub version_words : Version → List Text
version_words versions.One = codes "lines" ∷ codes "not" ∷ codes "compared" ∷ []
version_words versions.Two = []

abbrev pub counts_words : Counts → List Text
counts_words counts =
    codes "agrees" ∷ decimal counts.steps ∷ codes "unsaid" ∷ decimal counts.unsaid ∷ codes "signatures" ∷ decimal counts.signatures ∷ version_words counts.version

abbrev pub verdict_words : Retraced → List Text
verdict_words (retraced.Agrees counts) = counts_words counts
verdict_words (retraced.Differs place) = codes "differs" ∷ place_words place
verdict_words (retraced.Refused fault place) = codes "refused" ∷ record_word fault ∷ place_words place

abbrev pub verdict_text : Retraced → Text
verdict_text verdict = line_of (verdict_words verdict) ++ 10 ∷ []

abbrev pub status_of : Retraced → ℕ
status_of (retraced.Agrees counts) = 0
status_of (retraced.Differs place) = 1
status_of (retraced.Refused fault place) = 3
