-- What is written of a verdict: a line, and the exit status.
use Rattle.std.specs.Prelude.{ℕ, List, [], ◌∷◌, ◌++◌, codes}
use Rattle.std.specs.Fmt.{decimal}
use Rattle.ksi_records.specs.Blocks.{place_words}
use Rattle.ksi_schedule.specs.Pieces.{Text}
use Rattle.ksi_schedule.specs.Printed.{line_of}
use Rattle.ksi_wire.specs.Refused.{fault_word}
use Rattle.ksi_records.specs.declared.node.fault.LogFault.{LogFault}
use Rattle.ksi_records.specs.declared.node.fault.LogFault.TheVariants as faults
use Rattle.ksi_records.specs.declared.node.verdict.Verdict.{Verdict}
use Rattle.ksi_records.specs.declared.node.verdict.Verdict.TheVariants as verdicts

-- the word of a fault
abbrev pub log_word : LogFault → Text
log_word (faults.Line fault) = fault_word fault
log_word faults.Cut = codes "cut"

abbrev pub verdict_words : Verdict → List Text
verdict_words (verdicts.Agrees entries) = codes "agrees" ∷ decimal entries ∷ []
verdict_words (verdicts.Differs place) = codes "differs" ∷ place_words place
verdict_words (verdicts.Refused fault place) = codes "refused" ∷ log_word fault ∷ place_words place

abbrev pub verdict_text : Verdict → Text
verdict_text verdict = line_of (verdict_words verdict) ++ 10 ∷ []

abbrev pub status_of : Verdict → ℕ
status_of (verdicts.Agrees entries) = 0
status_of (verdicts.Differs place) = 1
status_of (verdicts.Refused fault place) = 3
