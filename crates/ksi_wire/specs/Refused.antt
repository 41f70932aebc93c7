-- How a refused line is answered.
use Rattle.std.specs.Prelude.{[], ◌∷◌, codes}
use Rattle.ksi_schedule.specs.Pieces.{Text}
use Rattle.ksi_schedule.specs.Printed.{text_of_lines}
use Rattle.ksi_wire.specs.declared.fault.WireFault.{WireFault}
use Rattle.ksi_wire.specs.declared.fault.WireFault.TheVariants as faults

-- the word of a fault
abbrev pub fault_word : WireFault → Text
fault_word faults.Word = codes "word"
fault_word faults.Number = codes "number"
fault_word faults.Hash = codes "hash"
fault_word faults.Actor = codes "actor"
fault_word faults.Second = codes "second"
fault_word faults.Ballot = codes "ballot"
fault_word faults.Level = codes "level"
fault_word faults.Name = codes "name"
fault_word faults.Above = codes "above"
fault_word faults.Spelling = codes "spelling"
fault_word faults.Long = codes "long"
fault_word faults.Taken = codes "taken"
fault_word faults.Forgotten = codes "forgotten"

-- the block for a line that is refused
abbrev pub refusal_text : WireFault → Text
refusal_text fault = text_of_lines ((codes "refused" ∷ fault_word fault ∷ []) ∷ (codes "." ∷ []) ∷ [])
