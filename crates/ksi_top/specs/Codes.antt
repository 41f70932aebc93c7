-- The exit status of the program for each way in which a run ends.
use Rattle.std.specs.Prelude.{ℕ}
use Rattle.ksi_top.specs.declared.status.Status.{Status}
use Rattle.ksi_top.specs.declared.status.Status.TheVariants.{Done, Refused, Words, Malformed, Fault, NoMemory, Clash, TooLong}

abbrev pub code_of : Status → ℕ
code_of Done = 0
code_of Refused = 1
code_of Words = 2
code_of Malformed = 3
code_of Fault = 4
code_of NoMemory = 5
code_of Clash = 6
code_of TooLong = 7
