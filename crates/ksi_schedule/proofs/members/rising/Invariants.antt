use Rattle.std.proofs.Common.{◌≡◌, length, [], Some}
use Rattle.ksi_schedule.specs.Members.{rising_from}
use Rattle.ksi_schedule.specs.Reading.{words_left}
use Rattle.ksi_schedule.proofs.members.rising.Given as goal

abbrev pub invariant-words : goal.invariant-words
invariant-words l = rising_from l.plan l.voters (words_left l.rest) ≡ rising_from l.fn.plan (Some []) (words_left l.fn.words)

abbrev pub decreases-words : goal.decreases-words
decreases-words l = length (words_left l.rest)
