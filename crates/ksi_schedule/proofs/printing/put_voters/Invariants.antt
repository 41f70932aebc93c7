use Rattle.std.proofs.Common.{◌≡◌, ◌++◌, drop, map}
use Rattle.ksi_schedule.specs.Printed.{members_words, text_of_lines}
use Rattle.ksi_schedule.proofs.printing.put_voters.Given as goal

-- the text so far and the lines to come make the whole
abbrev pub invariant-loop-pair : goal.invariant-loop-pair
invariant-loop-pair l = l.text.items ++ text_of_lines (map members_words (drop l.pair-index l.plan.voters)) ≡ l.fn.text.items ++ text_of_lines (map members_words l.plan.voters)
