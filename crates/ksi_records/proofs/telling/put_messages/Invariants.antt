use Rattle.std.proofs.Common.{◌≡◌, ◌++◌, drop, map}
use Rattle.ksi_schedule.specs.Printed.{text_of_lines}
use Rattle.ksi_records.specs.Texts.{message_words}
use Rattle.ksi_records.proofs.telling.put_messages.Given as goal

-- the text so far and the lines to come make the whole
abbrev pub invariant-telling : goal.invariant-telling
invariant-telling l = l.text.items ++ text_of_lines (map message_words (drop l.number l.wire)) ≡ l.fn.text.items ++ text_of_lines (map message_words (drop l.before l.wire))
