use Rattle.std.proofs.Common.{◌≡◌, ◌++◌, drop, take, map}
use Rattle.std.specs.List.{AllByRecursion}
use Rattle.ksi_schedule.specs.Printed.{IsTyped, event_words, text_of_lines}
use Rattle.ksi_schedule.proofs.printing.put_events.Given as goal

-- the text so far and the lines to come make the whole
abbrev pub invariant-loop-event : goal.invariant-loop-event
invariant-loop-event l = record {
  told : l.text.items ++ text_of_lines (map event_words (drop l.event-index l.events)) ≡ l.fn.text.items ++ text_of_lines (map event_words l.events);
  typed : AllByRecursion IsTyped (take l.event-index l.events);
}
