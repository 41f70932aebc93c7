use Rattle.std.proofs.Common.{◌≡◌, ◌+◌, ◌<◌, ◌^◌, length}
use Rattle.ksi_schedule.specs.Pieces.{lines}
use Rattle.ksi_schedule.specs.Lines.{history}
use Rattle.ksi_schedule.specs.Spelled.{IsWantingFrom}
use Rattle.ksi_schedule.specs.Reading.{read_from}
use Rattle.ksi_schedule.proofs.reading.read_rest.Given as goal

-- what is left gives what the whole gives, and memory that is wanting behind is wanting in the whole
abbrev pub invariant-reading : goal.invariant-reading
invariant-reading l = record {
  left : read_from l.number (lines l.rest) (history l.version l.schedule) ≡ read_from 4 (lines l.fn.text) (history l.fn.version l.fn.schedule);
  behind : IsWantingFrom (history l.version l.schedule) (lines l.rest) → IsWantingFrom (history l.fn.version l.fn.schedule) (lines l.fn.text);
  fits : l.number + length l.rest < 2 ^ 64;
}

abbrev pub decreases-reading : goal.decreases-reading
decreases-reading l = length l.rest
