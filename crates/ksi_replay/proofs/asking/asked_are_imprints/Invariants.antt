use Rattle.std.proofs.Common.{drop}
use Rattle.ksi_schedule.specs.Events.{AskForBytes, AskForImprints}
use Rattle.ksi_replay.proofs.asking.asked_are_imprints.Given as goal

abbrev pub invariant-loop-event : goal.invariant-loop-event
invariant-loop-event l = record {
  imprints : AskForImprints (drop l.event-index l.events) → AskForImprints l.events;
  bytes : AskForBytes (drop l.event-index l.events) → AskForBytes l.events;
}
