use Rattle.std.proofs.Common.{◌≡◌, length}
use Rattle.std.specs.List.{list_all}
use Rattle.ksi_schedule.specs.Words.{core_actor, looks_like}
use Rattle.ksi_schedule.specs.Reading.{words_left}
use Rattle.ksi_schedule.proofs.members.name_cores.Given as goal

abbrev pub invariant-words : goal.invariant-words
invariant-words l = list_all (looks_like core_actor) (words_left l.rest) ≡ list_all (looks_like core_actor) (words_left l.fn.words)

abbrev pub decreases-words : goal.decreases-words
decreases-words l = length (words_left l.rest)
