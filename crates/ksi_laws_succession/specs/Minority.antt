-- A history in which two of three cores decide a second, and no event asks the third about it.
use Rattle.std.specs.Prelude.{List, [], ◌∷◌}
use Rattle.ksi_schedule.specs.declared.event.Event.{Event}
use Rattle.ksi_schedule.specs.declared.event.Event.TheVariants.{Seal, Ballot, Deliver}
use Rattle.ksi_schedule.specs.Plans.{PlanState}

-- three cores, all of which vote
abbrev pub three_cores : PlanState
three_cores = record { cores = 3; start = 10; voters = []; parents = [] }

-- Core 0 seals second 10 and tries a ballot. Each message of it between cores 0 and 1 is delivered once, and none to core 2
abbrev pub two_decide : List Event
two_decide = Seal 0 10 ∷ Ballot 0 10 ∷ Deliver 0 ∷ Deliver 1 ∷ Deliver 3 ∷ Deliver 4 ∷ Deliver 5 ∷ Deliver 6 ∷ Deliver 8 ∷ Deliver 9 ∷ []
