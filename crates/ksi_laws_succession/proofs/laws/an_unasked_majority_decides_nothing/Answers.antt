use Rattle.std.proofs.Common.{◌∙◌, []}
use Rattle.ksi_laws_succession.proofs.Deciding.{none_held}
use Rattle.ksi_laws_succession.proofs.Retiring.{first_cast_none}
use Rattle.ksi_laws_succession.proofs.Unasked.{SecondsTurn, still_none}
use Rattle.ksi_laws_succession.proofs.laws.an_unasked_majority_decides_nothing.Goals as goal

pub returns-clause-history : goal.returns-clause-history
returns-clause-history c = λ image plan is events are second who most unasked core.
    let law : SecondsTurn image plan = record { seconds = c.events_are_turns.ensures.seconds image plan; still = c.events_are_turns.ensures.still image plan; restarted = c.events_are_turns.ensures.restarted image plan } in
    none_held image plan is events are second who most (λ k yes. still_none image plan law k second [] events (unasked k yes) (first_cast_none image plan k second)) core

pub returns-clause-nodes : goal.returns-clause-nodes
returns-clause-nodes c = λ image plan is events are second who most unasked core running after.
    c.histories_of_crashed_nodes_hold.ensures.held image plan events core running after second ∙ returns-clause-history c image plan is events are second who most unasked core
