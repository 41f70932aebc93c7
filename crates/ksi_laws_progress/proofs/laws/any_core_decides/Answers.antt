use Rattle.ksi_laws_progress.proofs.Below.{VoteLaws}
use Rattle.ksi_laws_progress.proofs.Unstuck.{any_decides, any_wins}
use Rattle.ksi_laws_progress.proofs.laws.any_core_decides.Goals as goal

pub returns-clause-decides : goal.returns-clause-decides
returns-clause-decides c = λ image plan events is are core second n some below range majority reached short.
    let laws : VoteLaws = record {
      agree = c.agreement.ensures;
      stays = c.held_stays.ensures;
      are_there = c.voters_are_cores.ensures.voters;
      are_few = c.voters_are_cores.ensures.few;
      own = record { event = c.seconds_are_kept.ensures.event; history = c.seconds_are_kept.ensures.history };
    } in
    any_decides laws image plan is second range events are core below n some majority reached short

pub returns-clause-wins : goal.returns-clause-wins
returns-clause-wins c = λ image plan events is are core second n some below range majority reached short unheld votes.
    let laws : VoteLaws = record {
      agree = c.agreement.ensures;
      stays = c.held_stays.ensures;
      are_there = c.voters_are_cores.ensures.voters;
      are_few = c.voters_are_cores.ensures.few;
      own = record { event = c.seconds_are_kept.ensures.event; history = c.seconds_are_kept.ensures.history };
    } in
    any_wins laws image plan is second range events are core below n some majority reached short unheld votes
