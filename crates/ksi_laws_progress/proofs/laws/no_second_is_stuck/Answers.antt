use Rattle.ksi_laws_progress.proofs.Below.{VoteLaws}
use Rattle.ksi_laws_progress.proofs.Unstuck.{unstuck}
use Rattle.ksi_laws_progress.proofs.Schedules.{unstuck_by}
use Rattle.ksi_laws_progress.proofs.laws.no_second_is_stuck.Goals as goal

pub returns-clause-majority : goal.returns-clause-majority
returns-clause-majority c = λ image h is are short second range some majority.
    let laws : VoteLaws = record {
      agree = c.agreement.ensures;
      stays = c.held_stays.ensures;
      are_there = c.voters_are_cores.ensures.voters;
      are_few = c.voters_are_cores.ensures.few;
      own = record { event = c.seconds_are_kept.ensures.event; history = c.seconds_are_kept.ensures.history };
    } in
    unstuck laws image h.plan is second range h.events are short some majority

pub returns-clause-schedule : goal.returns-clause-schedule
returns-clause-schedule c = λ image h is second range.
    let laws : VoteLaws = record {
      agree = c.agreement.ensures;
      stays = c.held_stays.ensures;
      are_there = c.voters_are_cores.ensures.voters;
      are_few = c.voters_are_cores.ensures.few;
      own = record { event = c.seconds_are_kept.ensures.event; history = c.seconds_are_kept.ensures.history };
    } in
    unstuck_by laws image h is second range
