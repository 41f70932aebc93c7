use Rattle.ksi_laws_progress.proofs.Below.{VoteLaws}
use Rattle.ksi_laws_progress.proofs.Schedules.{covered_by}
use Rattle.ksi_laws_progress.proofs.laws.all_seconds_can_be_held.Goals as goal

pub returns : goal.returns
returns c = λ image h is p range.
    let laws : VoteLaws = record {
      agree = c.agreement.ensures;
      stays = c.held_stays.ensures;
      are_there = c.voters_are_cores.ensures.voters;
      are_few = c.voters_are_cores.ensures.few;
      own = record { event = c.seconds_are_kept.ensures.event; history = c.seconds_are_kept.ensures.history };
    } in
    covered_by laws image h is c.one_first_missing.ensures.none p range
