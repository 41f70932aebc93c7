use Rattle.std.proofs.Common.{arith}
use Rattle.ksi_laws_progress.proofs.Below.{VoteLaws}
use Rattle.ksi_laws_progress.proofs.Issuing.{settles}
use Rattle.ksi_laws_progress.proofs.laws.requests_can_be_issued.Goals as goal

pub returns : goal.returns
returns c = λ image h is core steps number asked some below low waits undecided.
    let laws : VoteLaws = record {
      agree = c.agreement.ensures;
      stays = c.held_stays.ensures;
      are_there = c.voters_are_cores.ensures.voters;
      are_few = c.voters_are_cores.ensures.few;
      own = record { event = c.seconds_are_kept.ensures.event; history = c.seconds_are_kept.ensures.history };
    } in
    settles laws (record { event = c.closed_is_submitted.ensures.event; history = c.closed_is_submitted.ensures.history }) c.requests_are_of_plan.ensures c.one_first_missing.ensures.none image h.plan is.plan
    h.events is.events core steps number asked below low some waits undecided (omega (arith, is.few))
