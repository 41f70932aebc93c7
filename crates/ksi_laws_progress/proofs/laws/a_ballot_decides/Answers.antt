use Rattle.std.proofs.Common.{◌∷◌, length, map, ap, arith}
use Rattle.ksi_schedule.specs.Plans.{core_plan_of}
use Rattle.std.proofs.lemmas.List.{length-map}
use Rattle.ksi_schedule.specs.declared.event.Event.TheVariants as happenings
use Rattle.ksi_laws_progress.specs.Numbers.{ballot_numbers}
use Rattle.ksi_laws_progress.specs.Deciding.{voters_on}
use Rattle.ksi_laws_progress.proofs.Below.{VoteLaws}
use Rattle.ksi_laws_progress.proofs.Lists.{many_numbers, in_order}
use Rattle.ksi_laws_progress.proofs.Unstuck.{all_majority, decided, messages, root_is, won}
use Rattle.ksi_laws_progress.proofs.laws.a_ballot_decides.Goals as goal

pub returns-clause-decides : goal.returns-clause-decides
returns-clause-decides c = λ image plan events is are core second some below range majority ahead.
    let laws : VoteLaws = record {
      agree = c.agreement.ensures;
      stays = c.held_stays.ensures;
      are_there = c.voters_are_cores.ensures.voters;
      are_few = c.voters_are_cores.ensures.few;
      own = record { event = c.seconds_are_kept.ensures.event; history = c.seconds_are_kept.ensures.history };
    } in
    decided laws image plan is second range events are core some below majority ahead

pub returns-clause-wins : goal.returns-clause-wins
returns-clause-wins c = λ image plan events is are core second some below range majority ahead unheld votes.
    let laws : VoteLaws = record {
      agree = c.agreement.ensures;
      stays = c.held_stays.ensures;
      are_there = c.voters_are_cores.ensures.voters;
      are_few = c.voters_are_cores.ensures.few;
      own = record { event = c.seconds_are_kept.ensures.event; history = c.seconds_are_kept.ensures.history };
    } in
    won laws image plan is second range events are core some below majority ahead unheld votes

pub returns-clause-events : goal.returns-clause-events
returns-clause-events c = λ plan w core second some.
    let ns = ballot_numbers (length w.wire) (voters_on plan second) some plan.cores in
    omega (arith, length-map ns happenings.Deliver, many_numbers (length w.wire) (voters_on plan second) some plan.cores)

pub returns-clause-messages : goal.returns-clause-messages
returns-clause-messages c = λ image plan events is are core second some below range majority ahead.
    let laws : VoteLaws = record {
      agree = c.agreement.ensures;
      stays = c.held_stays.ensures;
      are_there = c.voters_are_cores.ensures.voters;
      are_few = c.voters_are_cores.ensures.few;
      own = record { event = c.seconds_are_kept.ensures.event; history = c.seconds_are_kept.ensures.history };
    } in
    messages laws image plan is second range events are core some below majority ahead

pub returns-clause-all : goal.returns-clause-all
returns-clause-all c = λ plan w core second is.
    ap (λ ns. happenings.Seal core second ∷ happenings.Ballot core second ∷ map happenings.Deliver ns)
    (in_order (length w.wire) (voters_on plan second) plan.cores (all_majority plan.cores (voters_on plan second) (c.voters_are_cores.ensures.voters (core_plan_of plan) second is.core_plan)).distinct)

pub returns-clause-root : goal.returns-clause-root
returns-clause-root c = λ image plan events is are core second some below range majority least ahead unheld.
    let laws : VoteLaws = record {
      agree = c.agreement.ensures;
      stays = c.held_stays.ensures;
      are_there = c.voters_are_cores.ensures.voters;
      are_few = c.voters_are_cores.ensures.few;
      own = record { event = c.seconds_are_kept.ensures.event; history = c.seconds_are_kept.ensures.history };
    } in
    root_is laws image plan is second range events are core some below majority least ahead unheld
