use Rattle.ksi_world.specs.Histories.{after, held_in}
use Rattle.ksi_world.proofs.Deciding.{after_sound, proposed}
use Rattle.ksi_world.proofs.Listed.{held_range}
use Rattle.ksi_world.proofs.Lowest.{lowest_some}
use Rattle.ksi_world.proofs.Voted.{after_voted}
use Rattle.ksi_world.proofs.laws.validity.Goals as goal

pub returns-clause-root : goal.returns-clause-root
returns-clause-root c = λ image h is are. proposed image h.plan is c.steps_agree.ensures.validity (after image h.plan h.events)
    (after_sound image h.plan is (c.one_round.ensures.level image) h.events are) (after_voted image h.plan is h.events are)

pub returns-clause-range : goal.returns-clause-range
returns-clause-range c = λ image h is are. held_range image h.plan (after image h.plan h.events) (after_voted image h.plan is h.events are)
    (after_sound image h.plan is (c.one_round.ensures.level image) h.events are)

pub returns-clause-kept : goal.returns-clause-kept
returns-clause-kept c = λ image h is are second root at.
    let holder = lowest_some (λ core. held_in (after image h.plan h.events) core second) 0 h.plan.cores root at in
    held_range image h.plan (after image h.plan h.events) (after_voted image h.plan is h.events are)
    (after_sound image h.plan is (c.one_round.ensures.level image) h.events are) holder.0 second root holder.3
