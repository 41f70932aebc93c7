use Rattle.ksi_imprint.specs.Imprints.{IsImprint}
use Rattle.ksi_world.specs.Histories.{after}
use Rattle.ksi_world.proofs.Carrying.{after_all}
use Rattle.ksi_world.proofs.Deciding.{after_sound, round_is}
use Rattle.ksi_world.proofs.Imprinted.{name_laws}
use Rattle.ksi_world.proofs.KeptOf.{imprint_laws, ask_for_imprints, entries_items}
use Rattle.ksi_world.proofs.SealedStays.{after_within}
use Rattle.ksi_world.proofs.Voted.{after_voted}
use Rattle.ksi_world.proofs.laws.sealed_is_listed.Goals as goal

pub returns-clause-core : goal.returns-clause-core
returns-clause-core c = λ image h is are core second. ((after_voted image h.plan is h.events are).sealed core second).mine

pub returns-clause-range : goal.returns-clause-range
returns-clause-range c = λ image h are. after_within image h.plan h.events are

pub returns-clause-round : goal.returns-clause-round
returns-clause-round c = λ image h is are. round_is image h.plan is c.steps_agree.ensures.validity (after image h.plan h.events)
    (after_sound image h.plan is (c.one_round.ensures.level image) h.events are) (after_voted image h.plan is h.events are)

pub returns-clause-imprints : goal.returns-clause-imprints
returns-clause-imprints c = λ image h images is are ask core second entries at.
    let laws = imprint_laws image images (c.one_round.ensures.level image) (c.one_chain.ensures.climbs image) (c.one_chain.ensures.few image) (c.levels_rise.ensures.sum image) (name_laws c.metas_are_even.ensures.least c.metas_are_even.ensures.most c.metas_are_even.ensures.bytes) in
    entries_items IsImprint entries (((after_all IsImprint image h.plan is laws h.events are (ask_for_imprints h.events ask)).seconds core second).sealed entries at)
