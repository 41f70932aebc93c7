use Rattle.std.proofs.Common.{◌+◌}
use Rattle.ksi_imprint.specs.Imprints.{IsImprint}
use Rattle.ksi_calendar.specs.Climbing.{calendar_join}
use Rattle.ksi_calendar.specs.Calendar.{calendar_leaf}
use Rattle.ksi_world.proofs.Imprinted.{name_laws}
use Rattle.ksi_world.proofs.KeptOf.{imprint_laws, ask_for_imprints, published_each}
use Rattle.ksi_world.proofs.Publishing.{after_times}
use Rattle.ksi_world.proofs.laws.published_is_listed.Goals as goal

pub returns-clause-rising : goal.returns-clause-rising
returns-clause-rising c = λ image h is are. after_times image h.plan is h.events are

pub returns-clause-imprints : goal.returns-clause-imprints
returns-clause-imprints c = λ image h images is are ask.
    let laws = imprint_laws image images (c.one_round.ensures.level image) (c.one_chain.ensures.climbs image) (c.one_chain.ensures.few image) (c.levels_rise.ensures.sum image) (name_laws c.metas_are_even.ensures.least c.metas_are_even.ensures.most c.metas_are_even.ensures.bytes) in
    published_each IsImprint image h.plan is laws c.steps_agree.ensures.agreement c.steps_agree.ensures.validity
    (λ seconds t p few. c.one_path.ensures.length (calendar_join image) (calendar_leaf seconds) 0 t (p + 1) 63 few) h.events are (ask_for_imprints h.events ask)
