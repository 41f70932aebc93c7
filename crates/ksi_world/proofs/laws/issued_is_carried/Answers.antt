use Rattle.std.proofs.Common.{◌+◌}
use Rattle.ksi_imprint.specs.Imprints.{IsImprint}
use Rattle.ksi_calendar.specs.Climbing.{calendar_join}
use Rattle.ksi_calendar.specs.Calendar.{calendar_leaf}
use Rattle.ksi_world.proofs.IssuedCarried.{kept_is, issued_carried}
use Rattle.ksi_world.proofs.Imprinted.{name_laws}
use Rattle.ksi_world.proofs.KeptOf.{imprint_laws, ask_for_imprints, may_be_issued}
use Rattle.ksi_world.proofs.laws.issued_is_carried.Goals as goal

pub returns-clause-issued : goal.returns-clause-issued
returns-clause-issued c = λ image h images is are ask number text is_issued.
    let laws = imprint_laws image images (c.one_round.ensures.level image) (c.one_chain.ensures.climbs image) (c.one_chain.ensures.few image) (c.levels_rise.ensures.sum image) (name_laws c.metas_are_even.ensures.least c.metas_are_even.ensures.most c.metas_are_even.ensures.bytes) in
    let carried = issued_carried IsImprint image h.plan is laws c.steps_agree.ensures.agreement c.steps_agree.ensures.validity
    (λ seconds t p few. c.one_path.ensures.length (calendar_join image) (calendar_leaf seconds) 0 t (p + 1) 63 few) h.events are (ask_for_imprints h.events ask) number text is_issued in
    let joined = carried.0 in
    (joined, may_be_issued joined.asked.second joined.asked.imprint joined.links joined.above carried.1)

pub returns-clause-kept : goal.returns-clause-kept
returns-clause-kept c = λ image h images is are ask.
    let laws = imprint_laws image images (c.one_round.ensures.level image) (c.one_chain.ensures.climbs image) (c.one_chain.ensures.few image) (c.levels_rise.ensures.sum image) (name_laws c.metas_are_even.ensures.least c.metas_are_even.ensures.most c.metas_are_even.ensures.bytes) in
    kept_is IsImprint image h.plan is laws c.steps_agree.ensures.agreement c.steps_agree.ensures.validity
    (λ seconds t p few. c.one_path.ensures.length (calendar_join image) (calendar_leaf seconds) 0 t (p + 1) 63 few) h.events are (ask_for_imprints h.events ask)
