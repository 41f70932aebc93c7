use Rattle.std.proofs.Common.{◌+◌}
use Rattle.ksi_calendar.specs.Climbing.{calendar_join}
use Rattle.ksi_calendar.specs.Calendar.{calendar_leaf}
use Rattle.ksi_world.proofs.Imprinted.{name_laws}
use Rattle.ksi_world.proofs.KeptOf.{imprint_laws, ask_for_imprints}
use Rattle.ksi_world.proofs.Wiring.{all_linked}
use Rattle.ksi_world.proofs.laws.responses_climb.Goals as goal

pub returns : goal.returns
returns c = λ image h images is are ask.
    let laws = imprint_laws image images (c.one_round.ensures.level image) (c.one_chain.ensures.climbs image) (c.one_chain.ensures.few image) (c.levels_rise.ensures.sum image) (name_laws c.metas_are_even.ensures.least c.metas_are_even.ensures.most c.metas_are_even.ensures.bytes) in
    all_linked image h.plan is laws (c.one_chain-2.ensures.climbs image)
    (λ seconds t p few. c.one_path.ensures.length (calendar_join image) (calendar_leaf seconds) 0 t (p + 1) 63 few) h.events are (ask_for_imprints h.events ask)
