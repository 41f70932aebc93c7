use Rattle.std.proofs.Common.{◌+◌, sym, subst}
use Rattle.ksi_tlv.specs.Spelling.{AreBytes}
use Rattle.ksi_calendar.specs.Climbing.{calendar_join}
use Rattle.ksi_calendar.specs.Calendar.{calendar_leaf}
use Rattle.ksi_world.specs.Histories.{world_of}
use Rattle.ksi_world.specs.Records.{kept_seconds}
use Rattle.ksi_world.proofs.Carrying.{RoundLaws}
use Rattle.ksi_world.proofs.Imprinted.{zero_is, name_laws}
use Rattle.ksi_world.proofs.IssuedCarried.{issued_carried}
use Rattle.ksi_world.proofs.KeptOf.{Both, kept_each, roots_of, ask_for_bytes, ask_for_both, issued_imprints, issued_bytes, may_be_issued, is_of_bytes, zero_bytes}
use Rattle.ksi_world.proofs.laws.history_is_of_bytes.Goals as goal

pub returns-clause-issued : goal.returns-clause-issued
returns-clause-issued c = λ image h images bytes is number text is_issued.
    let laws : RoundLaws Both image = record {
      zero_too = (zero_is, zero_bytes);
      images = λ x. (images x, bytes x);
      rises = c.one_round.ensures.level image;
      climb = c.one_chain.ensures.climbs image;
      few = c.one_chain.ensures.few image;
      sum = c.levels_rise.ensures.sum image;
      names = name_laws c.metas_are_even.ensures.least c.metas_are_even.ensures.most c.metas_are_even.ensures.bytes;
    } in
    let carried = issued_carried Both image h.plan is.plan laws c.steps_agree.ensures.agreement c.steps_agree.ensures.validity
    (λ seconds t p few. c.one_path.ensures.length (calendar_join image) (calendar_leaf seconds) 0 t (p + 1) 63 few) h.events is.events (ask_for_both h.events is.imprints is.bytes) number text is_issued in
    let joined = carried.0 in
    let second = joined.asked.second in
    let input = joined.asked.imprint in
    subst AreBytes (sym joined.text_is)
    (c.issued_is_bytes.ensures second input joined.links joined.above
    (may_be_issued second input joined.links joined.above (issued_imprints second input joined.links joined.above carried.1))
    (is_of_bytes laws.names second input joined.links joined.above (issued_bytes second input joined.links joined.above carried.1)))

pub returns-clause-kept : goal.returns-clause-kept
returns-clause-kept c = λ image h bytes is.
    let laws : RoundLaws AreBytes image = record {
      zero_too = zero_bytes;
      images = bytes;
      rises = c.one_round.ensures.level image;
      climb = c.one_chain.ensures.climbs image;
      few = c.one_chain.ensures.few image;
      sum = c.levels_rise.ensures.sum image;
      names = name_laws c.metas_are_even.ensures.least c.metas_are_even.ensures.most c.metas_are_even.ensures.bytes;
    } in
    roots_of AreBytes (kept_seconds image h.plan (world_of image h))
    (kept_each AreBytes image h.plan is.plan laws c.steps_agree.ensures.agreement c.steps_agree.ensures.validity
    (λ seconds t p few. c.one_path.ensures.length (calendar_join image) (calendar_leaf seconds) 0 t (p + 1) 63 few) h.events is.events (ask_for_bytes h.events is.bytes))
