use Rattle.std.proofs.Common.{◌+◌}
use Rattle.ksi_imprint.specs.Imprints.{imprint_of}
use Rattle.ksi_calendar.specs.Climbing.{calendar_join}
use Rattle.ksi_calendar.specs.Calendar.{calendar_leaf}
use Rattle.ksi_world.proofs.Carrying.{RoundLaws}
use Rattle.ksi_world.proofs.Imprinted.{zero_is, name_laws}
use Rattle.ksi_world.proofs.KeptOf.{Both, ask_for_both, zero_bytes}
use Rattle.ksi_laws_records.proofs.Taking.{IssuedLaws, LineLaws, message_fits, message_short, message_taken}
use Rattle.ksi_laws_records.proofs.laws.messages_are_taken.Goals as goal

pub returns-clause-any : goal.returns-clause-any
returns-clause-any c = λ image h images bytes is are imprints of_bytes number m at fits.
    let laws : RoundLaws Both image = record {
      zero_too = (zero_is, zero_bytes);
      images = λ x. (images x, bytes x);
      rises = c.one_round.ensures.level image;
      climb = c.one_chain.ensures.climbs image;
      few = c.one_chain.ensures.few image;
      sum = c.levels_rise.ensures.sum image;
      names = name_laws c.metas_are_even.ensures.least c.metas_are_even.ensures.most c.metas_are_even.ensures.bytes;
    } in
    let issue : IssuedLaws = record { signature = c.issued_is_signature.ensures.signature; bytes = c.issued_is_bytes.ensures; short = c.issued_is_signature.ensures.short } in
    let print : LineLaws = record { core = c.printed_lines_are_taken.ensures.core; aggregator = c.printed_lines_are_taken.ensures.aggregator } in
    message_taken image h.plan is laws (λ seconds t p few. c.one_path.ensures.length (calendar_join image) (calendar_leaf seconds) 0 t (p + 1) 63 few) issue print
    h.events are (ask_for_both h.events imprints of_bytes) number m at fits

pub returns-clause-seven : goal.returns-clause-seven
returns-clause-seven c = λ image h images bytes is are imprints of_bytes seven number m at.
    let laws : RoundLaws Both image = record {
      zero_too = (zero_is, zero_bytes);
      images = λ x. (images x, bytes x);
      rises = c.one_round.ensures.level image;
      climb = c.one_chain.ensures.climbs image;
      few = c.one_chain.ensures.few image;
      sum = c.levels_rise.ensures.sum image;
      names = name_laws c.metas_are_even.ensures.least c.metas_are_even.ensures.most c.metas_are_even.ensures.bytes;
    } in
    returns-clause-any c image h images bytes is are imprints of_bytes number m at (message_fits image h.plan is laws.rises h.events are seven number m at)

pub returns-clause-short : goal.returns-clause-short
returns-clause-short c = λ image h images bytes is are imprints of_bytes number m at.
    let laws : RoundLaws Both image = record {
      zero_too = (zero_is, zero_bytes);
      images = λ x. (images x, bytes x);
      rises = c.one_round.ensures.level image;
      climb = c.one_chain.ensures.climbs image;
      few = c.one_chain.ensures.few image;
      sum = c.levels_rise.ensures.sum image;
      names = name_laws c.metas_are_even.ensures.least c.metas_are_even.ensures.most c.metas_are_even.ensures.bytes;
    } in
    let issue : IssuedLaws = record { signature = c.issued_is_signature.ensures.signature; bytes = c.issued_is_bytes.ensures; short = c.issued_is_signature.ensures.short } in
    let print : LineLaws = record { core = c.printed_lines_are_taken.ensures.core; aggregator = c.printed_lines_are_taken.ensures.aggregator } in
    message_short image h.plan is laws (λ seconds t p few. c.one_path.ensures.length (calendar_join image) (calendar_leaf seconds) 0 t (p + 1) 63 few) issue print
    h.events are (ask_for_both h.events imprints of_bytes) number m at

pub returns-clause-sha : goal.returns-clause-sha
returns-clause-sha c = λ h. returns-clause-any c imprint_of h c.hashes_are_bytes.ensures.imprints c.hashes_are_bytes.ensures.bytes
