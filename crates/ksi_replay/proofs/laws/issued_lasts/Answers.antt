use Rattle.std.proofs.Common.{arith}
use Rattle.ksi_world.specs.Histories.{world_of}
use Rattle.ksi_replay.specs.Journals.{journal_of}
use Rattle.ksi_replay.proofs.Chaining.{issued_aggregated}
use Rattle.ksi_replay.proofs.Reaching.{Laws, lasts_for}
use Rattle.ksi_replay.proofs.laws.issued_lasts.Goals as goal

pub returns-clause-over : goal.returns-clause-over
returns-clause-over c = λ image h journal images plan events ask is keeps number asked text at is_issued are p to covered.
    let carried = c.issued_is_carried.ensures.issued image h images plan events ask number text is_issued in
    let laws : Laws image journal = record {
      aggregates = issued_aggregated image (c.aggregation.ensures image);
      rounds = c.round_links_are_not_bare.ensures;
      whole = c.issued_is_signature.ensures.signature;
      short = c.issued_is_signature.ensures.short;
      early = λ p covered. omega (arith, ((c.calendar_is_covered.ensures.within image journal p is).1 covered).1, c.calendar_is_covered.ensures.early image journal is);
      known = c.more_is_known.ensures.covered;
      leaves = c.one_covered.ensures.leaves;
      climbs = c.one_chain.ensures.climbs image;
      value = c.one_climb.ensures.value image;
      extends = λ bytes signature chains p are leads. c.covered_is_extended.ensures image journal bytes signature chains p images is are leads;
      accepts = λ bytes text signature p are whole e publications. c.extended_is_accepted.ensures.accepted image journal bytes text signature p are whole e publications;
      again = λ bytes text signature p early are whole e. c.extended_is_accepted.ensures.again image journal bytes text signature p images is early are whole e;
      tells = λ signature hash publications t passes decided. c.decided_tells.ensures image journal signature hash publications t is passes decided;
      shows = λ signature hash publications imprint links. c.audit_shows.ensures image journal signature hash publications images is imprint links;
    } in
    lasts_for h.plan (world_of image h) journal keeps image laws number text are carried.0 carried.1 asked at p to covered

pub returns-clause-own : goal.returns-clause-own
returns-clause-own c = λ image h images bytes is number asked text at is_issued p to covered.
    returns-clause-over c image h (journal_of image h) images is.plan is.events is.imprints (c.history_has_a_journal.ensures.any image h images bytes is)
    (c.journal_keeps_roots.ensures image h is.plan is.events) number asked text at is_issued (c.history_is_of_bytes.ensures.issued image h images bytes is number text is_issued) p to covered
