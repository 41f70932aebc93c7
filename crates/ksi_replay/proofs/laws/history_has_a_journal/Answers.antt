use Rattle.std.proofs.Common.{arith}
use Rattle.ksi_imprint.specs.Imprints.{imprint_of}
use Rattle.ksi_world.specs.Histories.{world_of}
use Rattle.ksi_replay.specs.Journals.{journal_of}
use Rattle.ksi_replay.proofs.Lawful.{journal_is}
use Rattle.ksi_replay.proofs.laws.history_has_a_journal.Goals as goal

pub returns-clause-any : goal.returns-clause-any
unfolding journal_of
returns-clause-any c = λ image h images bytes is.
    let requests = c.requests_are_few.ensures image h in
    let most = is.few in
    journal_is image (world_of image h)
    (record {
      few = omega (arith, requests, most);
      short = λ number text issued. c.issued_is_short.ensures image h images is.plan is.events is.imprints number text issued;
      bytes = λ number text issued. c.history_is_of_bytes.ensures.issued image h images bytes is number text issued;
    })
    h.plan is.plan.core_plan
    (c.kept_is_listed.ensures.rising image h is.plan is.events) (c.kept_is_listed.ensures.early image h is.plan is.events)
    (c.kept_is_listed.ensures.trees image h is.plan is.events) (c.kept_is_listed.ensures.imprints image h images is.plan is.events is.imprints)
    (c.published_is_listed.ensures.rising image h is.plan is.events) (c.published_is_listed.ensures.imprints image h images is.plan is.events is.imprints)

pub returns-clause-spelled : goal.returns-clause-spelled
returns-clause-spelled c = λ schedule h spelled.
    returns-clause-any c imprint_of h c.hashes_are_bytes.ensures.imprints c.hashes_are_bytes.ensures.bytes (c.spelled_is_schedule.ensures.history schedule h spelled)
