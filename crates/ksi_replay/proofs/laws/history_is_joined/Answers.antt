use Rattle.std.proofs.Common.{List, subst}
use Rattle.ksi_imprint.specs.Imprints.{imprint_of}
use Rattle.ksi_schedule.specs.declared.event.Event.{Event}
use Rattle.ksi_schedule.specs.Events.{AreEvents}
use Rattle.ksi_world.specs.Histories.{after, world_of}
use Rattle.ksi_replay.specs.Journals.{journal_of}
use Rattle.ksi_replay.specs.Lasting.{KeepsRoots}
use Rattle.ksi_replay.proofs.Reaching.{covered_too, covered_back}
use Rattle.ksi_replay.proofs.laws.history_is_joined.Goals as goal

pub returns-clause-over : goal.returns-clause-over
returns-clause-over c = λ image h journal images bytes follows is_journal keeps.
    let is = follows.plan in
    let are = follows.events in
    record {
      issued = λ number text is_issued.
          let joined = c.issued_is_joined.ensures image h is are number text is_issued in
          record {
            asked = joined.asked;
            accepted = joined.accepted;
            covered = covered_too h.plan (world_of image h) journal keeps c.more_is_known.ensures.covered joined.asked.second joined.covered;
            later = λ p to covered.
                c.issued_lasts.ensures.over image h journal images is are follows.imprints is_journal keeps number joined.asked text joined.accepted is_issued
                (c.history_is_of_bytes.ensures.issued image h images bytes follows number text is_issued) p to
                (covered_back h.plan (world_of image h) journal keeps c.more_is_known.ensures.covered p covered);
          };
      answered = λ before later same core p root lt from answer.
          let events = subst (λ (es : List Event). AreEvents h.plan es) same are in
          let kept = subst (λ (es : List Event). KeepsRoots h.plan (after image h.plan es) journal) same keeps in
          c.answered_is_kept.ensures image h.plan before later journal is events is_journal kept core p root lt from answer;
      published = λ before later same k p root at.
          let events = subst (λ (es : List Event). AreEvents h.plan es) same are in
          let kept = subst (λ (es : List Event). KeepsRoots h.plan (after image h.plan es) journal) same keeps in
          record {
            covered = c.published_is_kept.ensures.covered image h.plan before later journal is events kept k p root at;
            root_is = c.published_is_kept.ensures.root image h.plan before later journal is events is_journal kept k p root at;
          };
    }

pub returns-clause-own : goal.returns-clause-own
returns-clause-own c = λ image h images bytes is.
    returns-clause-over c image h (journal_of image h) images bytes is (c.history_has_a_journal.ensures.any image h images bytes is) (c.journal_keeps_roots.ensures image h is.plan is.events)

pub returns-clause-spelled : goal.returns-clause-spelled
returns-clause-spelled c = λ schedule h spelled.
    returns-clause-own c imprint_of h c.hashes_are_bytes.ensures.imprints c.hashes_are_bytes.ensures.bytes (c.spelled_is_schedule.ensures.history schedule h spelled)
