use Rattle.std.proofs.Common.{◌≡◌, List, Some, sym, subst}
use Rattle.ksi_imprint.specs.Imprints.{imprint_of}
use Rattle.ksi_schedule.specs.declared.event.Event.{Event}
use Rattle.ksi_world.specs.Histories.{after, held_in}
use Rattle.ksi_replay.proofs.laws.all_holds.Goals as goal

pub returns-clause-any : goal.returns-clause-any
returns-clause-any c = λ image h images bytes is.
    let joined = c.history_is_joined.ensures.own image h images bytes is in
    record {
      agreement = c.agreement.ensures image h is.plan is.events;
      stays = λ before later same core second root at.
          subst (λ (es : List Event). held_in (after image h.plan es) core second ≡ Some root) (sym same) (c.held_stays.ensures image h.plan before later core second root at);
      validity = c.validity.ensures.root image h is.plan is.events;
      lasts = joined.issued;
      answered = joined.answered;
      published = joined.published;
      responses = c.responses_climb.ensures image h images is.plan is.events is.imprints;
      recalled = c.history_is_recalled.ensures image h is.plan;
    }

pub returns-clause-spelled : goal.returns-clause-spelled
returns-clause-spelled c = λ schedule h spelled.
    returns-clause-any c imprint_of h c.hashes_are_bytes.ensures.imprints c.hashes_are_bytes.ensures.bytes (c.spelled_is_schedule.ensures.history schedule h spelled)
