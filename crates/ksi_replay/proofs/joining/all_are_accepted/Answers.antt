use Rattle.std.proofs.Common.{◌≡◌, ℕ, List, Some, refl, subst}
use Rattle.std.specs.Prelude.{slice_get}
use Rattle.ksi_imprint.specs.Imprints.{imprint_of}
use Rattle.ksi_world.specs.Histories.{world_of}
use Rattle.ksi_world.specs.Records.{issued_all, issued_of}
use Rattle.ksi_replay.specs.Journals.{journal_of}
use Rattle.ksi_schedule.specs.Events.{History}
use Rattle.ksi_replay.proofs.Accepted.{all_accepted}
use Rattle.ksi_replay.proofs.joining.all_are_accepted.Goals as goal

issued_listed : (h : History) → issued_all imprint_of (world_of imprint_of h) ≡ (journal_of imprint_of h).issued
unfolding journal_of
issued_listed h = refl

pub returns : goal.returns
returns c = λ h is.
    let imprints = c.hashes_are_bytes.ensures.imprints in
    let bytes = c.hashes_are_bytes.ensures.bytes in
    let journal = journal_of imprint_of h in
    let lawful = c.history_has_a_journal.ensures.any imprint_of h imprints bytes is in
    all_accepted h journal (record {
      joined = c.history_is_joined.ensures.own imprint_of h imprints bytes is;
      listed = subst (λ (xs : List (ℕ × List ℕ)). (k : ℕ) (x : ℕ × List ℕ) → slice_get xs k ≡ Some x → issued_of imprint_of (world_of imprint_of h) x.0 ≡ Some x.1) (issued_listed h)
          (c.all_issued.ensures.are imprint_of (world_of imprint_of h));
      extends = c.extensions_are_bytes.ensures.own imprint_of h imprints bytes is;
      within = λ p. c.calendar_is_covered.ensures.within imprint_of journal p lawful;
      read = λ bytes signature are. c.signature_is_read.ensures.signature bytes signature are;
    })
