use Rattle.std.proofs.Common.{◌≡◌, List, ap, sym, ◌∙◌}
use Rattle.ksi_imprint.specs.Imprints.{imprint_of}
use Rattle.ksi_journal.specs.Journal.{Contents}
use Rattle.ksi_replay.specs.Journals.{journal_of}
use Rattle.ksi_schedule.specs.Events.{History}
use Rattle.ksi_world.specs.declared.outcome.Asked.{Asked}
use Rattle.ksi_world.specs.Histories.{world_of}
use Rattle.ksi_replay.specs.declared.tally.Tally.{Tally}
use Rattle.ksi_replay.specs.declared.trial.Trial.{Trial}
use Rattle.ksi_replay.specs.Covered.{greatest_covered}
use Rattle.ksi_replay.specs.Drill.{tally_of, tally_with}
use Rattle.ksi_replay.specs.Trials.{trials}
use Rattle.ksi_replay.proofs.drilling.tally.Goals as goal

is_tally : (h : History) (journal : Contents) (requests : List Asked) (found : List Trial) (tally : Tally) → tally ≡ tally_with journal found
    → found ≡ trials imprint_of requests journal (greatest_covered journal) → requests ≡ (world_of imprint_of h).requests → tally ≡ tally_of imprint_of h journal
unfolding tally_of
is_tally h journal requests found tally counted tried same =
    counted ∙ ap (λ (ts : List Trial). tally_with journal ts) (tried ∙ ap (λ (rs : List Asked). trials imprint_of rs journal (greatest_covered journal)) same)

pub returns-clause-tally : goal.returns-clause-tally
returns-clause-tally c =
    is_tally c.args.world.now c.args.journal.now c.requests.result.now c.as_slice.result.now c.counted.result c.counted.ensures
    (c.as_slice.ensures.value ∙ c.in_ok-trials.ensures) c.requests.ensures

-- so as many are accepted as were issued
as_many : (h : History) (journal : Contents) (tally : Tally) → tally ≡ tally_of imprint_of h journal → journal ≡ journal_of imprint_of h
    → (tally_of imprint_of h (journal_of imprint_of h)).accepted ≡ (tally_of imprint_of h (journal_of imprint_of h)).issued → tally.accepted ≡ tally.issued
as_many h journal tally is same accepted =
    let own : tally ≡ tally_of imprint_of h (journal_of imprint_of h) = is ∙ ap (tally_of imprint_of h) same in
    ap (λ (t : Tally). t.accepted) own ∙ accepted ∙ sym (ap (λ (t : Tally). t.issued) own)

pub returns-clause-accepted : goal.returns-clause-accepted
returns-clause-accepted c = as_many c.args.world.now c.args.journal.now c.counted.result (returns-clause-tally c) c.requires
    (c.all_are_accepted.ensures c.args.world.now c.follows_the_rules.ensures)
