-- Completeness: what was issued, and extended, is accepted.
use Rattle.std.specs.Prelude.{◌≡◌, ℕ, ◌≤◌, List, length, slice_get, Some, Ok}
use Rattle.ksi_imprint.specs.Imprints.{imprint_of}
use Rattle.ksi_ports.specs.Stored.{Held}
use Rattle.ksi_calendar.specs.Covered.{IsCovered}
use Rattle.ksi_publications.specs.File.{IsPublications}
use Rattle.ksi_verifier.specs.declared.verdict.Verdict.TheVariants.{Accepted}
use Rattle.ksi_schedule.specs.Events.{History}
use Rattle.ksi_schedule.specs.Spelled.{IsScheduleText}
use Rattle.ksi_world.specs.declared.outcome.Asked as requests
use Rattle.ksi_world.specs.Histories.{world_of}
use Rattle.ksi_world.specs.Records.{issued_of}
use Rattle.ksi_journal.specs.Journal.{root_at}
use Rattle.ksi_replay.specs.Journals.{journal_of}
use Rattle.ksi_extender.specs.Extended.{extended}
use Rattle.ksi_replay.specs.Lasting.{Publish}
use Rattle.ksi_words.specs.Words.{Asked, verify}
use Rattle.ksi_top.specs.declared.report.Report.{Report}
use Rattle.ksi_top.specs.Loading.{content, file_limit}
use Rattle.ksi_top.specs.Verify.{judged}

-- The files and the hash of a signature that was issued for a second in a history, as `replay` reads one and gives its
-- journal. It was issued of a request for this hash and is extended, over that journal, to a covered second p, its own or a
-- later one; and the first record of p in the publications file, which is within its limit, is the root of the journal to p.
pub record IsTakenFrom (signature hash publications : List ℕ) (second : ℕ) : Type 0 where
  pub schedule : List ℕ
  pub history : History
  pub spelled : IsScheduleText schedule history
  pub number : ℕ
  pub text : List ℕ
  pub issued : issued_of imprint_of (world_of imprint_of history) number ≡ Some text
  pub asked : requests.Asked
  pub request : slice_get (world_of imprint_of history).requests number ≡ Some asked
  pub of_second : asked.second ≡ second
  pub of_hash : asked.imprint ≡ hash
  pub p : ℕ
  pub from : second ≤ p
  pub covered : IsCovered (root_at (journal_of imprint_of history)) (journal_of imprint_of history).start p
  pub extension : extended imprint_of (journal_of imprint_of history) text p ≡ Ok signature
  pub pairs : List (ℕ × List ℕ)
  pub publications_are : IsPublications publications pairs
  pub published : Publish imprint_of (journal_of imprint_of history) p pairs
  pub within : length publications ≤ file_limit

-- such a signature is accepted, at its second
abbrev pub Complete : Asked → Held → Report → Type 0
Complete (verify signature hash publications) held report =
    (second : ℕ) → IsTakenFrom (content held signature) hash (content held publications) second → report ≡ judged (Accepted second)
Complete _ held report = Unit {0}
