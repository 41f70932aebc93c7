-- What a migration's report means.
use Rattle.std.proofs.Common.{◌≡◌, ℕ, ◌+◌, ◌≤◌, List, [], length, Option, Some, Result, Ok, Err, arith, refl, sym, ap, ◌∙◌}
use Rattle.std.specs.Prelude.{IfOk, ◌↔◌, unwrap_or}
use Rattle.std.specs.Str.{bytes_eq}
use Rattle.std.specs.declared.alloc.AllocError.{AllocError}
use Rattle.std.proofs.lemmas.Bool.{cond-true}
use Rattle.std.proofs.lemmas.Slice.Eq.{bytes_eq-Decides}
use Rattle.ksi_imprint.specs.Imprints.{imprint_of}
use Rattle.ksi_tlv.specs.Spelling.{AreBytes}
use Rattle.ksi_ports.specs.Stored.{Held, with_file}
use Rattle.ksi_signature.specs.declared.signature.Signature.{Signature}
use Rattle.ksi_extender.specs.Extended.{extended}
use Rattle.ksi_extender.specs.Accepted.{first_time}
use Rattle.ksi_auditor.specs.Audit as audits
use Rattle.ksi_consistency.specs.Elements as fronts
use Rattle.ksi_journal.specs.Journal.{Contents}
use Rattle.ksi_journal.specs.File.{IsJournalFile}
use Rattle.ksi_journal.specs.Reading.{journal_at}
use Rattle.ksi_journal.specs.Written.{text_in}
use Rattle.ksi_journal.specs.declared.version.Version.{Version}
use Rattle.ksi_journal.specs.declared.version.Version.TheVariants.{Two}
use Rattle.ksi_top.specs.declared.report.Report.{Report}
use Rattle.ksi_top.specs.Reports.{Ran, and_then, behind, ends}
use Rattle.ksi_top.specs.Loading.{content, file_limit, front_file, journal_file, loaded, loaded_as, loaded_journal, loaded_signature, publications_file, read_as, signature_file, signature_limit, within}
use Rattle.ksi_top.specs.Sign.{signature_of, signed}
use Rattle.ksi_top.specs.Publish.{published}
use Rattle.ksi_top.specs.Extend.{extend_over, extended_report}
use Rattle.ksi_top.specs.Audit.{audit_beside, audit_over, audited}
use Rattle.ksi_top.specs.Front.{fronted}
use Rattle.ksi_top.specs.Compare.{compare_beside, compare_over, compared_as}
use Rattle.ksi_top.specs.Migrate.{GivesTheSame, IsMigrated, migrated}
use Rattle.ksi_top.proofs.Loads.{few_read, loads_as, loads_the_same}

-- what is held under a name once it is saved there
saved_here : (held : Held) (name bytes : List ℕ) → content (with_file held name bytes) name ≡ bytes
saved_here held name bytes = ap (λ (found : Option (List ℕ)). unwrap_or found []) (cond-true (bytes_eq name name) (Some bytes) (held name) ((bytes_eq-Decides name name).1 refl))

-- ---- what follows from one journal, where the other files are the same

behind_same : {T : Type 0} (one other : Result T Report) (next then : T → Ran) → one ≡ other → ((value : T) → next value ≡ then value) → behind one next ≡ behind other then
behind_same {T = T} (Ok value) other next then same steps =
    ap (λ (ran : Ran). record { reported = ran.reported; loads = 1 + ran.loads }) (steps value) ∙ ap (λ (it : Result T Report). behind it then) same
behind_same {T = T} (Err report) other next then same steps = ap (λ (it : Result T Report). behind it then) same

over_extended : (journal : Contents) (before after : Held) (signature : List ℕ) (second : ℕ) (out : List ℕ) → content after signature ≡ content before signature
    → (extend_over journal signature second out).ran after ≡ (extend_over journal signature second out).ran before
unfolding loaded_as loaded
over_extended journal before after signature second out same =
    ap (λ (bytes : List ℕ). behind (and_then (within signature_limit 2 bytes) (read_as signature_file 2)) (λ (s : Signature). ends (extended_report (first_time s) second out (extended imprint_of journal bytes second)))) same

over_audited : (journal : Contents) (read : Signature) (before after : Held) (hash publications : List ℕ) → content after publications ≡ content before publications
    → (audit_over journal read hash publications).ran after ≡ (audit_over journal read hash publications).ran before
over_audited journal read before after hash publications same =
    ap (λ (p : Result (List (ℕ × List ℕ)) Report). behind p (λ (p : List (ℕ × List ℕ)). ends (audited (audits.audit imprint_of journal read hash p)))) (loads_the_same publications_file file_limit 4 before after publications same)

beside_audited : (journal : Contents) (before after : Held) (signature hash publications : List ℕ) → content after signature ≡ content before signature → content after publications ≡ content before publications
    → (audit_beside journal signature hash publications).ran after ≡ (audit_beside journal signature hash publications).ran before
beside_audited journal before after signature hash publications same others =
    behind_same (loaded_signature 2 after signature) (loaded_signature 2 before signature)
    (λ s. (audit_over journal s hash publications).ran after) (λ s. (audit_over journal s hash publications).ran before)
    (loads_the_same signature_file signature_limit 2 before after signature same) (λ s. over_audited journal s before after hash publications others)

over_compared : (old new : Contents) (before after : Held) (proof : List ℕ) → content after proof ≡ content before proof → (compare_over old new proof).ran after ≡ (compare_over old new proof).ran before
over_compared old new before after proof same =
    ap (λ (f : Result fronts.Contents Report). behind f (λ (f : fronts.Contents). ends (compared_as old new f))) (loads_the_same front_file file_limit 3 before after proof same)

beside_compared : (old : Contents) (before after : Held) (one other proof : List ℕ) → loaded_journal 2 after other ≡ loaded_journal 2 before one → content after proof ≡ content before proof
    → (compare_beside old other proof).ran after ≡ (compare_beside old one proof).ran before
beside_compared old before after one other proof same others =
    behind_same (loaded_journal 2 after other) (loaded_journal 2 before one) (λ j. (compare_over old j proof).ran after) (λ j. (compare_over old j proof).ran before)
    same (λ j. over_compared old j before after proof others)

gives_the_same : (before after : Held) (old new : List ℕ) → loaded_journal 1 after new ≡ loaded_journal 1 before old → loaded_journal 2 after new ≡ loaded_journal 2 before old → GivesTheSame before after old new
gives_the_same before after old new is beside = record {
  signs = λ number out. ap (λ (it : Result Contents Report). behind it (λ (j : Contents). ends (signed number out (signature_of number j.issued)))) is;
  publishes = λ out. ap (λ (it : Result Contents Report). behind it (λ (j : Contents). ends (published out j.publications))) is;
  extends = λ signature second out same.
      behind_same (loaded_journal 1 after new) (loaded_journal 1 before old) (λ j. (extend_over j signature second out).ran after) (λ j. (extend_over j signature second out).ran before)
      is (λ j. over_extended j before after signature second out same);
  audits = λ signature hash publications same others.
      behind_same (loaded_journal 1 after new) (loaded_journal 1 before old) (λ j. (audit_beside j signature hash publications).ran after) (λ j. (audit_beside j signature hash publications).ran before)
      is (λ j. beside_audited j before after signature hash publications same others);
  fronts = λ p1 p2 out. ap (λ (it : Result Contents Report). behind it (λ (j : Contents). ends (fronted out p1 p2 j))) is;
  compares = λ other proof same others.
      behind_same (loaded_journal 1 after new) (loaded_journal 1 before old) (λ j. (compare_beside j other proof).ran after) (λ j. (compare_beside j other proof).ran before)
      is (λ j. beside_compared j before after other other proof (loads_the_same journal_file file_limit 2 before after other same) others);
  compares_with = λ other proof same others.
      behind_same (loaded_journal 1 after other) (loaded_journal 1 before other) (λ j. (compare_beside j new proof).ran after) (λ j. (compare_beside j old proof).ran before)
      (loads_the_same journal_file file_limit 1 before after other same) (λ j. beside_compared j before after old new proof beside others);
  compares_itself = λ proof others.
      behind_same (loaded_journal 1 after new) (loaded_journal 1 before old) (λ j. (compare_beside j new proof).ran after) (λ j. (compare_beside j old proof).ran before)
      is (λ j. beside_compared j before after old new proof beside others);
}

-- ---- the report

module _ (journals_read : (bytes : List ℕ) (journal : Contents) → (journal_at imprint_of bytes ≡ Ok journal) ↔ IsJournalFile imprint_of bytes journal)
    (shortest : (bytes : List ℕ) (journal : Contents) (version : Version) → AreBytes bytes → IsJournalFile imprint_of bytes journal → length (text_in version journal) ≤ length bytes) where
  -- a journal file within the limit is read as its journal
  reads : (n : ℕ) (held : Held) (name bytes : List ℕ) (journal : Contents) → content held name ≡ bytes → length bytes ≤ file_limit → IsJournalFile imprint_of bytes journal → loaded_journal n held name ≡ Ok journal
  reads n held name bytes journal same few is = loads_as journal_file file_limit n held name journal (rw same few) ((journals_read (content held name) journal).1 (rw same is))

  pub migrate_means : (held : Held) (old new : List ℕ) (journal : Contents) (computed : Result Report AllocError) → loaded_journal 1 held old ≡ Ok journal → IsJournalFile imprint_of (content held old) journal → AreBytes (content held old)
      → IfOk computed (λ report. report ≡ migrated new journal) → IfOk computed (λ _. IsJournalFile imprint_of (text_in Two journal) journal) → IfOk computed (IsMigrated held old new)
  migrate_means held old new journal (Ok report) loaded is bytes reported again = record {
    journal = journal;
    journal_is = is;
    reported = reported;
    again = again;
    short = shortest (content held old) journal Two bytes is;
    same =
        let few = few_read journal_file file_limit 1 held old journal loaded in
        let short = shortest (content held old) journal Two bytes is in
        let after = with_file held new (text_in Two journal) in
        let read : (n : ℕ) → loaded_journal n after new ≡ Ok journal = λ n. reads n after new (text_in Two journal) journal (saved_here held new (text_in Two journal)) (omega arith) again in
        gives_the_same held after old new (read 1 ∙ sym loaded) (read 2 ∙ sym (reads 2 held old (content held old) journal refl few is));
  }
  migrate_means held old new journal (Err none) loaded is bytes reported again = tt
