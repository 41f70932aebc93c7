-- The verdict on a signature: the first check that fails, or the second that the signature proves.
use Rattle.std.specs.Prelude.{ℕ, ◌==◌, not, List, Option, Some, None, option_map, Result, Ok, Err}
use Rattle.std.specs.Str.{bytes_eq}
use Rattle.ksi_imprint.specs.Imprints.{zero_imprint}
use Rattle.ksi_split.specs.Parts.{second_at}
use Rattle.ksi_split.specs.Trees.{climb_links}
use Rattle.ksi_split.specs.declared.fault.ShapeFault.{ShapeFault}
use Rattle.ksi_aggtree.specs.declared.chains.node.Node.{Node}
use Rattle.ksi_calendar.specs.Climbing.{calendar_join}
use Rattle.ksi_calendar.specs.Sides.{sides_from_top}
use Rattle.ksi_publications.specs.Finding.{find}
use Rattle.ksi_signature.specs.Values.{Calendar}
use Rattle.ksi_signature.specs.declared.signature.Signature.{Signature}
use Rattle.ksi_verifier.specs.declared.aggregated.Aggregated.{Aggregated}
use Rattle.ksi_verifier.specs.declared.difference.RecordDifference.TheVariants as differences
use Rattle.ksi_verifier.specs.declared.lent.RecordPart.{RecordPart}
use Rattle.ksi_verifier.specs.declared.proved.Proved.{Proved}
use Rattle.ksi_verifier.specs.declared.refusal.Refusal.{Refusal}
use Rattle.ksi_verifier.specs.declared.refusal.Refusal.TheVariants.{WrongHash, NoCalendar, CalendarInput, MissedSecond, CalendarShape, TimeField, RecordDiffers, NoPublication, PublicationDiffers}
use Rattle.ksi_verifier.specs.declared.verdict.Verdict.{Verdict}
use Rattle.ksi_verifier.specs.declared.verdict.Verdict.TheVariants.{Accepted, Refused}
use Rattle.ksi_verifier.specs.Checks.{◌>>=◌, ◌>>◌, need}
use Rattle.ksi_verifier.specs.Chains.{PlainChain, plain_chains, first_chain}
use Rattle.ksi_verifier.specs.ChainChecks.{chains_checked}
use Rattle.ksi_verifier.specs.Lent.{record_of}

-- V1: the first chain's input hash is the given one
abbrev pub same_hash : List ℕ → List ℕ → Result (Unit {0}) Refusal
same_hash input hash = need (bytes_eq input hash) (WrongHash input hash)

-- V7: there is a calendar chain
abbrev pub some_calendar : Option Calendar → Result Calendar Refusal
some_calendar None = Err NoCalendar
some_calendar (Some calendar) = Ok calendar

-- ---- the calendar chain

abbrev pub or_shape : Result ℕ ShapeFault → Result ℕ Refusal
or_shape (Ok second) = Ok second
or_shape (Err fault) = Err (CalendarShape fault)

-- V10: the second that the links' sides name among those from 0 to the publication time
abbrev pub second_named : Calendar → Result ℕ Refusal
second_named calendar = or_shape (second_at calendar.publication (sides_from_top calendar.links))

-- V8, V9 and V10: the calendar chain continues from the node of the chains, which is not that of a missed second, and its
-- sides name a second
abbrev pub calendar_second : Node → Calendar → Result ℕ Refusal
calendar_second node calendar = do
  need (bytes_eq calendar.input node.imprint) (CalendarInput node.imprint calendar.input)
  need (not (bytes_eq calendar.input zero_imprint)) MissedSecond
  second_named calendar

-- V11: the calendar chain's time, then that of the chains, is the second
abbrev pub same_second : ℕ → ℕ → ℕ → Result (Unit {0}) Refusal
same_second calendar_time chain_time second = do
  need (calendar_time == second) (TimeField calendar_time second)
  need (chain_time == second) (TimeField chain_time second)

-- ---- the published roots

-- the root of the calendar that the calendar chain leads to
abbrev pub chain_root : (List ℕ → List ℕ) → Calendar → List ℕ
chain_root image calendar = climb_links (calendar_join image) calendar.input calendar.links

-- V12: if there is a publication record, it has the publication time and the root
abbrev pub same_record : Option RecordPart → ℕ → List ℕ → Result (Unit {0}) Refusal
same_record None time root = Ok tt
same_record (Some published) time root = do
  need (published.time == time) (RecordDiffers (differences.Time published.time time))
  need (bytes_eq published.hash root) (RecordDiffers (differences.Hash published.hash root))

-- V13 and V14: of the publications file, the first record of the publication time has the root
abbrev pub same_publication : Option (List ℕ) → ℕ → List ℕ → Result (Unit {0}) Refusal
same_publication None time root = Err (NoPublication time)
same_publication (Some hash) time root = need (bytes_eq hash root) (PublicationDiffers time hash root)

-- V12, V13 and V14
abbrev pub published_checks : Option RecordPart → List (ℕ × List ℕ) → ℕ → List ℕ → Result (Unit {0}) Refusal
published_checks published publications time root = do
  same_record published time root
  same_publication (find time publications) time root

-- ---- V8 to V14 of an aggregation and a calendar chain: the second and the publication, or the first check that fails

abbrev pub proved_by : (List ℕ → List ℕ) → Calendar → ℕ → Proved
proved_by image calendar second = record { second = second; publication = calendar.publication; root = chain_root image calendar }

abbrev pub calendar_checked : (List ℕ → List ℕ) → Aggregated → Calendar → Option RecordPart → List (ℕ × List ℕ) → Result Proved Refusal
calendar_checked image aggregation calendar published publications = do
  second ← calendar_second aggregation.node calendar
  same_second calendar.time aggregation.time second
  published_checks published publications calendar.publication (chain_root image calendar)
  Ok (proved_by image calendar second)

-- ---- V1 to V15, in the order V1 to V6, V15, V7 to V14

-- the verdict on chains, a calendar chain and a publication record
abbrev pub checked : (List ℕ → List ℕ) → List PlainChain → Option Calendar → Option RecordPart → List ℕ → List (ℕ × List ℕ) → Result Proved Refusal
checked image chains calendar_chain published hash publications = do
  same_hash (first_chain chains).input hash
  aggregation ← chains_checked image chains
  calendar ← some_calendar calendar_chain
  calendar_checked image aggregation calendar published publications

-- those of a signature, for a hash and the times and hashes of a publications file
abbrev pub signature_checked : (List ℕ → List ℕ) → Signature → List ℕ → List (ℕ × List ℕ) → Result Proved Refusal
signature_checked image signature hash publications =
    checked image (plain_chains signature.chains) signature.calendar (option_map record_of signature.publication) hash publications

abbrev pub or_refused : Result Proved Refusal → Verdict
or_refused (Ok proved) = Accepted proved.second
or_refused (Err refusal) = Refused refusal

-- the verdict on a signature, for a hash and the times and hashes of a publications file
unfoldable pub verdict : (List ℕ → List ℕ) → Signature → List ℕ → List (ℕ × List ℕ) → Verdict
verdict image signature hash publications = or_refused (signature_checked image signature hash publications)
