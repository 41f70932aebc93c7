-- A signature extended to a later second, over a journal.
use Rattle.std.specs.Prelude.{◌≡◌, ℕ, ◌-◌, ◌^◌, min, nat_le, not, List, [], length, Option, Some, None, Result, Ok, Err}
use Rattle.std.specs.Str.{bytes_eq}
use Rattle.ksi_imprint.specs.Imprints.{zero_imprint}
use Rattle.ksi_calendar.specs.Covered.{first_missing, covered_root, covered_path, second_leaf}
use Rattle.ksi_signature.specs.declared.fault.SignatureFault.{SignatureFault}
use Rattle.ksi_signature.specs.declared.refusal.WriteRefusal.{WriteRefusal}
use Rattle.ksi_signature.specs.declared.refusal.WriteRefusal.TheVariants.{TooLong}
use Rattle.ksi_signature.specs.declared.signature.Signature.{Signature}
use Rattle.ksi_signature.specs.Values.{Calendar, Publishing}
use Rattle.ksi_signature.specs.Reading.{signature_at}
use Rattle.ksi_signature.specs.Extended.{extended_content, extended_text}
use Rattle.ksi_verifier.specs.declared.aggregated.Aggregated.{Aggregated}
use Rattle.ksi_verifier.specs.declared.refusal.Refusal.{Refusal}
use Rattle.ksi_verifier.specs.declared.refusal.Refusal.TheVariants.{MissedSecond}
use Rattle.ksi_verifier.specs.ChainChecks.{aggregated}
use Rattle.ksi_journal.specs.Journal.{Contents, root_at}
use Rattle.ksi_extender.specs.declared.refusal.ExtendRefusal.{ExtendRefusal}
use Rattle.ksi_extender.specs.declared.refusal.ExtendRefusal.TheVariants as refusals
use Rattle.ksi_extender.specs.Checks.{◌>>=◌, ◌>>◌, need}

-- ---- the chains of the signature

abbrev pub or_malformed : Result Signature SignatureFault → Result Signature ExtendRefusal
or_malformed (Ok signature) = Ok signature
or_malformed (Err fault) = Err (refusals.Malformed fault)

abbrev pub or_refused : Result Aggregated Refusal → Result Aggregated ExtendRefusal
or_refused (Ok chains) = Ok chains
or_refused (Err refusal) = Err (refusals.Refused refusal)

-- the time of the aggregation chains and the node that they lead to, of a signature that passes V2 to V6 and V15
abbrev pub chains_in : (List ℕ → List ℕ) → List ℕ → Result Aggregated ExtendRefusal
chains_in image bytes = do
  signature ← or_malformed (signature_at bytes)
  or_refused (aggregated image signature)

-- ---- what the journal keeps

abbrev pub all_kept : Option ℕ → Result (Unit {0}) ExtendRefusal
all_kept None = Ok tt
all_kept (Some second) = Err (refusals.Undecided second)

-- V9, E4, E3, E2 and E1: the chains do not lead to a missed second, their time is from the start to p, all seconds from
-- the start to p are kept, and the chains lead to the root that is kept for their time
abbrev pub kept_to : Contents → Aggregated → ℕ → Result (Unit {0}) ExtendRefusal
kept_to journal chains p = do
  need (not (bytes_eq chains.node.imprint zero_imprint)) (refusals.Refused MissedSecond)
  need (nat_le journal.start chains.time) (refusals.BeforeStart chains.time)
  need (nat_le chains.time p) (refusals.TooEarly chains.time p)
  all_kept (first_missing (root_at journal) journal.start p)
  need (bytes_eq (second_leaf (root_at journal) journal.start chains.time) chains.node.imprint) (refusals.RootDiffers chains.time (second_leaf (root_at journal) journal.start chains.time) chains.node.imprint)

-- ---- the new bytes

-- the calendar chain from second t to the root of the seconds from 0 to p
abbrev pub chain_to : (List ℕ → List ℕ) → Contents → ℕ → ℕ → Calendar
chain_to image journal t p = record { publication = p; time = t; input = second_leaf (root_at journal) journal.start t; links = covered_path image (root_at journal) journal.start t p }

-- the publication record of that root
abbrev pub record_to : (List ℕ → List ℕ) → Contents → ℕ → Publishing
record_to image journal p = record { time = p; hash = covered_root image (root_at journal) journal.start p; references = []; repositories = [] }

-- E5: the bytes with this chain and this record in place of the old ones, if their content fits an element; a size above
-- 2^64 - 1 is reported as 2^64 - 1
abbrev pub fitting : List ℕ → Calendar → Publishing → Result (List ℕ) ExtendRefusal
fitting bytes chain published = do
  need (nat_le (length (extended_content bytes chain published)) 65535) (refusals.TooLarge (min (length (extended_content bytes chain published)) (2 ^ 64 - 1)))
  Ok (extended_text bytes chain published)

-- the signature of the bytes extended to second p, or the first refusal
unfoldable pub extended : (List ℕ → List ℕ) → Contents → List ℕ → ℕ → Result (List ℕ) ExtendRefusal
extended image journal bytes p = do
  chains ← chains_in image bytes
  kept_to journal chains p
  fitting bytes (chain_to image journal chains.time p) (record_to image journal p)

-- V2 to V6, V15, V9, E4, E3, E2 and E1 hold of what is a signature: there are new bytes, but for their size
abbrev pub IsKeptTo : (List ℕ → List ℕ) → Contents → List ℕ → ℕ → Type 0
IsKeptTo image journal bytes p = (chains : Aggregated) × (chains_in image bytes ≡ Ok chains) × (kept_to journal chains p ≡ Ok tt)

-- ---- in the code

-- the refusal where the new content is too long
abbrev pub too_large : WriteRefusal → ExtendRefusal
too_large (TooLong size) = refusals.TooLarge size
