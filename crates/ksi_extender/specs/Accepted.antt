-- What a signature is that was extended to a later second.
use Rattle.std.specs.Prelude.{◌≡◌, ◌≢◌, ◌≤◌, ℕ, List, length, Some, Ok}
use Rattle.ksi_imprint.specs.Imprints.{zero_imprint}
use Rattle.ksi_calendar.specs.Covered.{IsCovered, covered_root}
use Rattle.ksi_publications.specs.Finding.{find}
use Rattle.ksi_signature.specs.declared.signature.Signature.{Signature}
use Rattle.ksi_signature.specs.File.{IsSignature}
use Rattle.ksi_signature.specs.Extended.{renewed}
use Rattle.ksi_verifier.specs.declared.aggregated.Aggregated.{Aggregated}
use Rattle.ksi_verifier.specs.declared.verdict.Verdict.TheVariants.{Accepted}
use Rattle.ksi_verifier.specs.Chains.{plain_chains, first_chain}
use Rattle.ksi_verifier.specs.ChainChecks.{aggregated}
use Rattle.ksi_verifier.specs.Verdict.{verdict}
use Rattle.ksi_journal.specs.Journal.{Contents, root_at}
use Rattle.ksi_extender.specs.Extended.{chain_to, record_to}

-- the time and the input hash of the first chain
abbrev pub first_time : Signature → ℕ
first_time signature = (first_chain (plain_chains signature.chains)).time

abbrev pub first_input : Signature → List ℕ
first_input signature = (first_chain (plain_chains signature.chains)).input

-- the signature with the calendar chain to p and the record of p in place of what it had of both
abbrev pub extended_signature : (List ℕ → List ℕ) → Contents → Signature → ℕ → Signature
extended_signature image journal signature p = renewed signature (chain_to image journal (first_time signature) p) (record_to image journal p)

-- no check of it fails against publications whose first record of p is the root of the calendar to p, and its second is
-- the time that it stated
abbrev pub AcceptedBy : (List ℕ → List ℕ) → Contents → Signature → ℕ → List (ℕ × List ℕ) → Type 0
AcceptedBy image journal signature p publications =
    find p publications ≡ Some (covered_root image (root_at journal) journal.start p)
    → verdict image (extended_signature image journal signature p) (first_input signature) publications ≡ Accepted (first_time signature)

-- The text is the signature of the bytes extended to p, and is accepted.
pub record IsExtended (image : List ℕ → List ℕ) (journal : Contents) (bytes : List ℕ) (p : ℕ) (text : List ℕ) : Type 0 where
  pub signature : Signature
  pub before : IsSignature bytes signature
  pub after : IsSignature text (extended_signature image journal signature p)
  pub accepted : (publications : List (ℕ × List ℕ)) → AcceptedBy image journal signature p publications

-- The bytes are a short signature whose chains lead to the root of a kept second, which was not missed; p is that second
-- or a later one, and is covered.
pub record LeadsToKept (image : List ℕ → List ℕ) (journal : Contents) (bytes : List ℕ) (signature : Signature) (chains : Aggregated) (p : ℕ) : Type 0 where
  pub whole : IsSignature bytes signature
  pub short : length bytes ≤ 60000
  pub aggregation : aggregated image signature ≡ Ok chains
  pub real : chains.node.imprint ≢ zero_imprint
  pub from : journal.start ≤ chains.time
  pub root : root_at journal chains.time ≡ Some chains.node.imprint
  pub to : chains.time ≤ p
  pub covered : IsCovered (root_at journal) journal.start p
