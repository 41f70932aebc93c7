-- What the steps together answer.
use Rattle.std.proofs.Common.{◌≡◌, ℕ, List, Result, Ok, Err, sym, ap, subst, ◌∙◌}
use Rattle.std.specs.Prelude.{IfOk}
use Rattle.ksi_imprint.specs.Refused.{OrNoMemory}
use Rattle.ksi_imprint.specs.declared.refused.Refused.{Refused}
use Rattle.ksi_signature.specs.declared.fault.SignatureFault.{SignatureFault}
use Rattle.ksi_signature.specs.declared.signature.Signature.{Signature}
use Rattle.ksi_signature.specs.Values.{Calendar, Publishing}
use Rattle.ksi_signature.specs.File.{IsSignature}
use Rattle.ksi_signature.specs.Reading.{signature_at}
use Rattle.ksi_verifier.specs.declared.aggregated.Aggregated.{Aggregated}
use Rattle.ksi_journal.specs.Journal.{Contents}
use Rattle.ksi_extender.specs.declared.refusal.ExtendRefusal.{ExtendRefusal}
use Rattle.ksi_extender.specs.declared.refusal.ExtendRefusal.TheVariants as refusals
use Rattle.ksi_extender.specs.Checks.{◌>>=◌, ◌>>◌}
use Rattle.ksi_extender.specs.Accepted.{extended_signature, AcceptedBy, IsExtended}
use Rattle.ksi_extender.specs.Extended.{chains_in, kept_to, chain_to, record_to, fitting, extended}
use Rattle.ksi_extender.proofs.Steps.{read_fault}

module _ (image : List ℕ → List ℕ) (journal : Contents) (bytes : List ℕ) (p : ℕ) where
  abbrev next : Aggregated → Result (List ℕ) ExtendRefusal
  next chains = kept_to journal chains p >> fitting bytes (chain_to image journal chains.time p) (record_to image journal p)

  -- ---- a refusal is handed on

  pub no_chains : (refusal : ExtendRefusal) → (let r : Result Aggregated ExtendRefusal = Err refusal in r ≡ chains_in image bytes) → (let r : Result (List ℕ) ExtendRefusal = Err refusal in r ≡ extended image journal bytes p)
  unfolding extended
  no_chains refusal is = ap (λ (r : Result Aggregated ExtendRefusal). r >>= next) is

  pub no_signature : (fault : SignatureFault) → signature_at bytes ≡ Err fault → (let r : Result (List ℕ) ExtendRefusal = Err (refusals.Malformed fault) in r ≡ extended image journal bytes p)
  no_signature fault is = no_chains (refusals.Malformed fault) (read_fault image bytes fault is)

  pub then_next : (chains : Aggregated) → chains_in image bytes ≡ Ok chains → next chains ≡ extended image journal bytes p
  unfolding extended
  then_next chains is = sym (ap (λ (r : Result Aggregated ExtendRefusal). r >>= next) is)

  pub not_kept : (chains : Aggregated) (refusal : ExtendRefusal) → chains_in image bytes ≡ Ok chains → (let r : Result (Unit {0}) ExtendRefusal = Err refusal in r ≡ kept_to journal chains p) → (let r : Result (List ℕ) ExtendRefusal = Err refusal in r ≡ extended image journal bytes p)
  not_kept chains refusal is e = ap (λ (r : Result (Unit {0}) ExtendRefusal). r >> fitting bytes (chain_to image journal chains.time p) (record_to image journal p)) e ∙ then_next chains is

  -- ---- the new bytes

  pub all_passed : (chains : Aggregated) (chain : Calendar) (published : Publishing) (result : Result (List ℕ) (Refused ExtendRefusal)) → chains_in image bytes ≡ Ok chains → (let r : Result (Unit {0}) ExtendRefusal = Ok tt in r ≡ kept_to journal chains p)
      → chain ≡ chain_to image journal chains.time p → published ≡ record_to image journal p → OrNoMemory (fitting bytes chain published) result → OrNoMemory (extended image journal bytes p) result
  all_passed chains chain published result is kept chain_is published_is answer =
      let same : fitting bytes chain published ≡ extended image journal bytes p =
      ap (λ (c : Calendar). fitting bytes c published) chain_is ∙ ap (λ (r : Publishing). fitting bytes (chain_to image journal chains.time p) r) published_is
      ∙ ap (λ (r : Result (Unit {0}) ExtendRefusal). r >> fitting bytes (chain_to image journal chains.time p) (record_to image journal p)) kept ∙ then_next chains is in
      subst (λ (expected : Result (List ℕ) ExtendRefusal). OrNoMemory expected result) same answer

-- what is answered is accepted where what is defined is
pub accepted_answer : (image : List ℕ → List ℕ) (journal : Contents) (bytes : List ℕ) (p : ℕ) (signature : Signature) (result : Result (List ℕ) (Refused ExtendRefusal))
    → ((text : List ℕ) → extended image journal bytes p ≡ Ok text → (publications : List (ℕ × List ℕ)) → AcceptedBy image journal signature p publications)
    → IsSignature bytes signature → OrNoMemory (extended image journal bytes p) result
    → IfOk result (λ text. IsSignature text (extended_signature image journal signature p)) → IfOk result (IsExtended image journal bytes p)
accepted_answer image journal bytes p signature (Ok text) law before answer after = record { signature = signature; before = before; after = after; accepted = law text answer }
accepted_answer image journal bytes p signature (Err refused) law before answer after = tt
