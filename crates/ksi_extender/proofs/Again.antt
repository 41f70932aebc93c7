-- What is extended is that signature again.
use Rattle.std.proofs.Common.{◌≡◌, ℕ, ◌+◌, ◌^◌, ◌<◌, ◌≤◌, List, length, Result, Ok, sym, ap, subst, arith, nat_le, min, ◌-◌}
use Rattle.std.specs.Prelude.{◌↔◌}
use Rattle.ksi_imprint.specs.Imprints.{IsImprint}
use Rattle.ksi_tlv.specs.Spelling.{AreBytes}
use Rattle.ksi_signature.specs.declared.signature.Signature.{Signature}
use Rattle.ksi_signature.specs.Values.{Calendar, Publishing}
use Rattle.ksi_signature.specs.File.{IsSignature}
use Rattle.ksi_signature.specs.Kept.{IsCalendar, IsPublishing}
use Rattle.ksi_signature.specs.Reading.{signature_at}
use Rattle.ksi_signature.specs.Extended.{extended_content, extended_text, renewed}
use Rattle.ksi_verifier.specs.declared.aggregated.Aggregated.{Aggregated}
use Rattle.ksi_verifier.specs.Chains.{plain_chains}
use Rattle.ksi_verifier.specs.ChainChecks.{aggregated}
use Rattle.ksi_verifier.specs.Accepted.{IsAggregated}
use Rattle.ksi_calendar.specs.Covered.{covered_path}
use Rattle.ksi_journal.specs.Journal.{Contents, IsJournal, root_at}
use Rattle.ksi_extender.specs.declared.refusal.ExtendRefusal.{ExtendRefusal}
use Rattle.ksi_extender.specs.declared.refusal.ExtendRefusal.TheVariants as refusals
use Rattle.ksi_extender.specs.Checks.{need}
use Rattle.ksi_extender.specs.Extended.{chain_to, record_to, fitting, extended}
use Rattle.ksi_extender.specs.Accepted.{first_input, extended_signature}
use Rattle.ksi_extender.proofs.Passing.{then_ok, need_le}
use Rattle.ksi_extender.proofs.Imprints.{zero_is, imprint_roots, second_is, root_is, links_are}
use Rattle.ksi_extender.proofs.Whole.{passed, is_time}

-- the bytes that fit
pub fits : (bytes text : List ℕ) (chain : Calendar) (published : Publishing) → fitting bytes chain published ≡ Ok text → (length (extended_content bytes chain published) ≤ 65535) × (extended_text bytes chain published ≡ text)
fits bytes text chain published e =
    let size = length (extended_content bytes chain published) in
    let refusal = refusals.TooLarge (min size (2 ^ 64 - 1)) in
    let both = then_ok (need (nat_le size 65535) refusal) (Ok (extended_text bytes chain published)) text e in
    let same : (let r : Result (List ℕ) ExtendRefusal = Ok (extended_text bytes chain published) in r ≡ Ok text) = both.1 in
    (need_le size 65535 refusal both.0, cc)

module _ (image : List ℕ → List ℕ)
    (aggregation : (signature : Signature) (chains : Aggregated) → 0 < length signature.chains → (aggregated image signature ≡ Ok chains) ↔ IsAggregated image (plain_chains signature.chains) (first_input signature) chains.time chains.node)
    (images : (x : List ℕ) → IsImprint (image x)) (journal : Contents) (is : IsJournal image journal)
    (lengths : (t p : ℕ) → p + 1 ≤ 2 ^ 63 → length (covered_path image (root_at journal) journal.start t p) ≤ 63) where
  pub again : (renews : (bytes : List ℕ) (signature : Signature) (chain : Calendar) (published : Publishing) → AreBytes bytes → IsSignature bytes signature → IsCalendar chain → IsPublishing published → length (extended_content bytes chain published) ≤ 65535 → IsSignature (extended_text bytes chain published) (renewed signature chain published))
      → (bytes text : List ℕ) (p : ℕ) (signature : Signature) → p < 2 ^ 63 → AreBytes bytes → IsSignature bytes signature → signature_at bytes ≡ Ok signature → extended image journal bytes p ≡ Ok text → IsSignature text (extended_signature image journal signature p)
  again renews bytes text p signature early are whole read e =
      let h = passed image journal bytes p text signature read e in
      let t = h.chains.time in
      let time = is_time image aggregation signature h.chains h.aggregation h.kept.some in
      let to = h.kept.to in
      let roots = imprint_roots image journal.seconds is.seconds in
      let chain : IsCalendar (chain_to image journal t p) = record {
        publication = early;
        time = omega arith;
        input = second_is IsImprint zero_is journal roots t;
        count = lengths t p (omega arith);
        links = links_are IsImprint zero_is journal roots image images t p;
      } in
      let published : IsPublishing (record_to image journal p) = record { time = early; hash = root_is IsImprint zero_is journal roots image images p } in
      let text_fits = fits bytes text (chain_to image journal t p) (record_to image journal p) h.fits in
      let new = renews bytes signature (chain_to image journal t p) (record_to image journal p) are whole chain published text_fits.0 in
      subst (IsSignature text) (ap (λ (t : ℕ). renewed signature (chain_to image journal t p) (record_to image journal p)) (sym time))
      (subst (λ (x : List ℕ). IsSignature x (renewed signature (chain_to image journal t p) (record_to image journal p))) text_fits.1 new)
