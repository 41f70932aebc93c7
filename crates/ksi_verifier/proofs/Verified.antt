-- A verdict on files is accepted exactly where the files are read and the signature is accepted.
use Rattle.std.proofs.Common.{◌≡◌, ℕ, List, Result, Ok, Err, ap, subst, refl}
use Rattle.std.specs.Prelude.{◌↔◌}
use Rattle.ksi_signature.specs.declared.fault.SignatureFault.{SignatureFault}
use Rattle.ksi_signature.specs.declared.signature.Signature.{Signature}
use Rattle.ksi_signature.specs.File.{IsSignature}
use Rattle.ksi_publications.specs.declared.fault.PublicationsFault.{PublicationsFault}
use Rattle.ksi_publications.specs.File.{IsPublications}
use Rattle.ksi_verifier.specs.declared.proved.Proved.{Proved}
use Rattle.ksi_verifier.specs.declared.refusal.Refusal.{Refusal}
use Rattle.ksi_verifier.specs.Verdict.{signature_checked}
use Rattle.ksi_verifier.specs.Accepted.{IsProved}
use Rattle.ksi_verifier.specs.declared.files_verdict.FilesVerdict.TheVariants.{Accepted}
use Rattle.ksi_verifier.specs.Files.{IsVerified, files_verdict, of_checked}

abbrev good : Proved → Result Proved Refusal
good p = Ok p

of_accepted : (r : Result Proved Refusal) (p : Proved) → (of_checked r ≡ Accepted p) ↔ (r ≡ Ok p)
of_accepted (Ok proved) p = (λ e. (let same : proved ≡ p = cc in ap good same), λ e. (let same : proved ≡ p = cc in ap (λ (p : Proved). Accepted p) same))
of_accepted (Err refusal) p = (λ e. absurd cc, λ e. absurd cc)

abbrev Signatures : List ℕ → Result Signature SignatureFault → Type 0
Signatures bytes read = (signature : Signature) → (read ≡ Ok signature) ↔ IsSignature bytes signature

abbrev Pairs : List ℕ → Result (List (ℕ × List ℕ)) PublicationsFault → Type 0
Pairs bytes read = (pairs : List (ℕ × List ℕ)) → (read ≡ Ok pairs) ↔ IsPublications bytes pairs

abbrev Verdicts : (List ℕ → List ℕ) → List ℕ → Proved → Type 0
Verdicts image hash p = (signature : Signature) (pairs : List (ℕ × List ℕ)) → (signature_checked image signature hash pairs ≡ Ok p) ↔ IsProved image signature hash pairs p

pub verified : (image : List ℕ → List ℕ) (signature hash publications : List ℕ) (p : Proved) (one : Result Signature SignatureFault) (two : Result (List (ℕ × List ℕ)) PublicationsFault)
    → Signatures signature one → Pairs publications two → Verdicts image hash p
    → (files_verdict image one two hash ≡ Accepted p) ↔ IsVerified image signature hash publications p
verified image signature hash publications p (Ok s) (Ok ps) signatures pairs accepted =
    let both = of_accepted (signature_checked image s hash ps) p in (
      λ e. record { read = s; signature_is = (signatures s).0 refl; pairs = ps; publications_are = (pairs ps).0 refl; accepted = (accepted s ps).0 (both.0 e) },
      λ is.
          let left = (signatures is.read).1 is.signature_is in
          let right = (pairs is.pairs).1 is.publications_are in
          let same : is.read ≡ s = cc in
          let equal : is.pairs ≡ ps = cc in
          both.1 (subst (λ (s : Signature). signature_checked image s hash ps ≡ Ok p) same (subst (λ (ps : List (ℕ × List ℕ)). signature_checked image is.read hash ps ≡ Ok p) equal ((accepted is.read is.pairs).1 is.accepted))),
    )
verified image signature hash publications p (Ok s) (Err fault) signatures pairs accepted =
    (λ e. absurd cc, λ is. (let right = (pairs is.pairs).1 is.publications_are in absurd cc))
verified image signature hash publications p (Err fault) two signatures pairs accepted =
    (λ e. absurd cc, λ is. (let left = (signatures is.read).1 is.signature_is in absurd cc))
