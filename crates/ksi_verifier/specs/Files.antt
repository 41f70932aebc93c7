-- The verdict on a signature file, a hash and a publications file.
use Rattle.std.specs.Prelude.{ℕ, List, Result, Ok, Err}
use Rattle.ksi_signature.specs.declared.fault.SignatureFault.{SignatureFault}
use Rattle.ksi_signature.specs.declared.signature.Signature.{Signature}
use Rattle.ksi_signature.specs.File.{IsSignature}
use Rattle.ksi_publications.specs.declared.fault.PublicationsFault.{PublicationsFault}
use Rattle.ksi_publications.specs.File.{IsPublications}
use Rattle.ksi_verifier.specs.declared.proved.Proved.{Proved}
use Rattle.ksi_verifier.specs.declared.refusal.Refusal.{Refusal}
use Rattle.ksi_verifier.specs.Verdict.{signature_checked}
use Rattle.ksi_verifier.specs.Accepted.{IsProved}
use Rattle.ksi_verifier.specs.declared.files_verdict.FilesVerdict.{FilesVerdict}
use Rattle.ksi_verifier.specs.declared.files_verdict.FilesVerdict.TheVariants.{NotSignature, NotPublications, Refused, Accepted}

-- The first bytes are a signature and the others a publications file, and the signature is accepted for the hash at the second,
-- by the publication.
pub record IsVerified (image : List ℕ → List ℕ) (signature hash publications : List ℕ) (proved : Proved) : Type 0 where
  pub read : Signature
  pub signature_is : IsSignature signature read
  pub pairs : List (ℕ × List ℕ)
  pub publications_are : IsPublications publications pairs
  pub accepted : IsProved image read hash pairs proved

abbrev pub of_checked : Result Proved Refusal → FilesVerdict
of_checked (Ok proved) = Accepted proved
of_checked (Err refusal) = Refused refusal

-- the verdict on a signature and the result of reading the publications file
abbrev pub over_publications : (List ℕ → List ℕ) → Signature → Result (List (ℕ × List ℕ)) PublicationsFault → List ℕ → FilesVerdict
over_publications image signature (Ok pairs) hash = of_checked (signature_checked image signature hash pairs)
over_publications image signature (Err fault) hash = NotPublications fault

-- the verdict on the results of reading both files; the signature is read first
abbrev pub files_verdict : (List ℕ → List ℕ) → Result Signature SignatureFault → Result (List (ℕ × List ℕ)) PublicationsFault → List ℕ → FilesVerdict
files_verdict image (Ok signature) publications hash = over_publications image signature publications hash
files_verdict image (Err fault) publications hash = NotSignature fault
