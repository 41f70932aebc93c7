-- What was issued, and extended, is accepted.
use Rattle.std.proofs.Common.{◌≡◌, ℕ, ◌≤◌, List, length, Ok, Some, refl, sym, ap, subst, inl, inr, arith, ◌∙◌}
use Rattle.std.specs.Prelude.{◌↔◌}
use Rattle.std.proofs.lemmas.Bool.{le-ltb}
use Rattle.ksi_imprint.specs.Imprints.{imprint_of}
use Rattle.ksi_ports.specs.Stored.{Held}
use Rattle.ksi_tlv.specs.Spelling.{AreBytes}
use Rattle.ksi_signature.specs.declared.signature.Signature.{Signature}
use Rattle.ksi_signature.specs.File.{IsSignature}
use Rattle.ksi_signature.specs.Reading.{signature_at}
use Rattle.ksi_publications.specs.File.{IsPublications}
use Rattle.ksi_publications.specs.Reading.{publications_at}
use Rattle.ksi_verifier.specs.declared.verdict.Verdict.TheVariants.{Accepted}
use Rattle.ksi_verifier.specs.Verdict.{verdict}
use Rattle.ksi_replay.specs.Joined.{Lasts}
use Rattle.ksi_replay.specs.Lasting.{LastsTo}
use Rattle.ksi_extender.specs.Accepted.{extended_signature}
use Rattle.ksi_extender.specs.Extended.{extended}
use Rattle.ksi_replay.specs.Journals.{journal_of}
use Rattle.ksi_world.specs.declared.outcome.Asked as requests
use Rattle.ksi_world.specs.Histories.{world_of}
use Rattle.ksi_world.specs.Records.{issued_of}
use Rattle.ksi_top.specs.declared.report.Report.{Report}
use Rattle.ksi_top.specs.Loading.{content, loaded, loaded_as, within, signature_limit, file_limit}
use Rattle.ksi_top.specs.Verify.{judged, verify_command}
use Rattle.ksi_schedule.specs.Events.{History}
use Rattle.ksi_schedule.specs.Spelled.{IsScheduleText}
use Rattle.ksi_replay.specs.HoldsOver.{HoldsOver}
use Rattle.ksi_top.specs.Complete.{IsTakenFrom}

within_limit : (limit n : ℕ) (bytes : List ℕ) → length bytes ≤ limit → within limit n bytes ≡ Ok bytes
within_limit limit n bytes few = rw (le-ltb limit (length bytes) few) refl

-- a signature has at most 65,539 bytes
signature_short : (bytes : List ℕ) (signature : Signature) → IsSignature bytes signature → length bytes ≤ signature_limit
signature_short bytes signature is = elim is.spelled [
  | inl short ↦ omega (arith, ap length short.1, short.0.body)
  | inr long ↦ omega (arith, ap length long.1, long.0.body)
]

-- what `verify` reports
abbrev reported : (signature hash publications : List ℕ) → Held → Report
reported signature hash publications held = ((verify_command signature hash publications).ran held).reported

-- what an issued signature is extended to are bytes
abbrev Extends : Type 0
Extends = (schedule : List ℕ) (h : History) → IsScheduleText schedule h → (number : ℕ) (text : List ℕ) → issued_of imprint_of (world_of imprint_of h) number ≡ Some text
    → (p : ℕ) (extension : List ℕ) → extended imprint_of (journal_of imprint_of h) text p ≡ Ok extension → AreBytes extension

module _ (signature_read : (bytes : List ℕ) (signature : Signature) → AreBytes bytes → (signature_at bytes ≡ Ok signature) ↔ IsSignature bytes signature)
    (publications_read : (bytes : List ℕ) (pairs : List (ℕ × List ℕ)) → (publications_at bytes ≡ Ok pairs) ↔ IsPublications bytes pairs) where
  -- what is read of files that are in their grammars, and within their limits
  verified : (signature hash publications : List ℕ) (held : Held) (read : Signature) (pairs : List (ℕ × List ℕ)) → AreBytes (content held signature) → IsSignature (content held signature) read
      → IsPublications (content held publications) pairs → length (content held publications) ≤ file_limit
      → reported signature hash publications held ≡ judged (verdict imprint_of read hash pairs)
  unfolding loaded_as loaded
  verified signature hash publications held read pairs bytes is are few =
      rw (
        within_limit signature_limit 1 (content held signature) (signature_short (content held signature) read is),
        (signature_read (content held signature) read bytes).1 is,
        within_limit file_limit 3 (content held publications) few,
        (publications_read (content held publications) pairs).1 are,
      ) refl

  lasting : Extends → (signature hash publications : List ℕ) (held : Held) (second : ℕ) → (d : IsTakenFrom (content held signature) hash (content held publications) second)
      → (l : Lasts imprint_of d.history (journal_of imprint_of d.history) d.number d.text) → l.asked ≡ d.asked
      → reported signature hash publications held ≡ judged (Accepted second)
  lasting extends signature hash publications held second d l same =
      let journal = journal_of imprint_of d.history in
      let at : l.asked.second ≡ second = ap (λ (a : requests.Asked). a.second) same ∙ d.of_second in
      let for : l.asked.imprint ≡ hash = ap (λ (a : requests.Asked). a.imprint) same ∙ d.of_hash in
      let to : LastsTo imprint_of journal l.asked d.text d.p = l.later d.p (omega (arith, at, d.from)) d.covered in
      let read = extended_signature imprint_of journal to.signature d.p in
      let bytes : to.bytes ≡ content held signature = cc (to.extension, d.extension) in
      let is : IsSignature (content held signature) read = subst (λ bytes. IsSignature bytes read) bytes to.after in
      let accepted : verdict imprint_of read hash d.pairs ≡ Accepted second = ap (λ hash. verdict imprint_of read hash d.pairs) (sym for) ∙ to.accepted d.pairs d.published ∙ ap Accepted at in
      verified signature hash publications held read d.pairs (extends d.schedule d.history d.spelled d.number d.text d.issued d.p (content held signature) d.extension) is d.publications_are d.within ∙ ap judged accepted

  pub accepted_again : ((text : List ℕ) (h : History) → IsScheduleText text h → HoldsOver imprint_of h) → Extends
      → (signature hash publications : List ℕ) (held : Held) (second : ℕ) → IsTakenFrom (content held signature) hash (content held publications) second
      → reported signature hash publications held ≡ judged (Accepted second)
  accepted_again holds extends signature hash publications held second d =
      let l = (holds d.schedule d.history d.spelled).lasts d.number d.text d.issued in
      lasting extends signature hash publications held second d l (cc (l.accepted, d.request))
