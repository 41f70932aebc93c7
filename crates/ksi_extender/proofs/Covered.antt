-- What is not refused.
use Rattle.std.proofs.Common.{◌≡◌, ◌≢◌, ℕ, ◌+◌, ◌-◌, ◌^◌, ◌<◌, ◌≤◌, min, Bool, true, false, not, List, [], length, Option, Some, None, Result, Ok, refl, sym, ap, ◌∙◌, arith, nat_le, if◌then◌else◌}
use Rattle.std.specs.Prelude.{◌↔◌, IsSome, unwrap_or}
use Rattle.std.specs.Str.{bytes_eq}
use Rattle.std.proofs.lemmas.Bool.{le-ltb, le-leb}
use Rattle.std.proofs.lemmas.Slice.Eq.{bytes_eq-Decides}
use Rattle.ksi_imprint.specs.Imprints.{IsImprint, zero_imprint}
use Rattle.ksi_tlv.specs.Spelling.{AreBytes}
use Rattle.ksi_calendar.specs.Covered.{IsCovered, first_missing, covered_root, covered_path, second_leaf}
use Rattle.ksi_signature.specs.declared.signature.Signature.{Signature}
use Rattle.ksi_signature.specs.File.{IsSignature}
use Rattle.ksi_signature.specs.Kept.{IsCalendar}
use Rattle.ksi_signature.specs.Reading.{signature_at}
use Rattle.ksi_signature.specs.Values.{Calendar}
use Rattle.ksi_signature.specs.Extended.{extended_content, extended_text}
use Rattle.ksi_verifier.specs.declared.aggregated.Aggregated.{Aggregated}
use Rattle.ksi_verifier.specs.declared.refusal.Refusal.TheVariants.{MissedSecond}
use Rattle.ksi_journal.specs.Journal.{Contents, IsJournal, root_at}
use Rattle.ksi_extender.specs.declared.refusal.ExtendRefusal.{ExtendRefusal}
use Rattle.ksi_extender.specs.declared.refusal.ExtendRefusal.TheVariants as refusals
use Rattle.ksi_extender.specs.Checks.{◌>>=◌, ◌>>◌, need}
use Rattle.ksi_extender.specs.Extended.{or_refused, all_kept, chains_in, kept_to, chain_to, record_to, fitting, extended}
use Rattle.ksi_extender.specs.Accepted.{LeadsToKept}
use Rattle.ksi_extender.proofs.Imprints.{zero_is, imprint_roots, second_is, root_is, links_are}
use Rattle.ksi_extender.proofs.Steps.{read_then}

differs : (a b : List ℕ) → a ≢ b → not (bytes_eq a b) ≡ true
differs a b ne = by (bytes_eq a b) refl
  where
    by : (t : Bool) → bytes_eq a b ≡ t → not t ≡ true
    by true same = absurd (ne ((bytes_eq-Decides a b).0 same))
    by false other = refl

-- all checks pass
passes : (a b c e : Bool) (missing : Option ℕ) (r1 r2 r3 r5 : ExtendRefusal) → a ≡ true → b ≡ true → c ≡ true → missing ≡ None → e ≡ true
    → (need a r1 >> (need b r2 >> (need c r3 >> (all_kept missing >> need e r5)))) ≡ Ok tt
passes a b c e missing r1 r2 r3 r5 one two three four five = rw (one, two, three, four, five) refl

module _ (image : List ℕ → List ℕ) (images : (x : List ℕ) → IsImprint (image x)) (journal : Contents) (is : IsJournal image journal)
    (none : (p : ℕ) → (first_missing (root_at journal) journal.start p ≡ None) ↔ ((t : ℕ) → journal.start ≤ t → t ≤ p → IsSome (root_at journal t))) where
  leaf_kept : (t : ℕ) (root : List ℕ) → journal.start ≤ t → root_at journal t ≡ Some root → second_leaf (root_at journal) journal.start t ≡ root
  leaf_kept t root from kept =
      ap (λ (b : Bool). if b then zero_imprint else unwrap_or (root_at journal t) zero_imprint) (le-ltb t journal.start from)
      ∙ ap (λ (o : Option (List ℕ)). unwrap_or o zero_imprint) kept

  module _ (early : (p : ℕ) → IsCovered (root_at journal) journal.start p → p < 2 ^ 63)
      (lengths : (t p : ℕ) → p + 1 ≤ 2 ^ 63 → length (covered_path image (root_at journal) journal.start t p) ≤ 63)
      (small : (bytes : List ℕ) (signature : Signature) (chain : Calendar) (time : ℕ) (hash : List ℕ) → AreBytes bytes → IsSignature bytes signature → IsCalendar chain → IsImprint hash
      → length (extended_content bytes chain (record { time = time; hash = hash; references = []; repositories = [] })) ≤ length bytes + 2453)
      (reads : (bytes : List ℕ) (signature : Signature) → AreBytes bytes → (signature_at bytes ≡ Ok signature) ↔ IsSignature bytes signature) where
    chain_kept : (t p : ℕ) → t ≤ p → IsCovered (root_at journal) journal.start p → IsCalendar (chain_to image journal t p)
    chain_kept t p to covered =
        let last = early p covered in
        record {
          publication = last;
          time = omega (arith, last, to);
          input = second_is IsImprint zero_is journal (imprint_roots image journal.seconds is.seconds) t;
          count = lengths t p (omega (arith, last));
          links = links_are IsImprint zero_is journal (imprint_roots image journal.seconds is.seconds) image images t p;
        }

    pub is_extended : (bytes : List ℕ) (signature : Signature) (chains : Aggregated) (p : ℕ) → AreBytes bytes → LeadsToKept image journal bytes signature chains p
        → extended image journal bytes p ≡ Ok (extended_text bytes (chain_to image journal chains.time p) (record_to image journal p))
    unfolding extended
    is_extended bytes signature chains p are h =
        let t = chains.time in
        let chain = chain_to image journal t p in
        let published = record_to image journal p in
        let read : chains_in image bytes ≡ Ok chains = sym (read_then image bytes signature ((reads bytes signature are).1 h.whole)) ∙ ap or_refused h.aggregation in
        let kept : kept_to journal chains p ≡ Ok tt =
        passes (not (bytes_eq chains.node.imprint zero_imprint)) (nat_le journal.start t) (nat_le t p) (bytes_eq (second_leaf (root_at journal) journal.start t) chains.node.imprint) (first_missing (root_at journal) journal.start p)
        (refusals.Refused MissedSecond) (refusals.BeforeStart t) (refusals.TooEarly t p) (refusals.RootDiffers t (second_leaf (root_at journal) journal.start t) chains.node.imprint)
        (differs chains.node.imprint zero_imprint h.real) (le-leb journal.start t h.from) (le-leb t p h.to) ((none p).1 h.covered.each)
        ((bytes_eq-Decides (second_leaf (root_at journal) journal.start t) chains.node.imprint).1 (leaf_kept t chains.node.imprint h.from h.root)) in
        let size = small bytes signature chain p (covered_root image (root_at journal) journal.start p) are h.whole (chain_kept t p h.to h.covered) (root_is IsImprint zero_is journal (imprint_roots image journal.seconds is.seconds) image images p) in
        let fits : nat_le (length (extended_content bytes chain published)) 65535 ≡ true = le-leb (length (extended_content bytes chain published)) 65535 (omega (arith, size, h.short)) in
        ap (λ (r : Result Aggregated ExtendRefusal). r >>= λ chains. kept_to journal chains p >> fitting bytes (chain_to image journal chains.time p) (record_to image journal p)) read
        ∙ ap (λ (r : Result (Unit {0}) ExtendRefusal). r >> fitting bytes chain published) kept
        ∙ ap (λ (b : Bool). need b (refusals.TooLarge (min (length (extended_content bytes chain published)) (2 ^ 64 - 1))) >> Ok (extended_text bytes chain published)) fits
