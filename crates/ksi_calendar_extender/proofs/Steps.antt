-- The steps of an extension, one by one.
use Rattle.std.proofs.Common.{◌≡◌, ℕ, ◌-◌, ◌^◌, min, Bool, true, false, List, length, Result, Ok, Err, refl, sym, ap, ◌∙◌, inl, inr, arith, nat_le}
use Rattle.std.specs.Prelude.{◌↔◌}
use Rattle.ksi_imprint.specs.declared.refused.Refused.{Refused}
use Rattle.ksi_imprint.specs.declared.refused.Refused.TheVariants.{Fault}
use Rattle.ksi_split.specs.declared.tree_link.TreeLink.{TreeLink}
use Rattle.ksi_split.specs.Trees.{climb_links}
use Rattle.ksi_calendar.specs.Climbing.{ClimbsCalendar, calendar_join}
use Rattle.ksi_calendar.specs.Calendar.{Seconds, calendar_leaf, calendar_root}
use Rattle.ksi_signature.specs.declared.fault.SignatureFault.{SignatureFault}
use Rattle.ksi_signature.specs.declared.refusal.WriteRefusal.{WriteRefusal}
use Rattle.ksi_signature.specs.declared.refusal.WriteRefusal.TheVariants as unmade
use Rattle.ksi_signature.specs.declared.signature.Signature.{Signature}
use Rattle.ksi_signature.specs.Values.{Calendar, Publishing}
use Rattle.ksi_signature.specs.Reading.{signature_at}
use Rattle.ksi_signature.specs.Extended.{extended_content, extended_text, IsTooLong}
use Rattle.ksi_verifier.specs.ChainChecks.{aggregated}
use Rattle.ksi_extender.specs.declared.refusal.ExtendRefusal.TheVariants as refusals
use Rattle.ksi_extender.specs.Checks.{◌>>=◌, ◌>>◌, need}
use Rattle.ksi_extender.specs.Extended.{or_malformed, or_refused, chains_in, fitting, too_large}
use Rattle.std.proofs.lemmas.Bool.Decides.{leb_tells}

-- ---- the chains

pub read_then : (image : List ℕ → List ℕ) (bytes : List ℕ) (signature : Signature) → signature_at bytes ≡ Ok signature → or_refused (aggregated image signature) ≡ chains_in image bytes
read_then image bytes signature e = sym (ap (λ (r : Result Signature SignatureFault). or_malformed r >>= (λ (s : Signature). or_refused (aggregated image s))) e)

pub read_fault : (image : List ℕ → List ℕ) (bytes : List ℕ) (fault : SignatureFault) → signature_at bytes ≡ Err fault → Err (refusals.Malformed fault) ≡ chains_in image bytes
read_fault image bytes fault e = sym (ap (λ (r : Result Signature SignatureFault). or_malformed r >>= (λ (s : Signature). or_refused (aggregated image s))) e)

-- ---- the new bytes

-- what is climbed from the leaf is the root
pub hash_is : (image : List ℕ → List ℕ) (seconds : Seconds) (t p : ℕ) (input hash : List ℕ) (links given : List (TreeLink (List ℕ)))
    → (ClimbsCalendar image (calendar_leaf seconds t) links (calendar_root image seconds p) → calendar_root image seconds p ≡ climb_links (calendar_join image) (calendar_leaf seconds t) links)
    → ClimbsCalendar image (calendar_leaf seconds t) links (calendar_root image seconds p) → calendar_leaf seconds t ≡ input → given ≡ links → hash ≡ climb_links (calendar_join image) input given → hash ≡ calendar_root image seconds p
hash_is image seconds t p input hash links given value climbs leaf read is =
    is ∙ ap (λ (l : List (TreeLink (List ℕ))). climb_links (calendar_join image) input l) read
    ∙ ap (λ (x : List ℕ). climb_links (calendar_join image) x links) (sym leaf)
    ∙ sym (value climbs)

fits_true : (bytes : List ℕ) (chain : Calendar) (published : Publishing) (test : Bool) → nat_le (length (extended_content bytes chain published)) 65535 ≡ test → test ≡ true → fitting bytes chain published ≡ Ok (extended_text bytes chain published)
fits_true bytes chain published test is holds =
    ap (λ (t : Bool). need t (refusals.TooLarge (min (length (extended_content bytes chain published)) (2 ^ 64 - 1))) >> Ok (extended_text bytes chain published)) (is ∙ holds)

fits_false : (bytes : List ℕ) (chain : Calendar) (published : Publishing) → nat_le (length (extended_content bytes chain published)) 65535 ≡ false → fitting bytes chain published ≡ Err (refusals.TooLarge (min (length (extended_content bytes chain published)) (2 ^ 64 - 1)))
fits_false bytes chain published is =
    ap (λ (t : Bool). need t (refusals.TooLarge (min (length (extended_content bytes chain published)) (2 ^ 64 - 1))) >> Ok (extended_text bytes chain published)) is

-- the content fits where it is not told as too long
pub text_is : (bytes : List ℕ) (chain : Calendar) (published : Publishing) (text : List ℕ) → text ≡ extended_text bytes chain published
    → ((n : ℕ) → IsTooLong (length (extended_content bytes chain published)) n → ⊥) → Ok text ≡ fitting bytes chain published
text_is bytes chain published text is fits = elim (leb_tells (length (extended_content bytes chain published)) 65535) [
  | inl holds ↦ ap (λ (x : List ℕ). Ok x) is ∙ sym (fits_true bytes chain published _ refl holds.0)
  | inr fails ↦ absurd (fits _ (record { long = fails.1; number = refl }))
]

pub long_content : (bytes : List ℕ) (chain : Calendar) (published : Publishing) (n : ℕ) → IsTooLong (length (extended_content bytes chain published)) n → Err (refusals.TooLarge n) ≡ fitting bytes chain published
long_content bytes chain published n long = elim (leb_tells (length (extended_content bytes chain published)) 65535) [
  | inl holds ↦ absurd (let high = long.long in let low = holds.1 in omega arith)
  | inr fails ↦ ap (λ (size : ℕ). Err (refusals.TooLarge size)) long.number ∙ sym (fits_false bytes chain published fails.0)
]

-- what is answered where the new content is too long
pub no_bytes : {A : Type 0} (bytes : List ℕ) (chain : Calendar) (published : Publishing) (refusal : WriteRefusal) (r : Result A (Refused WriteRefusal)) → r ≡ Err (Fault refusal)
    → ((n : ℕ) → (r ≡ Err (Fault (unmade.TooLong n))) ↔ IsTooLong (length (extended_content bytes chain published)) n)
    → fitting bytes chain published ≡ Err (too_large refusal)
no_bytes bytes chain published (unmade.TooLong n) r is long = sym (long_content bytes chain published n ((long n).0 is))
