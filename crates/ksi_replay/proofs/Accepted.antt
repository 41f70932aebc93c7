-- As many signatures are accepted as were issued.
use Rattle.std.proofs.Common.{◌≡◌, ℕ, zero, suc, ◌+◌, ◌<◌, ◌≤◌, Bool, true, List, [], ◌∷◌, length, map, refl, sym, ap, ◌∙◌, arith, Option, Some, None, Ok, ◌==◌}
use Rattle.std.specs.Prelude.{◌↔◌, slice_get}
use Rattle.std.specs.List.{filter}
use Rattle.std.proofs.lemmas.Bool.{cond-true, eq-eqb}
use Rattle.ksi_imprint.specs.Imprints.{imprint_of}
use Rattle.ksi_tlv.specs.Spelling.{AreBytes}
use Rattle.ksi_calendar.specs.Calendar.{Seconds, calendar_root, is_covered, root_to}
use Rattle.ksi_calendar.specs.Covered.{IsCovered, covered_root}
use Rattle.ksi_signature.specs.declared.signature.Signature.{Signature}
use Rattle.ksi_signature.specs.File.{IsSignature}
use Rattle.ksi_signature.specs.Reading.{signature_at}
use Rattle.ksi_publications.specs.Finding.{find}
use Rattle.ksi_extender.specs.Extended.{extended}
use Rattle.ksi_extender.specs.Accepted.{extended_signature}
use Rattle.ksi_schedule.specs.Events.{History}
use Rattle.ksi_world.specs.declared.outcome.Asked.{Asked}
use Rattle.ksi_world.specs.Histories.{world_of}
use Rattle.ksi_world.specs.Records.{issued_of}
use Rattle.ksi_journal.specs.Journal.{Contents, root_at}
use Rattle.ksi_journal.specs.Calendar.{calendar_of}
use Rattle.ksi_replay.specs.Joined.{Joined, Lasts}
use Rattle.ksi_replay.specs.Lasting.{LastsTo}
use Rattle.ksi_replay.specs.declared.trial.Trial.{Trial}
use Rattle.ksi_replay.specs.Covered.{greatest_covered, last_from, published}
use Rattle.ksi_replay.specs.Drill.{count, tally_of}
use Rattle.ksi_replay.specs.Trials.{extension, if_extended, if_signature, is_accepted, trial, trial_for, trials}

-- ---- lists

-- where all pass, as many pass as there are
all_pass : {A B : Type 0} (test : B → Bool) (f : A → B) (xs : List A) → ((k : ℕ) (x : A) → slice_get xs k ≡ Some x → test (f x) ≡ true) → count test (map f xs) ≡ length xs
all_pass test f [] pass = refl
all_pass {B = B} test f (x ∷ xs) pass =
    ap (λ (kept : List B). length kept) (cond-true (test (f x)) (f x ∷ filter test (map f xs)) (filter test (map f xs)) (pass zero x refl))
    ∙ ap suc (all_pass test f xs (λ k y at. pass (suc k) y at))

-- a list without a first element is empty
none_there : {A : Type 0} (xs : List A) → ((x : A) → slice_get xs 0 ≡ Some x → ⊥) → length xs ≡ 0
none_there [] none = refl
none_there (x ∷ xs) none = absurd (none x refl)

-- ---- the greatest covered second

last_is : (start n p : ℕ) → last_from start n ≡ Some p → (start ≤ p) × (suc p ≡ start + n)
last_is start zero p e = absurd (cc e)
last_is start (suc n) p e = let same : start + n ≡ p = cc e in (omega (arith, same), omega (arith, same))

last_none : (start n : ℕ) → last_from start n ≡ None → n ≡ 0
last_none start zero e = refl
last_none start (suc n) e = absurd (cc e)

abbrev covered_count : Contents → ℕ
covered_count journal = length (calendar_of journal).roots

pub greatest_is : (journal : Contents) (p : ℕ) → greatest_covered journal ≡ Some p → (journal.start ≤ p) × (suc p ≡ journal.start + covered_count journal)
unfolding greatest_covered
greatest_is journal p e = last_is journal.start (covered_count journal) p e

greatest_none : (journal : Contents) → greatest_covered journal ≡ None → covered_count journal ≡ 0
unfolding greatest_covered
greatest_none journal e = last_none journal.start (covered_count journal) e

-- the kept root as the code reads it
pub root_is : (image : List ℕ → List ℕ) (journal : Contents) (p : ℕ) (seconds : Seconds) (found : Option (List ℕ)) → seconds ≡ calendar_of journal → found ≡ root_to image seconds p → is_covered (calendar_of journal) p ≡ true
    → found ≡ Some (calendar_root image (calendar_of journal) p)
root_is image journal p seconds found same e covered = e ∙ ap (λ (s : Seconds). root_to image s p) same ∙ rw covered refl

-- the one publication is found
found_here : (p : ℕ) (root : List ℕ) → find p ((p, root) ∷ []) ≡ Some root
found_here p root = cond-true (p == p) (Some root) None (eq-eqb p p refl)

-- ---- issued signatures

-- what is known of a history, its journal and signatures
pub record Facts (h : History) (journal : Contents) : Type 0 where
  pub joined : Joined imprint_of h journal
  pub listed : (k : ℕ) (x : ℕ × List ℕ) → slice_get journal.issued k ≡ Some x → issued_of imprint_of (world_of imprint_of h) x.0 ≡ Some x.1
  pub extends : (number : ℕ) (text : List ℕ) → issued_of imprint_of (world_of imprint_of h) number ≡ Some text → (p : ℕ) (bytes : List ℕ) → extended imprint_of journal text p ≡ Ok bytes → AreBytes bytes
  pub within : (p : ℕ) → ((journal.start ≤ p) × (p < journal.start + covered_count journal)) ↔ IsCovered (root_at journal) journal.start p
  pub read : (bytes : List ℕ) (signature : Signature) → AreBytes bytes → (signature_at bytes ≡ Ok signature) ↔ IsSignature bytes signature

module _ (h : History) (journal : Contents) (facts : Facts h journal) where
  lasts : (k : ℕ) (x : ℕ × List ℕ) → slice_get journal.issued k ≡ Some x → Lasts imprint_of h journal x.0 x.1
  lasts k x at = facts.joined.issued x.0 x.1 (facts.listed k x at)

  -- the second of each is at most the greatest one
  covered_until : (k : ℕ) (x : ℕ × List ℕ) (at : slice_get journal.issued k ≡ Some x) → (lasts k x at).asked.second < journal.start + covered_count journal
  covered_until k x at = ((facts.within (lasts k x at).asked.second).1 (lasts k x at).covered).1

  lasts_to : (p : ℕ) → greatest_covered journal ≡ Some p → (k : ℕ) (x : ℕ × List ℕ) (at : slice_get journal.issued k ≡ Some x) → LastsTo imprint_of journal (lasts k x at).asked x.1 p
  lasts_to p greatest k x at =
      let is = greatest_is journal p greatest in
      (lasts k x at).later p (omega (arith, is.1, covered_until k x at))
      ((facts.within p).0 (is.0, omega (arith, is.1)))

  -- what lasts is accepted
  accepted_for : (p : ℕ) (x : ℕ × List ℕ) (asked : Asked) → slice_get (world_of imprint_of h).requests x.0 ≡ Some asked → issued_of imprint_of (world_of imprint_of h) x.0 ≡ Some x.1
      → LastsTo imprint_of journal asked x.1 p → (trial imprint_of (world_of imprint_of h).requests journal p x).accepted ≡ true
  unfolding trial
  accepted_for p x asked there issued l =
      let signature = extended_signature imprint_of journal l.signature p in
      let are = facts.extends x.0 x.1 issued p l.bytes l.extension in
      let read : extension imprint_of journal x.1 p ≡ Some signature = ap if_extended l.extension ∙ ap if_signature ((facts.read l.bytes signature are).1 l.after) in
      ap (λ (a : Option Asked). (trial_for imprint_of journal p a (extension imprint_of journal x.1 p)).accepted) there
      ∙ ap (λ (e : Option Signature). (trial_for imprint_of journal p (Some asked) e).accepted) read
      ∙ ap is_accepted (l.accepted (published imprint_of journal p) (found_here p (covered_root imprint_of (root_at journal) journal.start p)))

  all_trials : (greatest : Option ℕ) → greatest_covered journal ≡ greatest
      → count (λ (t : Trial). t.accepted) (trials imprint_of (world_of imprint_of h).requests journal greatest) ≡ length journal.issued
  all_trials None none = sym (none_there journal.issued (λ x at.
      let first = lasts 0 x at in
      let from = first.covered.from in
      omega (arith, covered_until 0 x at, from, greatest_none journal none)))
  all_trials (Some p) greatest = all_pass (λ (t : Trial). t.accepted) (trial imprint_of (world_of imprint_of h).requests journal p) journal.issued (λ k x at.
      accepted_for p x (lasts k x at).asked (lasts k x at).accepted (facts.listed k x at) (lasts_to p greatest k x at))

  -- as many are accepted as were issued
  pub all_accepted : (tally_of imprint_of h journal).accepted ≡ (tally_of imprint_of h journal).issued
  unfolding tally_of
  all_accepted = all_trials (greatest_covered journal) refl
