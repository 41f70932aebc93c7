-- An answer shows what it says.
use Rattle.std.proofs.Common.{◌≡◌, ◌≢◌, ℕ, ◌≤◌, true, List, length, Ok, Option, Some, None, refl, sym, ap, subst, ◌∙◌, arith, inl, inr}
use Rattle.std.specs.Prelude.{◌↔◌}
use Rattle.ksi_imprint.specs.Imprints.{IsImprint, IsClash, zero_imprint}
use Rattle.ksi_imprint.specs.declared.clash.Clash.{Clash}
use Rattle.ksi_aggtree.specs.Links.{PlainLink}
use Rattle.ksi_aggtree.specs.Climbing.{Climbs, climbed, level_after}
use Rattle.ksi_aggtree.specs.declared.chains.node.Node.{Node}
use Rattle.ksi_calendar.specs.Calendar as calendars
use Rattle.ksi_calendar.specs.Covered.{IsCovered, first_missing, covered_root, second_leaf}
use Rattle.ksi_signature.specs.Values.{Calendar}
use Rattle.ksi_signature.specs.declared.signature.Signature.{Signature}
use Rattle.ksi_verifier.specs.Accepted.{ChainsLead, IsAccepted}
use Rattle.ksi_verifier.specs.Chains.{PlainChain, plain_chains, at_level_zero}
use Rattle.ksi_verifier.specs.Leading.{all_links}
use Rattle.ksi_verifier.specs.Verdict.{chain_root, verdict}
use Rattle.ksi_verifier.specs.declared.verdict.Verdict.{Verdict}
use Rattle.ksi_verifier.specs.declared.verdict.Verdict.TheVariants.{Accepted, Refused}
use Rattle.ksi_journal.specs.Journal.{Contents, IsJournal, root_at, items_at}
use Rattle.ksi_journal.specs.Calendar.{calendar_of}
use Rattle.ksi_auditor.specs.declared.answer.Audit.TheVariants as answers
use Rattle.ksi_auditor.specs.Audit.{links_of, found, laid_beside, decided, kept_or_not, accepted_or_not, audit}
use Rattle.ksi_auditor.specs.Shown.{HasLinks, IsDecided, Shows}
use Rattle.ksi_auditor.proofs.Cases.{lt_cases, same_cases}
use Rattle.ksi_auditor.proofs.Cited.{Laws, RoundLaws}
use Rattle.ksi_auditor.proofs.Keeping.{HasItems, items_kept, leaf_has_items, leaf_size}
use Rattle.ksi_auditor.proofs.ShowingLaid.{laid_shows, missed_is_clash}
use Rattle.ksi_auditor.proofs.Rungs.{climbed_ends}

-- ---- decided publications

-- the kept root as the code reads it
pub root_is : (image : List ℕ → List ℕ) (j : Contents) (p : ℕ) (seconds : calendars.Seconds) (found : Option (List ℕ)) → seconds ≡ calendar_of j → found ≡ calendars.root_to image seconds p → calendars.is_covered (calendar_of j) p ≡ true
    → found ≡ Some (calendars.calendar_root image (calendar_of j) p)
root_is image j p seconds found same e covered = e ∙ ap (λ (s : calendars.Seconds). calendars.root_to image s p) same ∙ rw covered refl

-- an audit of an accepted signature, whose publication is decided
pub audit_laid : (image : List ℕ → List ℕ) (j : Contents) (signature : Signature) (hash : List ℕ) (publications : List (ℕ × List ℕ)) (t : ℕ) (calendar : Calendar) → verdict image signature hash publications ≡ Accepted t → signature.calendar ≡ Some calendar
    → j.start ≤ calendar.publication → first_missing (root_at j) j.start calendar.publication ≡ None → chain_root image calendar ≡ covered_root image (root_at j) j.start calendar.publication → audit image j signature hash publications ≡ laid_beside image j (links_of signature) hash t calendar
unfolding audit
audit_laid image j signature hash publications t calendar passes has from none root =
    ap (accepted_or_not image j (links_of signature) signature.calendar hash) passes ∙ ap (kept_or_not image j (links_of signature) hash t) has
    ∙ (elim (lt_cases calendar.publication j.start) as (λ z. kept_or_not image j (links_of signature) hash t (Some calendar) ≡ decided image j (links_of signature) hash t calendar (first_missing (root_at j) j.start calendar.publication)) [ inl early ↦ absurd (omega (arith, early.1, from)) | inr late ↦ rw late.0 refl ])
    ∙ ap (decided image j (links_of signature) hash t calendar) none
    ∙ (elim (same_cases (chain_root image calendar) (covered_root image (root_at j) j.start calendar.publication)) as (λ z. decided image j (links_of signature) hash t calendar None ≡ laid_beside image j (links_of signature) hash t calendar) [ inl same ↦ rw same.0 refl | inr other ↦ absurd (other.1 root) ])

-- no level of an accepted signature passes 255
pub low : (climbs : (image : List ℕ → List ℕ) (start top : Node) (links : List PlainLink) → (climbed image 0 start links ≡ Ok top) ↔ Climbs image start links top)
    (lead : (image : List ℕ → List ℕ) (chains : List PlainChain) (start item : Node) → ChainsLead image start chains item → Climbs image start (all_links chains) item)
    (image : List ℕ → List ℕ) (signature : Signature) (hash : List ℕ) (publications : List (ℕ × List ℕ)) (t : ℕ) → IsAccepted image signature hash publications t → level_after 0 (links_of signature) ≤ 255
low climbs lead image signature hash publications t a =
    (climbed_ends image 0 (at_level_zero hash) a.node (links_of signature) ((climbs image (at_level_zero hash) a.node (links_of signature)).1 (lead image (plain_chains signature.chains) (at_level_zero hash) a.node a.chains.lead)) (omega arith)).1

some_is : {A : Type 0} {x y : A} → ◌≡◌ {A = Option A} (Some x) (Some y) → x ≡ y
some_is e = cc

module _ (laws : Laws) (image : List ℕ → List ℕ) (lawful : (bytes : List ℕ) → IsImprint (image bytes)) (j : Contents) (journal : IsJournal image j) where
  abbrev seconds : calendars.Seconds
  seconds = calendar_of j

  leaves : (t : ℕ) → length (calendars.calendar_leaf seconds t) ≡ 33
  leaves t = leaf_size image j t journal

  module _ (signature : Signature) (hash : List ℕ) (publications : List (ℕ × List ℕ)) (t : ℕ) (size : length hash ≡ 33) (a : IsAccepted image signature hash publications t)
      (from : j.start ≤ a.calendar.publication) (none : first_missing (root_at j) j.start a.calendar.publication ≡ None) (root : chain_root image a.calendar ≡ covered_root image (root_at j) j.start a.calendar.publication) where
    abbrev p : ℕ
    p = a.calendar.publication

    all_kept : IsCovered (root_at j) j.start p
    all_kept = record { from = from; each = (laws.none (root_at j) j.start p).0 none }

    leads : chain_root image a.calendar ≡ calendars.calendar_root image seconds p
    leads = root ∙ sym (laws.root image j p journal all_kept)

    covered : calendars.is_covered seconds p ≡ true
    covered = (laws.covered image j p journal).1 all_kept

    leaf_is : calendars.calendar_leaf seconds t ≡ second_leaf (root_at j) j.start t
    leaf_is =
        let early = a.second.within in
        let last = ((laws.within image j p journal).1 all_kept).1 in
        laws.leaves image j t journal (omega (arith, early, last))

    has : calendars.calendar_leaf seconds t ≢ zero_imprint → HasItems image (items_at j t) (calendars.calendar_leaf seconds t)
    has other = subst (HasItems image (items_at j t)) (sym leaf_is) (leaf_has_items image j t journal (λ zero. other (leaf_is ∙ zero)))

    decided_shows : RoundLaws → HasLinks signature → Shows image j signature hash (laid_beside image j (links_of signature) hash t a.calendar)
    decided_shows rounds are = laid_shows laws image lawful seconds leaves signature hash publications t size a covered leads (items_at j) (items_kept image j t journal) has rounds are

    missed_clash : second_leaf (root_at j) j.start t ≡ zero_imprint → (clash : Clash) × (laid_beside image j (links_of signature) hash t a.calendar ≡ answers.Clash clash) × IsClash image clash
    missed_clash missed = missed_is_clash laws image lawful seconds leaves signature hash publications t size a covered leads (items_at j t) (leaf_is ∙ missed)

  -- ---- whatever an audit answers, it shows what it says

  module _ (signature : Signature) (hash : List ℕ) (publications : List (ℕ × List ℕ)) (size : length hash ≡ 33) (rounds : RoundLaws) (are : HasLinks signature) where
    when_whole : (t : ℕ) (a : IsAccepted image signature hash publications t) → j.start ≤ a.calendar.publication → (missing : Option ℕ) → first_missing (root_at j) j.start a.calendar.publication ≡ missing → Shows image j signature hash (decided image j (links_of signature) hash t a.calendar missing)
    when_whole t a from (Some second) e = tt
    when_whole t a from None e = elim (same_cases (chain_root image a.calendar) (covered_root image (root_at j) j.start a.calendar.publication)) [
      | inl root ↦ rw root.0 (decided_shows signature hash publications t size a from e root.1 rounds are)
      | inr other ↦ rw other.0 tt
    ]

    when_accepted : (t : ℕ) → IsAccepted image signature hash publications t → Shows image j signature hash (kept_or_not image j (links_of signature) hash t signature.calendar)
    when_accepted t a = subst (λ (c : Option Calendar). Shows image j signature hash (kept_or_not image j (links_of signature) hash t c)) (sym a.has_calendar)
        (elim (lt_cases a.calendar.publication j.start) [
          | inl early ↦ rw early.0 tt
          | inr late ↦ rw late.0 (when_whole t a late.1 (first_missing (root_at j) j.start a.calendar.publication) refl)
        ])

    of_verdict : (v : Verdict) → verdict image signature hash publications ≡ v → Shows image j signature hash (accepted_or_not image j (links_of signature) signature.calendar hash v)
    of_verdict (Refused refusal) e = tt
    of_verdict (Accepted t) e = when_accepted t ((laws.accepted image signature hash publications t).0 e)

    pub audit_shows : Shows image j signature hash (audit image j signature hash publications)
    unfolding audit
    audit_shows = of_verdict (verdict image signature hash publications) refl

  module _ (signature : Signature) (hash : List ℕ) (publications : List (ℕ × List ℕ)) (size : length hash ≡ 33) where
    pub missed_shows : (t : ℕ) → verdict image signature hash publications ≡ Accepted t → IsDecided image j signature → second_leaf (root_at j) j.start t ≡ zero_imprint → (clash : Clash) × (audit image j signature hash publications ≡ answers.Clash clash) × IsClash image clash
    missed_shows t passes d missed =
        let a = (laws.accepted image signature hash publications t).0 passes in
        let same : a.calendar ≡ d.calendar = some_is (sym a.has_calendar ∙ d.has_calendar) in
        let covered : IsCovered (root_at j) j.start a.calendar.publication = subst (λ (c : Calendar). IsCovered (root_at j) j.start c.publication) (sym same) d.covered in
        let root : chain_root image a.calendar ≡ covered_root image (root_at j) j.start a.calendar.publication = subst (λ (c : Calendar). chain_root image c ≡ covered_root image (root_at j) j.start c.publication) (sym same) d.root in
        let none = (laws.none (root_at j) j.start a.calendar.publication).1 covered.each in
        let m = missed_clash signature hash publications t size a covered.from none root missed in
        (m.0, audit_laid image j signature hash publications t a.calendar passes a.has_calendar covered.from none root ∙ m.1, m.2)
