-- What is found over seconds that are known by their roots alone, and over the items of one second.
use Rattle.std.proofs.Common.{◌≡◌, ℕ, true, List, length, Option, Some, sym, ap, subst, ◌∙◌}
use Rattle.std.specs.List.{AllByRecursion}
use Rattle.ksi_imprint.specs.Imprints.{IsImprint, zero_imprint}
use Rattle.ksi_aggtree.specs.declared.item.Item.{Item}
use Rattle.ksi_calendar.specs.Calendar as calendars
use Rattle.ksi_signature.specs.Values.{Calendar}
use Rattle.ksi_signature.specs.declared.signature.Signature.{Signature}
use Rattle.ksi_verifier.specs.Accepted.{IsAccepted}
use Rattle.ksi_verifier.specs.Verdict.{chain_root, verdict}
use Rattle.ksi_verifier.specs.declared.verdict.Verdict.TheVariants.{Accepted}
use Rattle.ksi_auditor.specs.Audit.{laid_if, laid_over, links_of}
use Rattle.ksi_auditor.specs.Shown.{AreItemsOf, HasClash, HasLinks, LeadsToRoot, ShowsIn}
use Rattle.ksi_auditor.proofs.Cited.{Laws, RoundLaws}
use Rattle.ksi_auditor.proofs.Keeping.{imprint_leaf, rooted}
use Rattle.ksi_auditor.proofs.ShowingLaid.{laid_shows, missed_is_clash}

some_is : {A : Type 0} {x y : A} → ◌≡◌ {A = Option A} (Some x) (Some y) → x ≡ y
some_is e = cc

module _ (laws : Laws) (image : List ℕ → List ℕ) (lawful : (bytes : List ℕ) → IsImprint (image bytes)) (seconds : calendars.Seconds) (imprints : AllByRecursion IsImprint seconds.roots)
    (signature : Signature) (hash : List ℕ) (publications : List (ℕ × List ℕ)) (t : ℕ) (size : length hash ≡ 33) (passes : verdict image signature hash publications ≡ Accepted t) (leads : LeadsToRoot image seconds signature) where
  leaves : (u : ℕ) → length (calendars.calendar_leaf seconds u) ≡ 33
  leaves u = imprint_leaf image seconds u imprints

  facts : IsAccepted image signature hash publications t
  facts = (laws.accepted image signature hash publications t).0 passes

  same : leads.calendar ≡ facts.calendar
  same = some_is (sym leads.has_calendar ∙ facts.has_calendar)

  covered : calendars.is_covered seconds facts.calendar.publication ≡ true
  covered = subst (λ (c : Calendar). calendars.is_covered seconds c.publication ≡ true) same leads.covered

  root : chain_root image facts.calendar ≡ calendars.calendar_root image seconds facts.calendar.publication
  root = subst (λ (c : Calendar). chain_root image c ≡ calendars.calendar_root image seconds c.publication) same leads.root

  has_chain : (items : List Item) → laid_if image seconds items (links_of signature) hash t signature.calendar ≡ laid_over image seconds items (links_of signature) hash t facts.calendar
  has_chain items = ap (laid_if image seconds items (links_of signature) hash t) facts.has_calendar

  pub over_shows : (items : ℕ → List Item) → AreItemsOf image (items t) (calendars.calendar_leaf seconds t) → RoundLaws → HasLinks signature → ShowsIn image items signature hash (laid_if image seconds (items t) (links_of signature) hash t signature.calendar)
  over_shows items kept rounds are = subst (ShowsIn image items signature hash) (sym (has_chain (items t)))
      (laid_shows laws image lawful seconds leaves signature hash publications t size facts covered root items (record { few = kept.few; each = kept.each }) (rooted image (items t) (calendars.calendar_leaf seconds t) kept.tree) rounds are)

  pub over_missed : (items : List Item) → calendars.calendar_leaf seconds t ≡ zero_imprint → HasClash (laid_if image seconds items (links_of signature) hash t signature.calendar)
  over_missed items missed =
      let m = missed_is_clash laws image lawful seconds leaves signature hash publications t size facts covered root items missed in
      subst HasClash (sym (has_chain items ∙ m.1)) tt
