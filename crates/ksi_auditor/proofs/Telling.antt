-- An audit of an accepted signature, whose publication is decided, tells where its hash stands, or has a clash.
use Rattle.std.proofs.Common.{◌≡◌, ◌≤◌, ℕ, List, ◌++◌, length, sym, ap, subst, ◌∙◌, Option, Some, None}
use Rattle.std.specs.Prelude.{◌==◌, IsSome, ◌↔◌}
use Rattle.ksi_split.specs.declared.side.Side.{Side}
use Rattle.ksi_aggtree.specs.Links.{PlainLink}
use Rattle.ksi_aggtree.specs.declared.item.Item.{Item}
use Rattle.ksi_calendar.specs.Calendar.{Seconds}
use Rattle.ksi_calendar.specs.Covered.{first_missing}
use Rattle.ksi_signature.specs.Values.{Calendar}
use Rattle.ksi_signature.specs.declared.signature.Signature.{Signature}
use Rattle.ksi_verifier.specs.Verdict.{verdict}
use Rattle.ksi_verifier.specs.declared.verdict.Verdict.TheVariants.{Accepted}
use Rattle.ksi_journal.specs.Journal.{Contents, root_at, items_at}
use Rattle.ksi_journal.specs.Calendar.{calendar_of}
use Rattle.ksi_beside.specs.Beside.{Pair, differing}
use Rattle.ksi_auditor.specs.Audit.{links_of, sides_of, calendar_pairs, item_pairs, ends, found, laid_over, laid_if, laid_beside, audit}
use Rattle.ksi_auditor.specs.Shown.{IsDecided, Tells}
use Rattle.ksi_auditor.proofs.Showing.{audit_laid}
use Rattle.std.proofs.lemmas.Bool.{cond_both}

ends_tell : (t count : ℕ) (sides : List Side) (passed : ℕ) → Tells (ends t count sides passed)
ends_tell t count sides passed = cond_both (passed == length sides) _ _ Tells (λ _. tt) (λ _. tt)

found_tells : (t count : ℕ) (sides : List Side) (passed : ℕ) (pair : Option Pair) → Tells (found t count sides passed pair)
found_tells t count sides passed (Some pair) = tt
found_tells t count sides passed None = ends_tell t count sides passed

pub laid_tells : (image : List ℕ → List ℕ) (seconds : Seconds) (items : List Item) (links : List PlainLink) (hash : List ℕ) (t : ℕ) (calendar : Calendar)
    → Tells (laid_over image seconds items links hash t calendar)
laid_tells image seconds items links hash t calendar =
    let pairs = item_pairs image items links hash in
    found_tells t (length items) (sides_of links) (length pairs) (differing (calendar_pairs image seconds calendar ++ pairs))

module _ (image : List ℕ → List ℕ) (journal : Contents) (none : (p : ℕ) → (first_missing (root_at journal) journal.start p ≡ None) ↔ ((t : ℕ) → journal.start ≤ t → t ≤ p → IsSome (root_at journal t)))
    (signature : Signature) (hash : List ℕ) (publications : List (ℕ × List ℕ)) (t : ℕ) (passes : verdict image signature hash publications ≡ Accepted t) (decided : IsDecided image journal signature) where
  is_laid : audit image journal signature hash publications ≡ laid_beside image journal (links_of signature) hash t decided.calendar
  is_laid = audit_laid image journal signature hash publications t decided.calendar passes decided.has_calendar decided.covered.from ((none decided.calendar.publication).1 decided.covered.each) decided.root

  pub decided_laid : audit image journal signature hash publications ≡ laid_if image (calendar_of journal) (items_at journal t) (links_of signature) hash t signature.calendar
  decided_laid = is_laid ∙ sym (ap (laid_if image (calendar_of journal) (items_at journal t) (links_of signature) hash t) decided.has_calendar)

  pub decided_tells : Tells (audit image journal signature hash publications)
  decided_tells = subst Tells (sym is_laid) (laid_tells image (calendar_of journal) (items_at journal t) (links_of signature) hash t decided.calendar)
