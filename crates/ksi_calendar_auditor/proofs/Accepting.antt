-- A signature that is accepted against the root of a calendar.
use Rattle.std.proofs.Common.{◌≡◌, ◌∙◌, ℕ, ◌+◌, ◌<◌, ◌≤◌, Bool, true, false, ◌&&◌, if◌then◌else◌, List, [], ◌∷◌, length, Option, Some, None, refl, ap, sym, subst, nat_le, nat_lt}
use Rattle.std.specs.Prelude.{IsTrue, ◌↔◌, ◌==◌}
use Rattle.std.proofs.lemmas.Bool.{eqb-true, ltb-true}
use Rattle.ksi_split.specs.declared.tree_link.TreeLink.{TreeLink}
use Rattle.ksi_split.specs.Trees.{climb_links}
use Rattle.ksi_calendar.specs.Climbing.{ClimbsCalendar, calendar_join}
use Rattle.ksi_calendar.specs.Calendar.{Seconds, calendar_leaf, calendar_root, is_covered}
use Rattle.ksi_calendar.specs.Covered.{IsCovered, Roots, covered_root, second_leaf}
use Rattle.ksi_publications.specs.Finding.{find}
use Rattle.ksi_signature.specs.declared.signature.Signature.{Signature}
use Rattle.ksi_verifier.specs.Accepted.{IsAccepted}
use Rattle.ksi_verifier.specs.Verdict.{verdict}
use Rattle.ksi_verifier.specs.declared.verdict.Verdict.TheVariants.{Accepted}
use Rattle.ksi_journal.specs.Journal.{Contents, root_at}
use Rattle.ksi_auditor.specs.Shown.{IsDecided, LeadsToRoot}
use Rattle.ksi_calendar_extender.specs.Kept.{journal_of}
use Rattle.ksi_calendar_auditor.specs.Kept.{journal_with}
use Rattle.ksi_calendar_auditor.specs.Audited.{published}
use Rattle.ksi_calendar_auditor.proofs.Keeping.{is_kept, same_leaf}

some_is : {A : Type 0} {x y : A} → ◌≡◌ {A = Option A} (Some x) (Some y) → x ≡ y
some_is e = cc

both_true : (a b : Bool) → (a && b) ≡ true → b ≡ true
both_true true b is = is
both_true false b is = absurd (cc is)

pub covers : (seconds : Seconds) (p : ℕ) → IsTrue (is_covered seconds p) → p < seconds.start + length seconds.roots
covers seconds p covered = ltb-true p (seconds.start + length seconds.roots) (both_true (nat_le seconds.start p) (nat_lt p (seconds.start + length seconds.roots)) covered)

-- what is found in a list of one pair
find_one : (p : ℕ) (root : List ℕ) (time : ℕ) (found : List ℕ) → find time ((p, root) ∷ []) ≡ Some found → (time ≡ p) × (found ≡ root)
find_one p root time found e = of (p == time) refl e
  where
    of : (b : Bool) → (p == time) ≡ b → ◌≡◌ {A = Option (List ℕ)} (if b then Some root else None) (Some found) → (time ≡ p) × (found ≡ root)
    of true is e = (sym (eqb-true p time is), sym (some_is e))
    of false is e = absurd cc

module _ (accepted : (image : List ℕ → List ℕ) (signature : Signature) (hash : List ℕ) (publications : List (ℕ × List ℕ)) (t : ℕ) → (verdict image signature hash publications ≡ Accepted t) ↔ IsAccepted image signature hash publications t)
    (image : List ℕ → List ℕ) (seconds : Seconds) (p : ℕ) (signature : Signature) (hash : List ℕ) (t : ℕ) (passes : verdict image signature hash (published image seconds p) ≡ Accepted t) where
  abbrev a : IsAccepted image signature hash (published image seconds p) t
  a = (accepted image signature hash (published image seconds p) t).0 passes

  one : (a.calendar.publication ≡ p) × (a.root ≡ calendar_root image seconds p)
  one = find_one p (calendar_root image seconds p) a.calendar.publication a.root a.published

  pub to : t ≤ p
  to = subst (λ (n : ℕ). t ≤ n) one.0 a.second.within

  module _ (value : (image : List ℕ → List ℕ) (start top : List ℕ) (links : List (TreeLink (List ℕ))) → ClimbsCalendar image start links top ↔ (top ≡ climb_links (calendar_join image) start links)) (covered : IsTrue (is_covered seconds p)) where
    pub leads : LeadsToRoot image seconds signature
    leads = record {
      calendar = a.calendar;
      has_calendar = a.has_calendar;
      covered = subst (λ (n : ℕ). IsTrue (is_covered seconds n)) (sym one.0) covered;
      root = sym ((value image a.calendar.input a.root a.calendar.links).0 a.climbs) ∙ one.1 ∙ ap (calendar_root image seconds) (sym one.0);
    }

-- its publication is decided in the journal that keeps the roots
pub decided : (image : List ℕ → List ℕ) (seconds : Seconds) (items : Contents) (signature : Signature) (leads : LeadsToRoot image seconds signature)
    → IsCovered (root_at (journal_of seconds)) seconds.start leads.calendar.publication
    → ((t : ℕ) → t ≤ leads.calendar.publication → calendar_leaf seconds t ≡ second_leaf (root_at (journal_of seconds)) seconds.start t)
    → ((seconds : Seconds) (roots : Roots) (start p : ℕ) → ((t : ℕ) → t ≤ p → calendar_leaf seconds t ≡ second_leaf roots start t) → calendar_root image seconds p ≡ covered_root image roots start p)
    → IsDecided image (journal_with seconds items) signature
decided image seconds items signature leads kept leaves root = record {
  calendar = leads.calendar;
  has_calendar = leads.has_calendar;
  covered = is_kept seconds items leads.calendar.publication kept;
  root = leads.root ∙ root seconds (root_at (journal_with seconds items)) seconds.start leads.calendar.publication (λ t to. leaves t to ∙ same_leaf seconds items t);
}
