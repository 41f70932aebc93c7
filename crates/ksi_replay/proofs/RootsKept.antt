-- What was published is the root of the journal's calendar.
use Rattle.std.proofs.Common.{◌≡◌, ℕ, zero, suc, ◌≤◌, Bool, true, false, List, [], ◌∷◌, refl, sym, ap, ◌∙◌, Some, if◌then◌else◌}
use Rattle.std.specs.Prelude.{◌==◌, slice_get}
use Rattle.std.proofs.lemmas.Bool.{eq-eqb, eqb-true}
use Rattle.ksi_calendar.specs.Calendar.{Seconds, calendar_root}
use Rattle.ksi_calendar.specs.Covered.{Roots, IsCovered, covered_seconds, covered_root}
use Rattle.ksi_publications.specs.Finding.{find}
use Rattle.ksi_journal.specs.Journal.{Contents, root_at}
use Rattle.ksi_schedule.specs.Plans.{PlanState}
use Rattle.ksi_world.specs.Histories.{WorldState}
use Rattle.ksi_world.specs.Records.{kept_root}
use Rattle.ksi_world.specs.Joined.{IsKeptRoot}
use Rattle.ksi_replay.specs.Lasting.{KeepsRoots}

-- where all pairs of a time have one root, and there is one, it is found
pub found_root : (pairs : List (ℕ × List ℕ)) (p : ℕ) (root : List ℕ) → ((k : ℕ) (other : List ℕ) → slice_get pairs k ≡ Some (p, other) → other ≡ root) → (k : ℕ) (one : List ℕ) → slice_get pairs k ≡ Some (p, one) → find p pairs ≡ Some root
found_root [] p root all k one at = absurd (cc at)
found_root (pair ∷ pairs) p root all k one at = by (pair.0 == p) refl k at (λ k at. found_root pairs p root (λ k other there. all (suc k) other there) k one at)
  where
    by : (b : Bool) → (pair.0 == p) ≡ b → (k : ℕ) → slice_get (pair ∷ pairs) k ≡ Some (p, one) → ((k : ℕ) → slice_get pairs k ≡ Some (p, one) → find p pairs ≡ Some root)
        → (if b then Some pair.1 else find p pairs) ≡ Some root
    by true is k at rest =
        let same : pair ≡ (p, pair.1) = ap (λ (t : ℕ). (t, pair.1)) (eqb-true pair.0 p is) in
        ap (λ (root : List ℕ). Some root) (all 0 pair.1 (ap (λ (x : ℕ × List ℕ). Some x) same))
    by false is zero at rest =
        let same : pair ≡ (p, one) = cc at in
        let time : pair.0 ≡ p = ap (λ (x : ℕ × List ℕ). x.0) same in
        absurd (cc (sym is ∙ eq-eqb pair.0 p time))
    by false is (suc k) at rest = rest k at

-- the calendar of what the cores keep is that of the journal
pub root_kept : (plan : PlanState) (w : WorldState) (journal : Contents) (keeps : KeepsRoots plan w journal)
    → ((roots more : Roots) (start p : ℕ) → IsCovered roots start p → ((t : ℕ) → start ≤ t → t ≤ p → (root : List ℕ) → roots t ≡ Some root → more t ≡ Some root) → covered_seconds roots start p ≡ covered_seconds more start p)
    → (image : List ℕ → List ℕ) (p : ℕ) (root : List ℕ) → IsKeptRoot image plan w p root → root ≡ covered_root image (root_at journal) journal.start p
root_kept plan w journal keeps same image p root is =
    is.root_is
    ∙ ap (λ (seconds : Seconds). calendar_root image seconds p) (same (kept_root plan w) (root_at journal) plan.start p is.covered (λ t from to root at. keeps.roots t ∙ at))
    ∙ ap (λ (start : ℕ). covered_root image (root_at journal) start p) (sym keeps.start)
