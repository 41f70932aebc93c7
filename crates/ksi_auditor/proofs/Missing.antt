-- Signatures for seconds that no root is kept for.
use Rattle.std.proofs.Common.{◌≡◌, ◌≤◌, ℕ, false, refl, arith, inl, inr}
use Rattle.std.specs.Prelude.{nat_lt}
use Rattle.ksi_imprint.specs.Imprints.{zero_imprint}
use Rattle.ksi_calendar.specs.Covered.{second_leaf}
use Rattle.ksi_journal.specs.Journal.{Contents, root_at}
use Rattle.ksi_auditor.specs.Shown.{IsMissed}
use Rattle.ksi_auditor.proofs.Cases.{lt_cases}

pub missed_leaf : (journal : Contents) (t : ℕ) → IsMissed journal t → second_leaf (root_at journal) journal.start t ≡ zero_imprint
missed_leaf journal t missed = elim (lt_cases t journal.start) [
  | inl before ↦ rw before.0 refl
  | inr from ↦ of missed from.0 from.1
]
  where
    of : IsMissed journal t → nat_lt t journal.start ≡ false → journal.start ≤ t → second_leaf (root_at journal) journal.start t ≡ zero_imprint
    of (inl before) e from = absurd (omega (arith, before, from))
    of (inr zero) e from = rw (e, zero) refl
