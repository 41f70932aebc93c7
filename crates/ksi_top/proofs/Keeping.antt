-- Reports where a journal does not keep what a front wants.
use Rattle.std.proofs.Common.{◌≡◌, ℕ, Bool, true, false, Option, Some, None, refl, arith}
use Rattle.std.specs.Prelude.{nat_lt, unwrap_or}
use Rattle.ksi_calendar.specs.Covered.{first_missing}
use Rattle.ksi_journal.specs.Journal.{Contents, root_at}
use Rattle.ksi_top.specs.declared.report.Report.{Report}
use Rattle.ksi_top.specs.Kept.{unkept}
use Rattle.ksi_top.proofs.Ends.{IsEnd}

-- a reason is a refusal
pub unkept_ends : (saves : ℕ) (journal : Contents) (p last : ℕ) (next : Report) → IsEnd saves next → IsEnd saves (unwrap_or (unkept journal p last) next)
unkept_ends saves journal p last next end = by (nat_lt p journal.start) (first_missing (root_at journal) journal.start last) refl refl
  where
    by : (early : Bool) (missing : Option ℕ) → nat_lt p journal.start ≡ early → first_missing (root_at journal) journal.start last ≡ missing → IsEnd saves (unwrap_or (unkept journal p last) next)
    by true missing is same = rw is (record { judged = refl; few = omega arith })
    by false (Some second) is same = rw (is, same) (record { judged = refl; few = omega arith })
    by false None is same = rw (is, same) end
