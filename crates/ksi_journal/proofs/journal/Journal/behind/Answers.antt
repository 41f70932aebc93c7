use Rattle.std.proofs.Common.{length, ap, arith}
use Rattle.ksi_calendar.specs.Calendar.{Seconds}
use Rattle.ksi_journal.proofs.Run.{early_words}
use Rattle.ksi_journal.proofs.journal.Journal.behind.Goals as goal

pub overflow_add-behind : goal.overflow_add-behind
overflow_add-behind g c =
    let count = c.count.ensures in
    let early = early_words g.C.Compress.image _ c.self.invariant.0 in
    let same = ap (λ (s : Seconds). length s.roots) c.self.invariant.1 in
    omega (arith, early, same, count)
