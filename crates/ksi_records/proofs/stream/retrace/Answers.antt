use Rattle.ksi_records.proofs.HistoryLemmas.{found_history}
use Rattle.ksi_records.proofs.VerdictLemmas.{only_verdict}
use Rattle.ksi_records.proofs.stream.retrace.Goals as goal

pub returns-clause-only : goal.returns-clause-only
returns-clause-only g c =
    only_verdict g.C.Compress.image c.args.plan.now c.by_version.result (g.S.Read.remaining c.args.log.now) (g.W.Write.contents c.args.out.now) (g.W.Write.contents c.by_version.new.out) c.by_version.ensures

pub returns-clause-history : goal.returns-clause-history
returns-clause-history g c =
    found_history g.C.Compress.image c.args.plan.now c.by_version.result (g.S.Read.remaining c.args.log.now) (g.W.Write.contents c.args.out.now) (g.W.Write.contents c.by_version.new.out)
    c.core_plan.ensures.limits c.by_version.ensures
