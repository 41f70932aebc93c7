use Rattle.ksi_records.proofs.NodeLogLemmas.{agreeing_log}
use Rattle.ksi_records.proofs.NodeVerdictLemmas.{only_verdict}
use Rattle.ksi_records.proofs.node.stream.retrace.Goals as goal

pub returns-clause-only : goal.returns-clause-only
returns-clause-only g c = only_verdict g.C.Compress.image c.args.plan.now c.args.me c.verdict_on.result (g.S.Read.remaining c.args.log.now) c.verdict_on.ensures

pub returns-clause-log : goal.returns-clause-log
returns-clause-log g c = agreeing_log g.C.Compress.image c.args.plan.now c.args.me c.verdict_on.result (g.S.Read.remaining c.args.log.now) c.verdict_on.ensures
