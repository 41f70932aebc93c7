use Rattle.std.proofs.Common.{◌∙◌}
use Rattle.ksi_records.proofs.ReportLemmas.{reported}
use Rattle.ksi_records.proofs.reporting.report.Goals as goal

pub returns : goal.returns
returns g c =
    reported g.C.Compress.image c.args.plan.now (g.S.Read.remaining c.args.log.now) (g.W.Write.contents c.args.out.now) (g.W.Write.contents c.retrace.new.out) (g.W.Write.contents c.write_all.new.self)
    c.in_ok-verdict.verdict c.deref.result.now c.status_of-status.result c.in_ok-verdict.ensures.verdict c.in_ok-write_all.ensures.bytes (c.deref.ensures.value ∙ c.in_ok-text.ensures) c.status_of-status.ensures
