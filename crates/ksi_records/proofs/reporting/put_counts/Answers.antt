use Rattle.std.proofs.Common.{codes}
use Rattle.std.specs.Fmt.{decimal}
use Rattle.ksi_schedule.specs.Printed.{spaced}
use Rattle.ksi_records.specs.Reports.{version_words}
use Rattle.ksi_records.proofs.ReportLemmas.{seven}
use Rattle.ksi_records.proofs.reporting.put_counts.Goals as goal

pub returns : goal.returns
returns c =
    seven c.put_version.result c.args.text.now.items c.extend_from_slice.new.self.items c.put_number.new.text.items c.extend_from_slice-2.new.self.items c.put_number-2.new.text.items
    c.extend_from_slice-3.new.self.items c.put_number-3.new.text.items c.put_version.new.text.items (codes "agrees ") (decimal c.args.counts.steps) (codes " unsaid ") (decimal c.args.counts.unsaid)
    (codes " signatures ") (decimal c.args.counts.signatures) (spaced (version_words c.args.counts.version)) c.in_ok-extend_from_slice.ensures.items c.in_ok-put_number.ensures
    c.in_ok-extend_from_slice-2.ensures.items c.in_ok-put_number-2.ensures c.in_ok-extend_from_slice-3.ensures.items c.in_ok-put_number-3.ensures c.put_version.ensures
