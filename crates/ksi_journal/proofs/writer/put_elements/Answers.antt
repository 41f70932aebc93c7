use Rattle.ksi_journal.proofs.Texts.{parts_read}
use Rattle.ksi_journal.proofs.writer.put_elements.Goals as goal

pub returns-clause-text : goal.returns-clause-text
returns-clause-text g c =
    parts_read c.args.journal.now c.start.result c.voters.result.now c.seconds.result.now c.issued.result.now c.publications.result.now
    c.args.writer.now c.put_number.new.self c.put_all_voters.new.writer c.put_seconds.new.writer c.put_issued.new.writer c.put_publications.new.writer c.put_short.new.writer
    c.start.ensures.start c.voters.ensures c.seconds.ensures c.issued.ensures c.publications.ensures
    c.in_ok-put_number.ensures.ok c.in_ok-put_all_voters.ensures c.in_ok-put_seconds.ensures c.in_ok-put_issued.ensures c.in_ok-put_publications.ensures c.in_ok-put_short.ensures.ok
