use Rattle.ksi_records.proofs.TextLemmas.{line_is_cut}
use Rattle.ksi_records.proofs.blocks.lines.next_line.Goals as goal

pub returns-else-last-eq10 : goal.returns-else-last-eq10
returns-else-last-eq10 g c =
    line_is_cut (g.S.Read.remaining c.args.log.now) c.clear.new.self.items c.read_until.new.buf.items c.clear.ensures.items c.in_ok-read_until.ensures.bytes
    c.in_ok-read_until.ensures.stops c.pop.new.self.items c.in-Some.last c.in-Some.ensures.items c.if-last-eq10.false
