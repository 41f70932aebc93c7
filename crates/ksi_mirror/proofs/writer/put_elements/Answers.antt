use Rattle.ksi_mirror.proofs.Texts.{parts_told}
use Rattle.ksi_mirror.proofs.writer.put_elements.Goals as goal

pub returns : goal.returns
returns c =
    parts_told c.args.mirror.now c.start.result c.roots.result.now c.lists.result.now
    c.args.writer.now c.put_number.new.self c.put_roots.new.writer c.put_lists.new.writer c.put_short.new.writer
    c.start.ensures.start c.roots.ensures.roots c.lists.ensures.lists
    c.in_ok-put_number.ensures.ok c.in_ok-put_roots.ensures c.in_ok-put_lists.ensures c.in_ok-put_short.ensures.ok
