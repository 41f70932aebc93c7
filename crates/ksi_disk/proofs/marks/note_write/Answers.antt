use Rattle.ksi_disk.proofs.DeedLemmas.{noted_write, noted_length}
use Rattle.ksi_disk.proofs.marks.note_write.Goals as goal

pub returns-clause-deeds : goal.returns-clause-deeds
returns-clause-deeds c = noted_write c.args.marks.now.items c.push_reserved.new.self.items c.args.pieces.now.items c.append.new.bytes.items c.args.piece.now c.args.at c.args.succeeded c.push_reserved.ensures.items c.append.ensures.items c.requires.whole

pub returns-clause-whole : goal.returns-clause-whole
returns-clause-whole c = noted_length c.args.marks.now.items c.push_reserved.new.self.items c.args.pieces.now.items c.append.new.bytes.items c.args.piece.now c.args.at c.args.succeeded c.push_reserved.ensures.items c.append.ensures.items c.requires.whole
