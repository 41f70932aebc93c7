use Rattle.std.proofs.Common.{[], List, ◌∙◌, ap, arith}
use Rattle.ksi_disk.specs.declared.marks.Mark.{Mark}
use Rattle.ksi_disk.specs.declared.marks.Mark.TheVariants.{Synced}
use Rattle.ksi_disk.specs.Deeds.{deeds_onto, pieces_length}
use Rattle.ksi_disk.proofs.DeedLemmas.{deeds_more, pieces_length-more}
use Rattle.ksi_disk.proofs.marks.note_sync.Goals as goal

pub returns-clause-deeds : goal.returns-clause-deeds
returns-clause-deeds c = ap (λ (marks : List Mark). deeds_onto [] marks c.args._pieces.now.items) c.push_reserved.ensures.items ∙ deeds_more [] c.args.marks.now.items Synced c.args._pieces.now.items

pub returns-clause-whole : goal.returns-clause-whole
returns-clause-whole c = omega (arith, ap pieces_length c.push_reserved.ensures.items, pieces_length-more c.args.marks.now.items Synced, c.requires.whole)
