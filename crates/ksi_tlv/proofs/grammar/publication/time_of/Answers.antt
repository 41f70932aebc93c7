use Rattle.ksi_tlv.specs.Views.{view_placed}
use Rattle.ksi_tlv.proofs.Publishing.{time_stands}
use Rattle.ksi_tlv.proofs.grammar.publication.time_of.Goals as goal

pub returns-in-Err : goal.returns-in-Err
returns-in-Err c = absurd (time_stands (view_placed c.args.part.now) c.time.result c.in-Err.field-0 c.requires.may_stand c.requires.kind c.time.ensures c.in-Err.is)
