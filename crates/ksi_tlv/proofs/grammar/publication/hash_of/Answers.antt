use Rattle.ksi_tlv.specs.Views.{view_placed}
use Rattle.ksi_tlv.proofs.Publishing.{hash_stands}
use Rattle.ksi_tlv.proofs.grammar.publication.hash_of.Goals as goal

pub returns-in-Err : goal.returns-in-Err
returns-in-Err c = absurd (hash_stands (view_placed c.args.part.now) c.imprint.result c.in-Err.field-0 c.requires.may_stand c.requires.kind c.imprint.ensures c.in-Err.is)
