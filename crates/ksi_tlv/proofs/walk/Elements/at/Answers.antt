use Rattle.ksi_tlv.proofs.ReadingLaws.{walk_reads}
use Rattle.std.proofs.Common.{arith, ◌<◌}
use Rattle.std.proofs.lemmas.List.Elements.{All-from_get_or}
use Rattle.ksi_tlv.proofs.walk.Elements.at.Goals as goal

pub returns-clause-reading : goal.returns-clause-reading
returns-clause-reading c = walk_reads c.args.place c.args.bytes.now (All-from_get_or (λ b. b < 256) c.args.bytes.now 0 (λ i lt. omega (arith, c.type_inv.bytes i)))
