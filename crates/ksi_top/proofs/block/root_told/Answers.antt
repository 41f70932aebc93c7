use Rattle.std.proofs.Common.{rules}
use Rattle.ksi_imprint.specs.Imprints.{imprint_of}
use Rattle.ksi_top.proofs.block.root_told.Goals as goal

pub returns-clause-means : goal.returns-clause-means
returns-clause-means c = record {
  reported = search rules;
  shows = λ line proof has leads. c.leading_proof_shows.ensures imprint_of c.args.block.now line proof c.hashes_are_bytes.ensures.imprints c.requires has leads;
}
