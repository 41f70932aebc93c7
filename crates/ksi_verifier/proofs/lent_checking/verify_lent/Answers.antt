use Rattle.ksi_signature.specs.Seen.{seen}
use Rattle.ksi_verifier.proofs.lent_checking.verify_lent.Goals as goal

pub returns-clause-accepted : goal.returns-clause-accepted
returns-clause-accepted g c = λ t. rw c.lent_verdict.ensures (c.accepted.ensures g.C.Compress.image (seen c.args.signature.now) c.args.hash.now (g.P.Published.pairs c.args.publications.now) t)
