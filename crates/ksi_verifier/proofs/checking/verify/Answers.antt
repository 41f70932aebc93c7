use Rattle.ksi_verifier.proofs.checking.verify.Goals as goal

pub returns-clause-accepted : goal.returns-clause-accepted
returns-clause-accepted g c = λ t. rw c.verdict.ensures (c.accepted.ensures g.C.Compress.image c.args.signature.now c.args.hash.now c.args.publications.now t)
