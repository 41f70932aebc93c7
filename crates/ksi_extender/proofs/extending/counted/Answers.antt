use Rattle.ksi_signature.specs.Seen.{seen, bytes_seen}
use Rattle.ksi_extender.proofs.Told.{accepted_answer}
use Rattle.ksi_extender.proofs.extending.counted.Goals as goal

pub returns-clause-accepted : goal.returns-clause-accepted
returns-clause-accepted g c =
    let bytes = bytes_seen c.args.signature.now in
    let whole = c.shown_is_of_bytes.ensures in
    accepted_answer g.C.Compress.image c.args.journal.now bytes c.args.p (seen c.args.signature.now) c.extended_bytes.result
    (λ text e. c.extended_is_accepted.ensures.accepted g.C.Compress.image c.args.journal.now bytes text (seen c.args.signature.now) c.args.p whole.bytes whole.signature e)
    whole.signature c.extended_bytes.ensures.answer c.extended_bytes.ensures.again
