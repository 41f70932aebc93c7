use Rattle.std.proofs.lemmas.List.Elements.{All-from_get_or}
use Rattle.std.proofs.Common.{◌<◌, arith}
use Rattle.ksi_signature.specs.Reading.{signature_at}
use Rattle.ksi_publications.specs.Reading.{publications_at}
use Rattle.ksi_verifier.proofs.Verified.{verified}
use Rattle.ksi_verifier.proofs.files_checking.verify_files.Goals as goal

pub returns-clause-accepted : goal.returns-clause-accepted
returns-clause-accepted g c = λ proved.
    let bytes = All-from_get_or (λ b. b < 256) c.args.signature.now 0 (λ i lt. omega (arith, c.type_inv.signature i)) in
    rw c.verdict_of_files.ensures
    (verified g.C.Compress.image c.args.signature.now c.args.hash.now c.args.publications.now proved (signature_at c.args.signature.now) (publications_at c.args.publications.now)
    (λ s. c.signature_is_read.ensures.signature c.args.signature.now s bytes)
    (λ ps. c.publications_are_read.ensures.pairs c.args.publications.now ps)
    (λ s ps. c.proved.ensures g.C.Compress.image s c.args.hash.now ps proved))
