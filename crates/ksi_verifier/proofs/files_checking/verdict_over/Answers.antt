use Rattle.std.proofs.Common.{sym, ap}
use Rattle.ksi_signature.specs.Seen.{seen}
use Rattle.ksi_verifier.specs.Files.{over_publications}
use Rattle.ksi_verifier.proofs.files_checking.verdict_over.Goals as goal

pub returns-in-Err : goal.returns-in-Err
returns-in-Err g c =
    ap (λ (r : _). over_publications g.C.Compress.image (seen c.args.signature.now) r c.args.hash.now)
    (sym ((c.publications_are_read.ensures.fault c.args.publications.now c.in-Err.fault).1 ((c.of.ensures.fault c.in-Err.fault).0 c.in-Err.is)))
