use Rattle.std.proofs.lemmas.List.Elements.{All-from_get_or}
use Rattle.std.proofs.Common.{◌<◌, arith, sym, ap}
use Rattle.ksi_publications.specs.Reading.{publications_at}
use Rattle.ksi_verifier.specs.Files.{files_verdict}
use Rattle.ksi_verifier.proofs.files_checking.verdict_of_files.Goals as goal

pub returns-in-Err : goal.returns-in-Err
returns-in-Err g c =
    ap (λ (r : _). files_verdict g.C.Compress.image r (publications_at c.args.publications.now) c.args.hash.now)
    (sym ((c.signature_is_read.ensures.fault c.args.signature.now c.in-Err.fault (All-from_get_or (λ b. b < 256) c.args.signature.now 0 (λ i lt. omega (arith, c.type_inv.signature i)))).1 ((c.view.ensures.fault c.in-Err.fault).0 c.in-Err.is)))
