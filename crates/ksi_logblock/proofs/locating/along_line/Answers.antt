use Rattle.std.proofs.Common.{subst}
use Rattle.ksi_beside.specs.Beside.{IsApart}
use Rattle.ksi_logblock.proofs.Outcomes.{err_has, err_told, laid_all, line_apart, line_laid, ok_goes_on, short_links}
use Rattle.ksi_logblock.proofs.locating.along_line.Goals as goal

pub along_links-requires-clause-sizes : goal.along_links-requires-clause-sizes
along_links-requires-clause-sizes g c = short_links _ c.have_imprints.ensures

pub returns-in_err-walk-clause-memory : goal.returns-in_err-walk-clause-memory
returns-in_err-walk-clause-memory g c =
    let together = c.one_after_another.ensures.together in
    err_told c.from_residual.result (IsApart (laid_all together g.C.Compress.image c.args.block.now c.args.line.now c.args.proof.now))
    (line_apart together g.C.Compress.image c.args.block.now c.args.line.now c.args.proof.now c.top.result c.leaf_of.result c.as_slice-links.result.now c.top.ensures c.leaf_of.ensures c.as_slice-links.ensures.links c.in_err-walk.ensures.memory)

pub returns-clause-walk : goal.returns-clause-walk
returns-clause-walk g c =
    ok_goes_on c.along_links-2.result _ _ c.along_links-2.ensures.walk
    (line_laid c.one_after_another.ensures.together g.C.Compress.image c.args.block.now c.args.line.now c.args.proof.now c.top.result c.leaf_of.result c.as_slice-links.result.now c.top.ensures c.leaf_of.ensures c.as_slice-links.ensures.links c.in_ok-walk.walk c.of-hash.result c.of-hash.ensures c.in_ok-walk.ensures.walk)

pub returns-clause-memory : goal.returns-clause-memory
returns-clause-memory g c =
    let together = c.one_after_another.ensures.together in
    err_has c.along_links-2.result c.along_links-2.ensures.memory
    (λ h. subst IsApart (line_laid together g.C.Compress.image c.args.block.now c.args.line.now c.args.proof.now c.top.result c.leaf_of.result c.as_slice-links.result.now c.top.ensures c.leaf_of.ensures c.as_slice-links.ensures.links c.in_ok-walk.walk c.of-hash.result c.of-hash.ensures c.in_ok-walk.ensures.walk) h)
