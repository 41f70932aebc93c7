use Rattle.std.proofs.Common.{sym, subst, ◌∙◌}
use Rattle.ksi_logblock.specs.Shown.{HasClash}
use Rattle.ksi_logblock.proofs.Outcomes.{err_has, ok_goes_on}
use Rattle.ksi_logblock.proofs.Answering.{kept_is, same_located, other_located}
use Rattle.ksi_logblock.proofs.locating.answer.Goals as goal

pub returns-then-eq-clause-answer : goal.returns-then-eq-clause-answer
returns-then-eq-clause-answer g c =
    ok_goes_on c.compare.result _ _ c.compare.ensures.answer
    (same_located g.C.Compress.image c.args.block.now c.args.line.now c.args.proof.now c.in-Ok.root c.tree-kept.result.imprint (sym c.root_of.ensures ∙ c.in-Ok.is)
    (kept_is g.C.Compress.image c.args.block.now c.count.result c.tree-kept.result c.count.ensures.count c.tree-kept.ensures.tree) (sym c.if-eq.ensures))

pub returns-then-eq-clause-memory : goal.returns-then-eq-clause-memory
returns-then-eq-clause-memory g c =
    err_has c.compare.result c.compare.ensures.memory
    (λ h. subst HasClash (same_located g.C.Compress.image c.args.block.now c.args.line.now c.args.proof.now c.in-Ok.root c.tree-kept.result.imprint (sym c.root_of.ensures ∙ c.in-Ok.is)
    (kept_is g.C.Compress.image c.args.block.now c.count.result c.tree-kept.result c.count.ensures.count c.tree-kept.ensures.tree) (sym c.if-eq.ensures)) h)

pub returns-else-eq-clause-answer : goal.returns-else-eq-clause-answer
returns-else-eq-clause-answer g c =
    other_located g.C.Compress.image c.args.block.now c.args.line.now c.args.proof.now c.in-Ok.root c.tree-kept.result.imprint (sym c.root_of.ensures ∙ c.in-Ok.is)
    (kept_is g.C.Compress.image c.args.block.now c.count.result c.tree-kept.result c.count.ensures.count c.tree-kept.ensures.tree) (sym c.if-eq.ensures)
