use Rattle.std.proofs.Common.{subst}
use Rattle.ksi_logblock.specs.Shown.{HasClash}
use Rattle.ksi_logblock.proofs.Outcomes.{answer, apart_has, clash_is, err_has, err_told, lines_are, ok_goes_on}
use Rattle.ksi_logblock.proofs.locating.lay_beside.Goals as goal

pub returns-in_err-walk-clause-memory : goal.returns-in_err-walk-clause-memory
returns-in_err-walk-clause-memory g c =
    err_told c.from_residual.result (HasClash (answer g.C.Compress.image c.args.block.now c.args.line.now c.args.proof.now c.args.named))
    (apart_has g.C.Compress.image c.args.block.now c.args.line.now c.args.proof.now c.args.named c.in_err-walk.ensures.memory)

pub returns-in-Some-clause-answer : goal.returns-in-Some-clause-answer
returns-in-Some-clause-answer g c =
    clash_is g.C.Compress.image c.args.block.now c.args.line.now c.args.proof.now c.args.named c.in_ok-walk.walk c.clash.result c.in-Some.clash c.in_ok-walk.ensures.walk c.clash.ensures.clash c.in-Some.is

pub returns-in-None-clause-answer : goal.returns-in-None-clause-answer
returns-in-None-clause-answer g c =
    ok_goes_on c.compare_lines.result _ _ c.compare_lines.ensures.answer
    (lines_are g.C.Compress.image c.args.block.now c.args.line.now c.args.proof.now c.args.named c.in_ok-walk.walk c.clash.result c.in_ok-walk.ensures.walk c.clash.ensures.clash c.in-None.is)

pub returns-in-None-clause-memory : goal.returns-in-None-clause-memory
returns-in-None-clause-memory g c =
    err_has c.compare_lines.result c.compare_lines.ensures.memory
    (λ h. subst HasClash (lines_are g.C.Compress.image c.args.block.now c.args.line.now c.args.proof.now c.args.named c.in_ok-walk.walk c.clash.result c.in_ok-walk.ensures.walk c.clash.ensures.clash c.in-None.is) h)
