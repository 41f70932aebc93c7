use Rattle.std.proofs.Common.{rules, ◌++◌, ap, sym, ◌∙◌}
use Rattle.ksi_logblock.proofs.LogLines.{makes_block}
use Rattle.ksi_logblock.specs.Logs.{lines_of}
use Rattle.ksi_logblock.proofs.LogRefusals.{not_added}
use Rattle.ksi_logblock.proofs.logs.block_of.Goals as goal

pub returns-clause-taken : goal.returns-clause-taken
returns-clause-taken g c = λ e.
    makes_block c.args.log.now c.lines.rest.now c.lines.block.lines c.lines.invariant.lines (search rules) (search rules) c.count-few.ensures.few c.lines.invariant.short

pub returns-in-Err-clause-refused : goal.returns-in-Err-clause-refused
returns-in-Err-clause-refused g c =
    not_added (lines_of c.args.log.now) c.lines.block.lines (lines_of c.first_line.result.1.now) c.first_line.result.0.now c.in-Err.refused
    (ap (λ ls. c.lines.block.lines ++ ls) (sym c.first_line.ensures.lines) ∙ c.lines.invariant.lines) c.lines.invariant.short c.in-Err.ensures.refused
