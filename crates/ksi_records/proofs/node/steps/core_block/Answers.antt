use Rattle.std.proofs.Common.{◌∙◌, ℕ, ap}
use Rattle.ksi_wire.specs.Steps.{core_step_text}
use Rattle.ksi_records.proofs.node.steps.core_block.Goals as goal

pub returns : goal.returns
returns g c = (c.in_ok-step.step, c.in_ok-step.ensures.turn, c.in_ok-text.ensures ∙ ap (λ (second : ℕ). core_step_text c.args.me second c.in_ok-step.step) c.core_second-second.ensures)
