use Rattle.std.proofs.Common.{◌∙◌, ◌++◌, ℕ, List, take, ap, arith}
use Rattle.ksi_c.proofs.Padding.{filled}
use Rattle.ksi_c.proofs.drawing.pad.Goals as goal

pub returns : goal.returns
returns c =
    ap (λ (front : List ℕ). front ++ c.split_at_mut-front.result.1.now) (c.copy_from_slice.ensures.after ∙ c.split_at.ensures.front)
    ∙ ap (λ (behind : List ℕ). take c.min-count.result c.args.bytes.now ++ behind) c.split_at_mut-front.ensures.back
    ∙ filled 4096 c.min-count.result c.args.bytes.now (omega (arith, c.min-count.ensures))
