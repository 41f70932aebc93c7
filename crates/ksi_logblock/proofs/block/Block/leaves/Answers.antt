use Rattle.std.proofs.Common.{length, map, ap, ◌∙◌, arith}
use Rattle.std.proofs.lemmas.List.{length-map}
use Rattle.ksi_imprint.specs.Imprints.{zero_imprint}
use Rattle.ksi_logblock.specs.Blocks.{Masked, leaves_of}
use Rattle.ksi_logblock.proofs.Leaves.{leaves_count}
use Rattle.ksi_logblock.proofs.block.Block.leaves.Goals as goal

pub returns : goal.returns
returns g c =
    let image = g.C.Compress.image in
    let leaves = c.deref.ensures.value ∙ c.self.invariant.0 in
    let lines = ap (λ (b : Masked). length b.lines) c.self.view_is in
    let count = leaves_count image c.self.inside.seed zero_imprint (map (λ line. line.now) c.self.inside.lines.items) in
    let n = ap length leaves in
    record {
      leaves = leaves ∙ ap (leaves_of image) c.self.view_is;
      count = n ∙ count ∙ lines;
      few = omega (arith, n, count, length-map c.self.inside.lines.items (λ line. line.now), c.self.invariant.1);
    }
