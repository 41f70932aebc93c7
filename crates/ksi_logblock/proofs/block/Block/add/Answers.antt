use Rattle.std.proofs.Common.{◌≡◌, ℕ, length, map, ap, sym, ◌∙◌, arith, ◌∷◌, ◌++◌, [], List, length-append}
use Rattle.std.proofs.lemmas.List.{length-map, map-append}
use Rattle.ksi_imprint.specs.Imprints.{zero_imprint}
use Rattle.ksi_logblock.specs.Blocks.{Masked, leaves_behind, mask_among}
use Rattle.ksi_logblock.proofs.Leaves.{more_leaves}
use Rattle.ksi_logblock.proofs.block.Block.add.Goals as goal

pub invariant_of-self-2 : goal.invariant_of-self-2
invariant_of-self-2 g c =
    let image = g.C.Compress.image in
    let seed = c.self.inside.seed in
    let before = c.self.inside.lines.items in
    let lines = c.push_reserved.ensures.items ∙ ap (λ items. items ++ c.args.line ∷ []) c.reserve.ensures.items in
    let mapped = ap (map (λ line. line.now)) lines ∙ map-append (λ line. line.now) before (c.args.line ∷ []) in
    let now = c.reserve-2.new.self.items in
    let mask : c.mask_of-mask.result ≡ mask_among image seed now (length now) = c.mask_of-mask.ensures ∙ ap (λ (l : List (List ℕ)). mask_among image seed l c.len.result) c.deref.ensures.value ∙ ap (λ (k : ℕ). mask_among image seed now k) (c.len.ensures ∙ sym c.deref.ensures.len ∙ ap length c.deref.ensures.value) in (
      c.push_reserved-2.ensures.items ∙ ap (λ (leaf : List ℕ). now ++ leaf ∷ []) c.leaf_of.ensures
          ∙ more_leaves image seed (map (λ line. line.now) before) c.args.line.now now c.mask_of-mask.result (c.reserve-2.ensures.items ∙ c.self.invariant.0) mask
          ∙ ap (leaves_behind image seed zero_imprint) (sym mapped),
      (let n = ap length lines in let view = ap (λ (block : Masked). length block.lines) c.self.view_is in omega (arith, n, length-append before (c.args.line ∷ []), length-map before (λ line. line.now), view, c.requires)),
    )
