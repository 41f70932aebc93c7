use Rattle.std.proofs.Common.{◌+◌, List, ◌++◌, ◌∷◌, [], length, ap, ◌∙◌, arith, ℕ, ◌*◌, ◌^◌}
use Rattle.ksi_split.specs.declared.side.Side.{Side}
use Rattle.ksi_split.specs.Ways.{way_of}
use Rattle.ksi_beside.proofs.Bits.{way_length, next_fits, next_way}
use Rattle.ksi_beside.proofs.place.Place.below.Goals as goal

pub invariant_of-result : goal.invariant_of-result
invariant_of-result c =
    let w = c.one_way.ensures in
    let bit = c.bit_of.ensures in
    let depth = way_length c.one_split.ensures.split w.one_leaf w.left w.right c.self.inside.depth c.self.inside.bits c.self.invariant.0 in
    let length_is = ap length c.self.view_is in
    let room = c.requires in
    let fits = next_fits c.one_split.ensures.split w.one_leaf w.left w.right c.self.inside.depth c.self.inside.bits c.args.side c.self.invariant.0 in
    (rw bit fits, omega (arith, depth, length_is, room))

pub returns : goal.returns
returns c =
    let w = c.one_way.ensures in
    let bit = c.bit_of.ensures in
    let is = next_way c.one_split.ensures.split w.one_leaf w.left w.right c.self.inside.depth c.self.inside.bits c.args.side c.self.invariant.0 in
    ap (λ (b : ℕ). way_of (2 * c.self.inside.bits + b) (2 ^ (c.self.inside.depth + 1))) bit ∙ is ∙ ap (λ (x : List Side). x ++ c.args.side ∷ []) c.self.view_is
