use Rattle.std.proofs.Common.{◌≡◌, ◌+◌, ◌-◌, ◌<◌, ℕ, take, drop, length, replicate, sym, ap, ◌∙◌, arith}
use Rattle.std.proofs.lemmas.List.{length-set, length-take-le, drop-set-lt, drop-drop, drop-replicate}
use Rattle.ksi_split.specs.declared.side.Side.TheVariants.{Left}
use Rattle.ksi_split.proofs.sides.Way.push.Goals as goal

pub invariant_of-self : goal.invariant_of-self
invariant_of-self c =
    let sides = c.self.inside.sides in
    let count = c.self.inside.count in
    let h = c.self.invariant in
    let is : length (take count sides) ≡ count = length-take-le count sides (omega (arith, h.few, h.room)) in
    let lt : count < 63 = omega (arith, ap length c.self.view_is, c.requires) in
    record {
      few = omega arith;
      room = length-set sides count c.args.side ∙ h.room;
      filled = drop-set-lt (count + 1) sides count c.args.side (omega arith) ∙ sym (drop-drop 1 count sides) ∙ ap (drop 1) h.filled
          ∙ drop-replicate 1 (63 - count) Left ∙ ap (λ (k : ℕ). replicate k Left) (let e : 63 - count - 1 ≡ 63 - (count + 1) = omega arith in e);
    }
