use Rattle.std.proofs.Common.{◌<◌, ◌∷◌, [], List, length, sym, ap, subst, ◌∙◌, arith}
use Rattle.ksi_tlv.specs.Views.{view_placed, view_item, rest}
use Rattle.ksi_tlv.specs.Walking.{Items}
use Rattle.ksi_tlv.specs.Inside.{whole, inner_elements}
use Rattle.ksi_signature.specs.Values.{Aggregation}
use Rattle.ksi_signature.specs.Contents.{chains_behind}
use Rattle.ksi_signature.proofs.Limits.{are_chains, room}
use Rattle.ksi_signature.proofs.gathering.chains_in.Goals as goal

pub unreachable-requires : goal.unreachable-requires
unreachable-requires c =
    let none = ap (λ (items : Items). chains_behind [] (whole items)) (sym c.at-elements.ensures.exact) ∙ c.in_default.ensures.chain in
    let some : 0 < 0 = subst (λ (chains : List Aggregation). 0 < length chains) none (are_chains c.inside_is_whole.ensures (view_placed c.args.at.now) c.requires).some in
    omega (arith, some)

pub put-requires : goal.put-requires
put-requires c =
    let split = c.in-Some-next.ensures.steps ∙ ap (λ item. view_item item ∷ rest c.next.new.self) c.in-Ok.is in
    room c.loop-item.chains (chains_behind [] (inner_elements (view_placed c.args.at.now))) (view_placed c.in-Ok.part) (whole (rest c.next.new.self)) c.if-part-eq-CHAIN.true
    (ap (λ (items : Items). chains_behind c.loop-item.chains (whole items)) (sym split) ∙ c.loop-item.invariant.0)
    (are_chains c.inside_is_whole.ensures (view_placed c.args.at.now) c.requires).count
