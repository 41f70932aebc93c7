use Rattle.std.proofs.Common.{refl, sym, ap, ◌∙◌, arith}
use Rattle.ksi_tlv.specs.Views.{view_placed}
use Rattle.ksi_tlv.specs.Walking.{Items}
use Rattle.ksi_tlv.specs.Inside.{whole}
use Rattle.ksi_signature.specs.Tables.{chain_table}
use Rattle.ksi_signature.specs.Heads.{head_behind}
use Rattle.ksi_signature.specs.HeadViews.{view_head}
use Rattle.ksi_signature.proofs.Heading.{few_elements, head_is}
use Rattle.ksi_signature.proofs.walking.head_in.Goals as goal

pub loop-item-init : goal.loop-item-init
loop-item-init c =
    let at = c.args.at.now in
    let w = c.inside_is_whole.ensures chain_table at.place at.inside at.element.body.now refl c.requires in
    let few = few_elements at.inside at.element.body.now in
    rw c.at-elements.ensures.exact (refl, w.each, omega (arith, few))

pub returns : goal.returns
returns c =
    ap (λ (items : Items). head_behind (view_head c.loop-item.head) (whole items)) (sym c.in_default.ensures.steps.0) ∙ c.loop-item.invariant.0
    ∙ head_is c.inside_is_whole.ensures (view_placed c.args.at.now) c.requires
