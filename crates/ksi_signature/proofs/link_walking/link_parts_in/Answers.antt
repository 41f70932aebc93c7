use Rattle.std.proofs.Common.{sym, ap, ◌∙◌}
use Rattle.ksi_tlv.specs.Views.{view_placed}
use Rattle.ksi_tlv.specs.Walking.{Items}
use Rattle.ksi_tlv.specs.Inside.{whole}
use Rattle.ksi_signature.specs.LinkParts.{parts_behind, view_parts}
use Rattle.ksi_signature.proofs.Linking.{parts_are}
use Rattle.ksi_signature.proofs.link_walking.link_parts_in.Goals as goal

pub returns : goal.returns
returns c =
    ap (λ (items : Items). parts_behind (view_parts c.loop-item.parts) (whole items)) (sym c.in_default.ensures.steps.0) ∙ c.loop-item.invariant.0
    ∙ parts_are c.inside_is_whole.ensures (view_placed c.args.at.now) c.requires
