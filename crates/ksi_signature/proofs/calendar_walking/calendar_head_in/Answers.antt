use Rattle.std.proofs.Common.{sym, ap, subst, ◌∙◌}
use Rattle.ksi_tlv.specs.Views.{view_placed}
use Rattle.ksi_tlv.specs.Walking.{Items}
use Rattle.ksi_tlv.specs.Inside.{whole}
use Rattle.ksi_signature.specs.Contents.{calendar_in}
use Rattle.ksi_signature.specs.Heads.{CalendarHead, SaysCalendar, calendar_behind}
use Rattle.ksi_signature.specs.HeadViews.{view_calendar_head}
use Rattle.ksi_signature.proofs.Heading.{calendar_head_is}
use Rattle.ksi_signature.proofs.calendar_walking.calendar_head_in.Goals as goal

pub returns : goal.returns
returns c =
    let all = ap (λ (items : Items). calendar_behind (view_calendar_head c.loop-item.head) (whole items)) (sym c.in_default.ensures.steps.0) ∙ c.loop-item.invariant.0 in
    subst (λ (head : CalendarHead). SaysCalendar head (calendar_in (view_placed c.args.at.now))) (sym all) (calendar_head_is c.inside_is_whole.ensures (view_placed c.args.at.now) c.requires)
