use Rattle.std.proofs.Common.{◌≡◌}
use Rattle.ksi_split.specs.Trees.{climb_links}
use Rattle.ksi_calendar.specs.Climbing.{calendar_join}
use Rattle.ksi_tlv.specs.Views.{view_placed, rest}
use Rattle.ksi_tlv.specs.Inside.{whole, inner_elements}
use Rattle.ksi_signature.specs.Contents.{calendar_links_among}
use Rattle.ksi_signature.proofs.calendar_climbing.climb_calendar_in.Given as goal

abbrev pub invariant-loop-item : goal.invariant-loop-item
invariant-loop-item g l =
    climb_links (calendar_join g.C.Compress.image) l.top (calendar_links_among (whole (rest l.elements)))
    ≡ climb_links (calendar_join g.C.Compress.image) l.fn.start (calendar_links_among (inner_elements (view_placed l.at)))
