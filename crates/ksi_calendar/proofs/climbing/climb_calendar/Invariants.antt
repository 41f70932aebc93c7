use Rattle.std.proofs.Common.{◌≡◌, drop}
use Rattle.ksi_split.specs.Trees.{climb_links}
use Rattle.ksi_calendar.specs.Climbing.{calendar_join}
use Rattle.ksi_calendar.proofs.climbing.climb_calendar.Given as goal

abbrev pub invariant-loop-link : goal.invariant-loop-link
invariant-loop-link g l =
    climb_links (calendar_join g.C.Compress.image) l.imprint (drop l.link-index l.links) ≡ climb_links (calendar_join g.C.Compress.image) l.fn.start l.links
