use Rattle.ksi_calendar.proofs.CalendarLemmas.{climbs_from, loop_ends}
use Rattle.ksi_split.specs.Trees.{climb_links}
use Rattle.ksi_calendar.specs.Climbing.{calendar_join}
use Rattle.ksi_calendar.proofs.climbing.climb_calendar.Goals as goal

pub returns-clause-climbs : goal.returns-clause-climbs
returns-clause-climbs g c =
    let image = g.C.Compress.image in
    let links = c.args.links.now in
    climbs_from image c.args.start links c.loop-link.imprint
    (loop_ends image c.loop-link.link-index c.loop-link.imprint links (climb_links (calendar_join image) c.args.start links) c.loop-link-test.false c.loop-link.invariant)
