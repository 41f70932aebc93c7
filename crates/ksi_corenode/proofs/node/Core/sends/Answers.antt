use Rattle.std.proofs.Common.{◌≡◌, ◌∙◌, arith}
use Rattle.ksi_calendar.specs.Calendar.{calendar_path}
use Rattle.ksi_calendar.specs.Covered.{covered_seconds}
use Rattle.ksi_corenode.specs.CoreState.{held_by}
use Rattle.ksi_corenode.proofs.Kept.{kept_leaves}
use Rattle.ksi_corenode.proofs.node.Core.sends.Goals as goal

pub returns : goal.returns
returns g c =
    let image = g.C.Compress.image in
    let now = c.args.self.now in
    let second = c.args.second in
    let calendar = c.args.calendar.now in
    let all = covered_seconds (held_by now) now.start second in
    let path : c.in_ok-links.links ≡ calendar_path image all second second =
    c.in_ok-links.ensures.links
    ∙ c.one_covered.ensures.path image calendar (held_by now) now.start second second
    (kept_leaves (held_by now) now.start calendar c.requires.kept second (omega (arith, c.requires.covered, c.requires.kept.begins))) in
    c.in_ok-sends.ensures all second path
