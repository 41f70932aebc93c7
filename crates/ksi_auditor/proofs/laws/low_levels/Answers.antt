use Rattle.ksi_auditor.proofs.Showing.{low}
use Rattle.ksi_auditor.proofs.laws.low_levels.Goals as goal

pub returns : goal.returns
returns c = low c.one_climb.ensures.climbs c.joined.ensures.links
