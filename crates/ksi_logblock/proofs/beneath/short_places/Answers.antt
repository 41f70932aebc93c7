use Rattle.ksi_logblock.proofs.Short.{text_short}
use Rattle.ksi_logblock.proofs.beneath.short_places.Goals as goal

pub returns : goal.returns
returns c = text_short c.parts.ensures.leaves c.short_ways.ensures
