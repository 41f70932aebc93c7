use Rattle.ksi_auditor.proofs.Parts.{deep_calendar, deep_items}
use Rattle.ksi_auditor.proofs.deep.deep_places.Goals as goal

pub returns-clause-calendar : goal.returns-clause-calendar
returns-clause-calendar c = deep_calendar c.parts.ensures.leaves c.short_ways.ensures

pub returns-clause-items : goal.returns-clause-items
returns-clause-items c = deep_items c.parts.ensures.leaves c.short_ways.ensures c.one_text.ensures.only
