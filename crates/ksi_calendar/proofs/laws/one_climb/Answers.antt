use Rattle.ksi_calendar.proofs.CalendarLemmas.{climbs_from, climbs_to, link_leads}
use Rattle.ksi_calendar.proofs.laws.one_climb.Goals as goal

pub returns-clause-value : goal.returns-clause-value
returns-clause-value c = λ image start top links. (climbs_to image start links top, climbs_from image start links top)

pub returns-clause-strings : goal.returns-clause-strings
returns-clause-strings c = link_leads
