use Rattle.std.proofs.Common.{ap, sym, ◌∙◌, List, ℕ, refl}
use Rattle.ksi_split.specs.Trees.{climb_links}
use Rattle.ksi_calendar.specs.Climbing.{calendar_join}
use Rattle.ksi_calendar.proofs.CalendarLemmas.{climbs_from, climbs_to, climb_both}
use Rattle.ksi_calendar.proofs.laws.one_after_another.Goals as goal

pub returns-clause-together : goal.returns-clause-together
returns-clause-together c = λ image start middle top links more h k.
    climbs_from image start _ top (climbs_to image middle more top k
    ∙ ap (λ (x : List ℕ). climb_links (calendar_join image) x more) (climbs_to image start links middle h) ∙ sym (climb_both image start links more))

pub returns-clause-apart : goal.returns-clause-apart
returns-clause-apart c = λ image start top links more h.
    let middle = climb_links (calendar_join image) start links in
    (middle, climbs_from image start links middle refl, climbs_from image middle more top (climbs_to image start _ top h ∙ climb_both image start links more))

pub returns-clause-value : goal.returns-clause-value
returns-clause-value c = climb_both
