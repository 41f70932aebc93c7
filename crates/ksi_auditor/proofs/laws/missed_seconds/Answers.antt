use Rattle.std.proofs.Common.{sym, subst}
use Rattle.ksi_auditor.specs.Shown.{HasClash}
use Rattle.ksi_auditor.proofs.Cited.{Laws}
use Rattle.ksi_auditor.proofs.Missing.{missed_leaf}
use Rattle.ksi_auditor.proofs.Showing.{missed_shows}
use Rattle.ksi_auditor.proofs.laws.missed_seconds.Goals as goal

pub returns : goal.returns
returns c =
    let laws : Laws = record {
      parts = c.parts.ensures.leaves;
      split = c.one_split.ensures.split;
      second = c.one_answer.ensures.second;
      calendar_one = c.one_calendar.ensures.one_second;
      calendar_cut = c.one_calendar.ensures.cut;
      climbs = c.one_climb.ensures.climbs;
      calendar_climbs = c.one_climb-2.ensures.value;
      lead = c.joined.ensures.links;
      accepted = c.accepted.ensures;
      leaves = c.calendar_is_covered.ensures.leaves;
      covered = c.calendar_is_covered.ensures.covered;
      within = c.calendar_is_covered.ensures.within;
      root = c.calendar_is_covered.ensures.root;
      none = c.one_first_missing.ensures.none;
      clash = c.beside_a_tree.ensures.clash;
      beside = c.beside_a_tree.ensures.within;
    } in
    λ image journal signature hash publications lawful is_journal imprint t passes decided missed.
    let m = missed_shows laws image lawful journal is_journal signature hash publications imprint.size t passes decided (missed_leaf journal t missed) in
    subst HasClash (sym m.1) tt
