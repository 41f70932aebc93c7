use Rattle.ksi_auditor.proofs.Cited.{Laws, RoundLaws}
use Rattle.ksi_auditor.proofs.Over.{over_shows, over_missed}
use Rattle.ksi_auditor.proofs.laws.laid_shows.Goals as goal

pub returns-clause-shows : goal.returns-clause-shows
returns-clause-shows c =
    let laws : Laws = record {
      parts = c.parts.ensures.leaves;
      split = c.one_split.ensures.split;
      second = c.one_answer.ensures.second;
      calendar_one = c.one_calendar.ensures.one_second;
      calendar_cut = c.one_calendar.ensures.cut;
      climbs = c.one_climb.ensures.climbs;
      calendar_climbs = c.one_climb-2.ensures.value;
      lead = c.joined.ensures.links;
      accepted = c.accepted.ensures;
      leaves = c.calendar_is_covered.ensures.leaves;
      covered = c.calendar_is_covered.ensures.covered;
      within = c.calendar_is_covered.ensures.within;
      root = c.calendar_is_covered.ensures.root;
      none = c.one_first_missing.ensures.none;
      clash = c.beside_a_tree.ensures.clash;
      beside = c.beside_a_tree.ensures.within;
    } in
    let rounds : RoundLaws = record {
      only = c.parts.ensures.only;
      way = c.one_way.ensures.way;
      one_item = c.one_round.ensures.one_item;
      node = c.one_part.ensures.some;
      node_below = c.one_part.ensures.item;
      nodes = c.one_part.ensures.only;
      text = c.one_text.ensures.parts;
      named = c.one_text.ensures.named;
      unnamed = c.one_text.ensures.unnamed;
      texts = c.one_text.ensures.only;
      hashed = c.one_text.ensures.hashed;
      even = c.metas_are_even.ensures.even;
    } in
    λ image seconds items signature hash publications t lawful imprints imprint are passes leads kept.
    over_shows laws image lawful seconds imprints signature hash publications t imprint.size passes leads items kept rounds are

pub returns-clause-missed : goal.returns-clause-missed
returns-clause-missed c =
    let laws : Laws = record {
      parts = c.parts.ensures.leaves;
      split = c.one_split.ensures.split;
      second = c.one_answer.ensures.second;
      calendar_one = c.one_calendar.ensures.one_second;
      calendar_cut = c.one_calendar.ensures.cut;
      climbs = c.one_climb.ensures.climbs;
      calendar_climbs = c.one_climb-2.ensures.value;
      lead = c.joined.ensures.links;
      accepted = c.accepted.ensures;
      leaves = c.calendar_is_covered.ensures.leaves;
      covered = c.calendar_is_covered.ensures.covered;
      within = c.calendar_is_covered.ensures.within;
      root = c.calendar_is_covered.ensures.root;
      none = c.one_first_missing.ensures.none;
      clash = c.beside_a_tree.ensures.clash;
      beside = c.beside_a_tree.ensures.within;
    } in
    λ image seconds items signature hash publications t lawful imprints imprint passes leads missed.
    over_missed laws image lawful seconds imprints signature hash publications t imprint.size passes leads items missed
