-- The walk along a calendar chain, as the code has it.
use Rattle.std.proofs.Common.{◌≡◌, ℕ, List, [], Option, Some, None, sym, ap, ◌∙◌}
use Rattle.ksi_imprint.specs.declared.clash.Clash.{Clash}
use Rattle.ksi_aggtree.specs.declared.item.Item.{Item}
use Rattle.ksi_aggtree.specs.Links.{PlainLink}
use Rattle.ksi_beside.specs.Beside.{Rung, calendar_rungs_from, clash_in, differing, laid_from, IsApart}
use Rattle.ksi_beside.specs.declared.walk.Walk.{Walk}
use Rattle.ksi_calendar.specs.Calendar.{Seconds}
use Rattle.ksi_signature.specs.Values.{Calendar}
use Rattle.ksi_auditor.specs.Kept.{calendar_text}
use Rattle.ksi_auditor.specs.Audit.{calendar_pairs, compared, laid_over}
use Rattle.ksi_auditor.specs.Shown.{HasClash}
use Rattle.ksi_auditor.specs.declared.answer.Audit.TheVariants as answers
use Rattle.ksi_auditor.proofs.Outcomes.{apart_differs, none_differs, some_differs, first_above, none_above, clash_first}

module _ (image : List ℕ → List ℕ) (seconds : Seconds) (items : List Item) (links : List PlainLink) (hash : List ℕ) (t : ℕ) (calendar : Calendar) where
  abbrev rungs : List Rung
  rungs = calendar_rungs_from image calendar.input calendar.links

  abbrev beside : Walk
  beside = laid_from (calendar_text image seconds calendar.publication) [] rungs

  pub above_apart : IsApart beside → HasClash (laid_over image seconds items links hash t calendar)
  above_apart h =
      let differs = apart_differs [] rungs _ (differing (calendar_pairs image seconds calendar)) h in
      clash_first image items links hash t (calendar_pairs image seconds calendar) differs.0 differs.1

  module _ (walk : Walk) (found : Option Clash) (went : walk ≡ beside) (is : found ≡ clash_in walk) where
    found_is : found ≡ clash_in beside
    found_is = is ∙ ap clash_in went

    pub above_clash : (clash : Clash) → found ≡ Some clash → answers.Clash clash ≡ laid_over image seconds items links hash t calendar
    above_clash clash some = first_above image items links hash t (calendar_pairs image seconds calendar) clash (some_differs [] rungs _ (differing (calendar_pairs image seconds calendar)) clash (sym some ∙ found_is))

    pub above_none : found ≡ None → compared image items links hash t [] ≡ laid_over image seconds items links hash t calendar
    above_none none = none_above image items links hash t (calendar_pairs image seconds calendar) (none_differs [] rungs _ (differing (calendar_pairs image seconds calendar)) (sym none ∙ found_is))
