-- The log of a core that forgets now and then: what it took, what it said to that, and when its process was started again.
use Rattle.std.specs.Prelude.{◌≡◌, ℕ, ◌==◌, if◌then◌else◌, List, [], ◌∷◌, IsTrue}
use Rattle.ksi_corenode.specs.declared.event.CoreEvent.{CoreEvent}
use Rattle.ksi_corenode.specs.SecondState.{SecondState}
use Rattle.ksi_corenode.specs.Rows.{restart_row}
use Rattle.ksi_corenode.specs.Bare.{is_taken}
use Rattle.ksi_schedule.specs.Plans.{PlanState}
use Rattle.ksi_records.specs.Logs.{Deed, AtAggregator, AtCore, AggregatorStarts, CoreStarts, Said, core_after, core_says}
use Rattle.ksi_laws_forgetting.specs.Forgotten.{AreForgotten}

-- An entry of the log. The process was started over its own file, or over a compacted one, of which the core then has these seconds.
pub data Entry : Type 0 where
  Took : CoreEvent → Said → Entry
  Starts : Entry
  Forgets : (left : ℕ → SecondState) → Entry

module _ (image : List ℕ → List ℕ) (plan : PlanState) (j : ℕ) where
  -- all that the core said is what its rows say of the seconds that it has, and it took only events that a core that forgets takes
  abbrev pub ForgetfulAgrees : (seconds : ℕ → SecondState) → List Entry → Type 0
  ForgetfulAgrees seconds [] = Unit {0}
  ForgetfulAgrees seconds (Took event said ∷ entries) =
      IsTrue (is_taken seconds event) × (said ≡ core_says image plan j seconds event) × ForgetfulAgrees (core_after image plan j seconds event) entries
  ForgetfulAgrees seconds (Starts ∷ entries) = ForgetfulAgrees (λ t. restart_row (seconds t)) entries
  ForgetfulAgrees seconds (Forgets left ∷ entries) = AreForgotten (λ t. restart_row (seconds t)) left × ForgetfulAgrees left entries

  -- the seconds of the core after these entries
  abbrev pub forgetful_after : (seconds : ℕ → SecondState) → List Entry → ℕ → SecondState
  forgetful_after seconds [] = seconds
  forgetful_after seconds (Took event said ∷ entries) = forgetful_after (core_after image plan j seconds event) entries
  forgetful_after seconds (Starts ∷ entries) = forgetful_after (λ t. restart_row (seconds t)) entries
  forgetful_after seconds (Forgets left ∷ entries) = forgetful_after left entries

  -- the seconds of a core that forgets nothing, after these entries of all nodes
  abbrev pub whole_after : (seconds : ℕ → SecondState) → List Deed → ℕ → SecondState
  whole_after seconds [] = seconds
  whole_after seconds (AtCore i event said ∷ deeds) = whole_after (if j == i then core_after image plan j seconds event else seconds) deeds
  whole_after seconds (AtAggregator k event said ∷ deeds) = whole_after seconds deeds
  whole_after seconds (CoreStarts i ∷ deeds) = whole_after (if j == i then (λ t. restart_row (seconds t)) else seconds) deeds
  whole_after seconds (AggregatorStarts k ∷ deeds) = whole_after seconds deeds

-- the log of a core that forgets nothing: it is started again where this one forgets
abbrev pub deeds_of : (j : ℕ) → List Entry → List Deed
deeds_of j [] = []
deeds_of j (Took event said ∷ entries) = AtCore j event said ∷ deeds_of j entries
deeds_of j (Starts ∷ entries) = CoreStarts j ∷ deeds_of j entries
deeds_of j (Forgets left ∷ entries) = CoreStarts j ∷ deeds_of j entries
