-- The log of an aggregator that drops the rounds before a second now and then.
use Rattle.std.specs.Prelude.{◌≡◌, ◌≤◌, ℕ, List, [], ◌∷◌, IsTrue}
use Rattle.ksi_aggregator.specs.declared.event.RoundEvent.{RoundEvent}
use Rattle.ksi_aggregator.specs.Rows.{RoundState, round_restarted}
use Rattle.ksi_schedule.specs.Plans.{PlanState}
use Rattle.ksi_records.specs.Logs.{Deed, AtAggregator, AggregatorStarts, Said, round_after, round_says}
use Rattle.ksi_laws_forgetting.specs.Horizon.{AreFrom, is_taken}

-- An entry of the log. The process was started over its own file, or over one of what is left from a later second on, of which the
-- aggregator then has these rounds.
pub data RoundEntry : Type 0 where
  TookRound : RoundEvent → Said → RoundEntry
  RoundStarts : RoundEntry
  RoundForgets : (later : ℕ) → (left : ℕ → RoundState) → RoundEntry

module _ (image : List ℕ → List ℕ) (plan : PlanState) (k : ℕ) where
  -- all that the aggregator said is what its rows say of the rounds that it has, and it took no event of a second before its horizon
  abbrev pub RoundsAgree : (horizon : ℕ) → (rounds : ℕ → RoundState) → List RoundEntry → Type 0
  RoundsAgree horizon rounds [] = Unit {0}
  RoundsAgree horizon rounds (TookRound event said ∷ entries) =
      IsTrue (is_taken horizon event) × (said ≡ round_says image plan k rounds event) × RoundsAgree horizon (round_after image plan rounds event) entries
  RoundsAgree horizon rounds (RoundStarts ∷ entries) = RoundsAgree horizon (λ t. round_restarted (rounds t)) entries
  RoundsAgree horizon rounds (RoundForgets later left ∷ entries) = (horizon ≤ later) × AreFrom later (λ t. round_restarted (rounds t)) left × RoundsAgree later left entries

-- the log of an aggregator that drops nothing: it is started again where this one drops rounds
abbrev pub round_deeds_of : (k : ℕ) → List RoundEntry → List Deed
round_deeds_of k [] = []
round_deeds_of k (TookRound event said ∷ entries) = AtAggregator k event said ∷ round_deeds_of k entries
round_deeds_of k (RoundStarts ∷ entries) = AggregatorStarts k ∷ round_deeds_of k entries
round_deeds_of k (RoundForgets later left ∷ entries) = AggregatorStarts k ∷ round_deeds_of k entries
