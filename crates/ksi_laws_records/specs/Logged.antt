-- What an operator has of the logs of all nodes, if they agree and fit together.
use Rattle.std.specs.Prelude.{◌≡◌, ◌<◌, ◌^◌, ℕ, All, List, [], length}
use Rattle.ksi_imprint.specs.Imprints.{IsImprint}
use Rattle.ksi_aggregator.specs.declared.event.RoundEvent.{RoundEvent}
use Rattle.ksi_aggregator.specs.declared.event.RoundEvent.TheVariants as round_events
use Rattle.ksi_schedule.specs.Events.{History}
use Rattle.ksi_schedule.specs.Pieces.{Text}
use Rattle.ksi_schedule.specs.Plans.{PlanState}
use Rattle.ksi_schedule.specs.Schedules.{IsHistory}
use Rattle.ksi_schedule.specs.declared.actor.Actor.{Actor}
use Rattle.ksi_schedule.specs.declared.actor.Actor.TheVariants as actors
use Rattle.ksi_world.specs.Histories.{first_world}
use Rattle.ksi_records.specs.Logs.{AreGiven, AreOutcomes, AtAggregator, Deed, log_of_aggregator, log_of_core, renamed}
use Rattle.ksi_records.specs.Node.Verdicts.{IsLog}

module _ (image : List ℕ → List ℕ) (plan : PlanState) where
  -- the log of a node agrees, and what the node did is this
  pub record IsLogOf (me : Actor) (text : Text) (own : List Deed) : Type 0 where
    pub log : IsLog image plan me text
    pub deeds : log.deeds ≡ own

  -- The logs of all nodes agree, and these are their entries in one order. Each message was sent before it is taken; what no node
  -- sends, a host of the plan may ask. An aggregator's requests have numbers of its own, which are renamed to the counts of the requests
  -- that were accepted before. A node that is not in the plan has the empty log.
  pub record FitTogether (log_of : Actor → Text) (name : (aggregator number : ℕ) → ℕ) (deeds : List Deed) : Type 0 where
    pub cores : (j : ℕ) → IsLogOf (actors.Core j) (log_of (actors.Core j)) (log_of_core j deeds)
    pub aggregators : (k : ℕ) → IsLogOf (actors.Aggregator k) (log_of (actors.Aggregator k)) (log_of_aggregator k deeds)
    pub given : AreGiven plan [] 0 (renamed name deeds)
    pub few : length deeds < 2 ^ 64

-- A history of the plan that follows the rules. Its events are the entries, in their order, and it answers and sends just what the
-- logs have.
pub record IsHistoryOf (image : List ℕ → List ℕ) (plan : PlanState) (deeds : List Deed) (history : History) : Type 0 where
  pub of_plan : history.plan ≡ plan
  pub follows : IsHistory history
  pub outcomes : AreOutcomes image plan (first_world plan) deeds history.events

-- ---- what the logs ask to sign

-- a request is for an imprint, of bytes
abbrev pub RequestsImprint : RoundEvent → Type 0
RequestsImprint (round_events.Request number t imprint name) = IsImprint imprint × All (λ b. b < 256) imprint
RequestsImprint _ = Unit {0}

abbrev pub DeedRequestsImprint : Deed → Type 0
DeedRequestsImprint (AtAggregator k event said) = RequestsImprint event
DeedRequestsImprint _ = Unit {0}
