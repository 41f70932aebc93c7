-- A crash is a restart: what is opened of a file that a crash in an event left.
use Rattle.std.proofs.Common.{◌≡◌, ◌⊎◌, inl, inr, ℕ, ◌<◌, ◌^◌, List, sym, subst}
use Rattle.ksi_schedule.specs.Plans.{PlanState}
use Rattle.ksi_aggregator.specs.declared.event.RoundEvent.{RoundEvent}
use Rattle.ksi_aggregator.specs.declared.fact.Fact.{Fact}
use Rattle.ksi_aggregator.specs.Events.{MayTake, event_second}
use Rattle.ksi_aggregator.specs.Rounds.{AggregatorState, rounds_of}
use Rattle.ksi_aggregator.specs.Lawful.{with_new}
use Rattle.ksi_aggregator.specs.Restored.{HasFacts, IsOfFacts}
use Rattle.ksi_roundstore.specs.Crashes.{IsRestarted, IsRestartedEither}
use Rattle.ksi_roundstore.specs.StoreState.{StoreState}
use Rattle.ksi_roundstore.specs.Stores.{IsFileBeforeOrAfter, IsFileOf, IsStoreOf}
use Rattle.ksi_roundstore.specs.Takes.{HasEither, fact_added}
use Rattle.ksi_roundstore.specs.Written.{IsWritten}
use Rattle.ksi_roundstore.proofs.Made.{early}
use Rattle.ksi_roundstore.proofs.Onward.{Laws, left_files, restart_either}
use Rattle.ksi_roundstore.proofs.Spelled.{one_file}

module _ (laws : Laws) (image : List ℕ → List ℕ) where
  pub left_either : (me : ℕ) (plan : PlanState) (facts others : List Fact) (file : List ℕ) (aggregator other : AggregatorState) (event : RoundEvent) → HasFacts facts (rounds_of aggregator) → MayTake (rounds_of aggregator) event
      → event_second event < 2 ^ 63 → IsFileBeforeOrAfter me plan facts (fact_added image aggregator event) file → IsFileOf me plan others file → IsOfFacts me others other → IsRestartedEither image aggregator event other
  left_either me plan facts others file aggregator other event has may below left found of =
      let one_of : (facts ≡ others) ⊎ (with_new facts (fact_added image aggregator event) ≡ others) =
      elim left [
        | inl before ↦ inl (one_file me plan facts others file before found)
        | inr after ↦ inr (one_file me plan (with_new facts (fact_added image aggregator event)) others file after found)
      ] in
      restart_either laws image me facts others aggregator other event has may below one_of of

  -- the same of stores
  pub store_left : {D E : Type 0} (content : D → List ℕ) (images : D → List ℕ → Type 0) (me : ℕ) (plan : PlanState) (facts others : List Fact) (old : StoreState D) (event : RoundEvent) (file : List ℕ) (opened : StoreState E)
      → IsStoreOf content images me plan facts old → MayTake (rounds_of old.aggregator) event → IsWritten plan me event → HasEither (content old.log.disk) (fact_added image old.aggregator event) file
      → IsFileOf me plan others file → IsOfFacts me others opened.aggregator → IsRestartedEither image old.aggregator event opened.aggregator
  store_left content images me plan facts others old event file opened is may written left found of =
      let below = early event written.fits in
      left_either me plan facts others file old.aggregator opened.aggregator event is.has may below
      (left_files laws image me plan facts old.aggregator event (content old.log.disk) file is.has is.items is.file may below written left) found of

  pub store_idle : {D E : Type 0} (content : D → List ℕ) (images : D → List ℕ → Type 0) (me : ℕ) (plan : PlanState) (facts others : List Fact) (old : StoreState D) (file : List ℕ) (opened : StoreState E)
      → IsStoreOf content images me plan facts old → images old.log.disk file → IsFileOf me plan others file → IsOfFacts me others opened.aggregator → IsRestarted old.aggregator opened.aggregator
  store_idle content images me plan facts others old file opened is left found of =
      let here : IsFileOf me plan facts file = subst (λ (l : List ℕ). IsFileOf me plan facts l) (sym (is.settled.durable file left)) is.file in
      laws.restarted me others (rounds_of old.aggregator) opened.aggregator (subst (λ (l : List Fact). HasFacts l (rounds_of old.aggregator)) (one_file me plan facts others file here found) is.has) of
