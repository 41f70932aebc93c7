-- The calls of a store are deeds.
use Rattle.std.proofs.Common.{◌≡◌, ℕ, Bool, true, false, List, sym, ap, subst, inl, inr, Option}
use Rattle.ksi_synod.specs.CorePlans.{CorePlanState}
use Rattle.ksi_corenode.specs.Lawful.{with_new}
use Rattle.ksi_corenode.specs.CoreState.{IsTurn}
use Rattle.ksi_corenode.specs.Events.{core_row, event_second}
use Rattle.ksi_corenode.specs.Restored.{IsOfFacts}
use Rattle.ksi_corenode.specs.declared.event.CoreEvent.{CoreEvent}
use Rattle.ksi_corenode.specs.declared.fact.Fact.{Fact}
use Rattle.ksi_corenode.specs.declared.step.Step.{Step}
use Rattle.ksi_disk.specs.declared.log.GateLog.{GateLog}
use Rattle.ksi_nodestore.specs.Stores.{IsFileOf}
use Rattle.ksi_nodestore.specs.StoreState.{IsStoreOf, StoreState}
use Rattle.ksi_nodestore.specs.Takes.{fact_added, IsFileBeforeOrAfter}
use Rattle.ksi_node_file.specs.Crashed.{running_in, WasOpened, FileGrew, TookStep, WasCutOff}

-- a file is of one list of facts
abbrev pub OneFile : Type 0
OneFile = (me : ℕ) (plan : CorePlanState) (facts others : List Fact) (file : List ℕ) → IsFileOf me plan facts file → IsFileOf me plan others file → facts ≡ others

grew_to : OneFile → (me : ℕ) (plan : CorePlanState) (more : Option Fact) (facts : List Fact) (old new : List ℕ) → IsFileOf me plan facts old → IsFileOf me plan (with_new facts more) new → FileGrew me plan more old new
grew_to one me plan more facts old new is after = λ others found. subst (λ (fs : List Fact). IsFileOf me plan (with_new fs more) new) (one me plan facts others old is found) after

-- a store that is as it was has its file
pub same_file : {D : Type 0} (content : D → List ℕ) (old new : StoreState D) → new.log ≡ old.log → content new.log.disk ≡ content old.log.disk
same_file {D} content old new same = ap (λ (log : GateLog D). content log.disk) same

module _ {D E : Type 0} (image : List ℕ → List ℕ) (content : D → List ℕ) (images : D → List ℕ → Type 0) (others : E → List ℕ) (left_by : E → List ℕ → Type 0) (one : OneFile) (me : ℕ) (plan : CorePlanState) where
  pub took : (facts : List Fact) (old new : StoreState D) (asked : CoreEvent) (step : Step) → IsStoreOf image content images me plan facts old → IsTurn old.core new.core (event_second asked) (core_row image old.core asked) step
      → IsStoreOf image content images me plan (with_new facts step.fact) new → TookStep image me plan asked (running_in content old) (running_in content new)
  took facts old new asked step is turn after = record { step = step; turn = turn; file = grew_to one me plan step.fact facts (content old.log.disk) (content new.log.disk) is.file after.file }

  pub opened : (facts : List Fact) (store : StoreState E) → IsOfFacts image me plan facts store.core → IsStoreOf image others left_by me plan facts store → WasOpened image me plan (running_in others store)
  opened facts store of is = (facts, is.file, of)

  pub cut_off : (facts found : List Fact) (old : StoreState D) (asked : CoreEvent) (file : List ℕ) (store : StoreState E) → IsStoreOf image content images me plan facts old
      → IsFileBeforeOrAfter me plan facts (fact_added image old.core asked) file → others store.log.disk ≡ file → IsOfFacts image me plan found store.core → IsStoreOf image others left_by me plan found store
      → (stored : Bool) × WasCutOff image me plan asked stored (running_in content old) (running_in others store)
  cut_off facts found old asked file store is (inl before) stays of after = (
    false,
    record {
      file = λ all before_is. subst (λ (l : List ℕ). IsFileOf me plan all l) (sym stays) (subst (λ (fs : List Fact). IsFileOf me plan fs file) (one me plan facts all (content old.log.disk) is.file before_is) before);
      opened = opened found store of after;
    },
  )
  cut_off facts found old asked file store is (inr with) stays of after = (
    true,
    record {
      file = λ all before_is. subst (λ (l : List ℕ). IsFileOf me plan (with_new all (fact_added image old.core asked)) l) (sym stays)
          (subst (λ (fs : List Fact). IsFileOf me plan (with_new fs (fact_added image old.core asked)) file) (one me plan facts all (content old.log.disk) is.file before_is) with);
      opened = opened found store of after;
    },
  )
