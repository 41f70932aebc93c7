-- The calls of a store of a core that forgets are deeds.
use Rattle.std.proofs.Common.{◌≡◌, ◌⊎◌, ◌∙◌, ℕ, Bool, true, false, List, refl, sym, ap, subst, inl, inr, Option, None}
use Rattle.ksi_synod.specs.CorePlans.{CorePlanState}
use Rattle.ksi_corenode.specs.Lawful.{with_new}
use Rattle.ksi_corenode.specs.CoreState.{state_of, IsTurn}
use Rattle.ksi_corenode.specs.Events.{core_row, event_second}
use Rattle.ksi_corenode.specs.declared.event.CoreEvent.{CoreEvent}
use Rattle.ksi_corenode.specs.declared.fact.Fact.{Fact}
use Rattle.ksi_corenode.specs.declared.step.Step.{Step}
use Rattle.ksi_corenode.specs.Restored.{IsOfFacts}
use Rattle.ksi_disk.specs.declared.log.GateLog.{GateLog}
use Rattle.ksi_forgetting.specs.Forgets.{IsFileLeft}
use Rattle.ksi_forgetting.specs.Puts.{is_early}
use Rattle.ksi_laws_forgetting.specs.Forgotten.{MayReach}
use Rattle.ksi_laws_forgetting.specs.Left.{left_of}
use Rattle.ksi_nodestore.specs.Stores.{IsFileOf}
use Rattle.ksi_nodestore.specs.StoreState.{StoreState}
use Rattle.ksi_nodestore.specs.Takes.{fact_added, IsFileBeforeOrAfter}
use Rattle.ksi_node_file.specs.Crashed.{FileGrew, fact_left}
use Rattle.ksi_laws_crashed.specs.Cores.{running_in, or_these, HasForgotten, Running, TakesPart, TookStep, WasCutOff, WasOpened}

-- a file is of one list of facts
abbrev pub OneFile : Type 0
OneFile = (me : ℕ) (plan : CorePlanState) (facts others : List Fact) (file : List ℕ) → IsFileOf me plan facts file → IsFileOf me plan others file → facts ≡ others

pub same_file : {D : Type 0} (content : D → List ℕ) (old new : StoreState D) → new.log ≡ old.log → content new.log.disk ≡ content old.log.disk
same_file {D} content old new same = ap (λ (log : GateLog D). content log.disk) same

module _ (one : OneFile) (me : ℕ) (plan : CorePlanState) where
  -- the file after it, if it is known of some facts
  grew_to : (more : Option Fact) (facts : List Fact) (old new : List ℕ) → IsFileOf me plan facts old → IsFileOf me plan (with_new facts more) new → FileGrew me plan more old new
  grew_to more facts old new is after = λ others found. subst (λ (fs : List Fact). IsFileOf me plan (with_new fs more) new) (one me plan facts others old is found) after

  pub took : {D : Type 0} (image : List ℕ → List ℕ) (content : D → List ℕ) (forgotten : ℕ → Bool) (facts : List Fact) (old new : StoreState D) (asked : CoreEvent) (step : Step) → IsFileOf me plan facts (content old.log.disk)
      → MayReach forgotten (state_of old.core) asked → IsTurn old.core new.core (event_second asked) (core_row image old.core asked) step → IsFileOf me plan (with_new facts step.fact) (content new.log.disk)
      → TookStep image me plan asked (running_in content old forgotten) (running_in content new forgotten)
  took image content forgotten facts old new asked step is may turn after =
      record { may = may; step = step; turn = turn; file = grew_to step.fact facts (content old.log.disk) (content new.log.disk) is after; forgets = refl }

  pub cut_off : {D : Type 0} (image : List ℕ → List ℕ) (content : D → List ℕ) (forgotten : ℕ → Bool) (facts : List Fact) (old : StoreState D) (asked : CoreEvent) (file : List ℕ) (new : Running) → IsFileOf me plan facts (content old.log.disk)
      → MayReach forgotten (state_of old.core) asked → IsFileBeforeOrAfter me plan facts (fact_added image old.core asked) file → new.file ≡ file → WasOpened image me plan new → new.forgotten ≡ forgotten
      → (stored : Bool) × WasCutOff image me plan asked stored (running_in content old forgotten) new
  cut_off image content forgotten facts old asked file new is may (inl before) stays opened same = (
    false,
    record {
      may = may;
      file = grew_to (fact_left image false old.core asked) facts (content old.log.disk) new.file is (subst (λ (l : List ℕ). IsFileOf me plan facts l) (sym stays) before);
      opened = opened;
      forgets = same;
    },
  )
  cut_off image content forgotten facts old asked file new is may (inr with) stays opened same = (
    true,
    record {
      may = may;
      file = grew_to (fact_left image true old.core asked) facts (content old.log.disk) new.file is
          (subst (λ (l : List ℕ). IsFileOf me plan (with_new facts (fact_added image old.core asked)) l) (sym stays) with);
      opened = opened;
      forgets = same;
    },
  )

  -- the facts left of a file, in the file that was opened
  pub forgot : {D E : Type 0} (image : List ℕ → List ℕ) (content : D → List ℕ) (others : E → List ℕ) (forgotten : ℕ → Bool) (horizon records left : ℕ) (old : StoreState D) (file fresh named : List ℕ) (store : StoreState E) → file ≡ content old.log.disk
      → IsFileLeft me plan horizon file fresh records left → (named ≡ file) ⊎ (named ≡ fresh) → others store.log.disk ≡ named → WasOpened image me plan (running_in others store forgotten)
      → TakesPart image me plan None true (running_in content old forgotten) (running_in others store forgotten)
      ⊎ HasForgotten image me plan (is_early plan.start horizon) (running_in content old forgotten) (running_in others store (or_these forgotten (is_early plan.start horizon)))
  forgot image content others forgotten horizon records left old file fresh named store is so (inl same) stays opened = inl (stays ∙ same ∙ is, opened, refl)
  forgot image content others forgotten horizon records left old file fresh named store is so (inr renamed) stays opened =
      let gone = is_early plan.start horizon in
      let new_file : IsFileOf me plan (left_of gone so.facts) (others store.log.disk) = subst (λ (l : List ℕ). IsFileOf me plan (left_of gone so.facts) l) (sym (stays ∙ renamed)) so.new_file in
      inr (record {
        facts = so.facts;
        held = so.held;
        old_file = subst (λ (l : List ℕ). IsFileOf me plan so.facts l) is so.old_file;
        new_file = new_file;
        made = subst (λ (fs : List Fact). IsOfFacts image me plan fs store.core) (one me plan opened.0 (left_of gone so.facts) (others store.log.disk) opened.1 new_file) opened.2;
        forgets = refl;
      })
