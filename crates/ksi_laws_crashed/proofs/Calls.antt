-- The calls of a store of an aggregator are deeds.
use Rattle.std.proofs.Common.{◌≡◌, ◌<◌, ◌^◌, ℕ, Bool, true, false, List, ◌∙◌, ◌⊎◌, refl, ap, sym, subst, inl, inr, Option, None}
use Rattle.ksi_aggregator.specs.Rounds.{rounds_of}
use Rattle.ksi_aggtree.specs.declared.entries.Entry.{Entry}
use Rattle.ksi_aggregator.specs.Events.{event_second}
use Rattle.ksi_aggregator.specs.declared.event.RoundEvent.{RoundEvent}
use Rattle.ksi_aggregator.specs.declared.event.RoundEvent.TheVariants as events
use Rattle.ksi_aggregator.specs.declared.fact.Fact.{Fact}
use Rattle.ksi_aggregator.specs.declared.step.Step.{Step}
use Rattle.ksi_aggregator.specs.Lawful.{with_new}
use Rattle.ksi_aggregator.specs.Restored.{IsOfFacts}
use Rattle.ksi_disk.specs.declared.log.GateLog.{GateLog}
use Rattle.ksi_roundstore.specs.Forgets.{IsFileLeft}
use Rattle.ksi_roundstore.specs.Left.{left_before}
use Rattle.ksi_roundstore.specs.Stores.{IsFileOf, IsFileBeforeOrAfter}
use Rattle.ksi_roundstore.specs.StoreState.{StoreState}
use Rattle.ksi_roundstore.specs.Takes.{TookTurn, fact_added}
use Rattle.ksi_schedule.specs.Plans.{PlanState}
use Rattle.ksi_wire.specs.RoundLines.{FitsRound}
use Rattle.ksi_laws_crashed.specs.Aggregators.{Running, running_in, IsTakenAs, WasOpened, FileGrew, TookStep, TakesPart, WasCutOff, HasForgotten, forgotten_with}

-- an event that is written is of a second before 2^63
pub early : (event : RoundEvent) → FitsRound event → event_second event < 2 ^ 63
early (events.Request number second imprint name) fits = fits
early (events.Submission from second item) fits = fits.0
early (events.Close second) fits = fits
early (events.Response second above) fits = fits.0

-- a file is of one list of facts
abbrev pub OneFile : Type 0
OneFile = (me : ℕ) (plan : PlanState) (facts others : List Fact) (file : List ℕ) → IsFileOf me plan facts file → IsFileOf me plan others file → facts ≡ others

-- a store that is as it was has its file
pub same_file : {D : Type 0} (content : D → List ℕ) (old new : StoreState D) → new.log ≡ old.log → content new.log.disk ≡ content old.log.disk
same_file {D} content old new same = ap (λ (log : GateLog D). content log.disk) same

module _ (one : OneFile) (me : ℕ) (plan : PlanState) (forgotten : ℕ → Option (List Entry)) where
  grew_to : (more : Option Fact) (facts : List Fact) (old new : List ℕ) → IsFileOf me plan facts old → IsFileOf me plan (with_new facts more) new → FileGrew me plan more old new
  grew_to more facts old new is after = λ others found. subst (λ (fs : List Fact). IsFileOf me plan (with_new fs more) new) (one me plan facts others old is found) after

  pub took : {D : Type 0} (image : List ℕ → List ℕ) (content : D → List ℕ) (facts : List Fact) (old new : StoreState D) (asked live : RoundEvent) (step : Step) → IsFileOf me plan facts (content old.log.disk)
      → IsTakenAs forgotten (rounds_of old.aggregator) asked live → TookTurn image old.aggregator new.aggregator live step → IsFileOf me plan (with_new facts step.fact) (content new.log.disk)
      → TookStep image me plan asked (running_in content old forgotten) (running_in content new forgotten)
  took image content facts old new asked live step is so turn after =
      record { live = live; taken_as = so; step = step; turn = turn; file = grew_to step.fact facts (content old.log.disk) (content new.log.disk) is after; forgets = refl }

  pub cut_off : {D : Type 0} (image : List ℕ → List ℕ) (content : D → List ℕ) (facts : List Fact) (old : StoreState D) (asked live : RoundEvent) (file : List ℕ) (new : Running) → IsFileOf me plan facts (content old.log.disk)
      → IsTakenAs forgotten (rounds_of old.aggregator) asked live → IsFileBeforeOrAfter me plan facts (fact_added image old.aggregator live) file → new.file ≡ file → WasOpened me plan new → new.forgotten ≡ forgotten
      → (stored : Bool) × WasCutOff image me plan asked stored (running_in content old forgotten) new
  cut_off image content facts old asked live file new is so (inl before) stays opened same = (
    false,
    record {
      live = live;
      taken_as = so;
      file = λ all found. subst (λ (l : List ℕ). IsFileOf me plan all l) (sym stays) (subst (λ (fs : List Fact). IsFileOf me plan fs file) (one me plan facts all (content old.log.disk) is found) before);
      opened = opened;
      forgets = same;
    },
  )
  cut_off image content facts old asked live file new is so (inr with) stays opened same = (
    true,
    record {
      live = live;
      taken_as = so;
      file = λ all found. subst (λ (l : List ℕ). IsFileOf me plan (with_new all (fact_added image old.aggregator live)) l) (sym stays)
          (subst (λ (fs : List Fact). IsFileOf me plan (with_new fs (fact_added image old.aggregator live)) file) (one me plan facts all (content old.log.disk) is found) with);
      opened = opened;
      forgets = same;
    },
  )

  -- it forgot rounds, and was opened over its old file or over the new one
  pub forgot : {D E : Type 0} (image : List ℕ → List ℕ) (content : D → List ℕ) (others : E → List ℕ) (facts : List Fact) (before records left : ℕ) (old : StoreState D) (file fresh named : List ℕ) (store : StoreState E)
      → IsFileOf me plan facts (content old.log.disk) → file ≡ content old.log.disk → IsFileLeft me plan before file fresh records left → (named ≡ file) ⊎ (named ≡ fresh) → others store.log.disk ≡ named
      → WasOpened me plan (running_in others store forgotten)
      → TakesPart image me plan None true (running_in content old forgotten) (running_in others store forgotten)
      ⊎ HasForgotten me plan before (running_in content old forgotten) (running_in others store (forgotten_with before facts forgotten))
  forgot image content others facts before records left old file fresh named store is same so (inl kept) stays opened = inl (stays ∙ kept ∙ same, opened, refl)
  forgot image content others facts before records left old file fresh named store is same so (inr renamed) stays opened =
      let its : so.facts ≡ facts = one me plan so.facts facts (content old.log.disk) (subst (λ (l : List ℕ). IsFileOf me plan so.facts l) same so.old_file) is in
      let there : IsFileOf me plan opened.0 fresh = subst (λ (l : List ℕ). IsFileOf me plan opened.0 l) (stays ∙ renamed) opened.1 in
      let these : opened.0 ≡ left_before before facts = one me plan opened.0 (left_before before so.facts) fresh there so.new_file
      ∙ (λ i. left_before before (its i)) in
      inr (record {
        facts = facts;
        old_file = is;
        new_file = subst (λ (fs : List Fact). IsFileOf me plan fs (others store.log.disk)) these opened.1;
        made = subst (λ (fs : List Fact). IsOfFacts me fs store.aggregator) these opened.2;
        forgets = λ t. refl;
      })
