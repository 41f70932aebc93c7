-- A crash is a restart: what is opened of a file that a crash in an event left.
use Rattle.std.proofs.Common.{ℕ, List, sym, subst, inl, inr}
use Rattle.ksi_synod.specs.CorePlans.{CorePlanState}
use Rattle.ksi_corenode.specs.declared.event.CoreEvent.{CoreEvent}
use Rattle.ksi_corenode.specs.declared.fact.Fact.{Fact}
use Rattle.ksi_corenode.specs.CoreState.{CoreState}
use Rattle.ksi_corenode.specs.Events.{MayTake}
use Rattle.ksi_corenode.specs.Lawful.{with_new}
use Rattle.ksi_corenode.specs.Restored.{HasFacts, IsOfFacts}
use Rattle.ksi_nodestore.specs.Crashes.{IsRestarted, IsRestartedAfter, IsRestartedEither}
use Rattle.ksi_nodestore.specs.Stores.{IsFileOf}
use Rattle.ksi_nodestore.specs.StoreState.{IsStoreOf, StoreState}
use Rattle.ksi_nodestore.specs.Takes.{fact_added, IsFileBeforeOrAfter}
use Rattle.ksi_nodestore.proofs.Onward.{one_file}

-- the laws of cores that come back
pub record Laws (image : List ℕ → List ℕ) : Type 0 where
  pub restarted : (plan : CorePlanState) (facts : List Fact) (core other : CoreState) → HasFacts image plan facts core → IsOfFacts image core.me plan facts other → IsRestarted core other
  pub taken : (plan : CorePlanState) (facts : List Fact) (core other : CoreState) (event : CoreEvent) → HasFacts image plan facts core → MayTake core event
      → IsOfFacts image core.me plan (with_new facts (fact_added image core event)) other → IsRestartedAfter image core event other

pub left_either : (image : List ℕ → List ℕ) → Laws image → (plan : CorePlanState) (facts others : List Fact) (file : List ℕ) (core other : CoreState) (event : CoreEvent) → HasFacts image plan facts core → MayTake core event
    → IsFileBeforeOrAfter core.me plan facts (fact_added image core event) file → IsFileOf core.me plan others file → IsOfFacts image core.me plan others other → IsRestartedEither image core event other
left_either image laws plan facts others file core other event has may (inl before) found of =
    inl (laws.restarted plan facts core other has (subst (λ (fs : List Fact). IsOfFacts image core.me plan fs other) (sym (one_file core.me plan facts others file before found)) of))
left_either image laws plan facts others file core other event has may (inr after) found of =
    inr (laws.taken plan facts core other event has may (subst (λ (fs : List Fact). IsOfFacts image core.me plan fs other) (sym (one_file core.me plan (with_new facts (fact_added image core event)) others file after found)) of))

-- the same of stores
pub store_left : {D E : Type 0} (image : List ℕ → List ℕ) → Laws image → (content : D → List ℕ) (images : D → List ℕ → Type 0) (me : ℕ) (plan : CorePlanState) (facts others : List Fact) (old : StoreState D) (event : CoreEvent) (file : List ℕ) (opened : StoreState E)
    → IsStoreOf image content images me plan facts old → MayTake old.core event → IsFileBeforeOrAfter me plan facts (fact_added image old.core event) file
    → IsFileOf me plan others file → IsOfFacts image me plan others opened.core → IsRestartedEither image old.core event opened.core
store_left image laws content images me plan facts others old event file opened is may left found of =
    left_either image laws plan facts others file old.core opened.core event is.has may
    (subst (λ (n : ℕ). IsFileBeforeOrAfter n plan facts (fact_added image old.core event) file) (sym is.mine) left)
    (subst (λ (n : ℕ). IsFileOf n plan others file) (sym is.mine) found)
    (subst (λ (n : ℕ). IsOfFacts image n plan others opened.core) (sym is.mine) of)

pub store_idle : {D E : Type 0} (image : List ℕ → List ℕ) → Laws image → (content : D → List ℕ) (images : D → List ℕ → Type 0) (me : ℕ) (plan : CorePlanState) (facts others : List Fact) (old : StoreState D) (file : List ℕ) (opened : StoreState E)
    → IsStoreOf image content images me plan facts old → images old.log.disk file → IsFileOf me plan others file → IsOfFacts image me plan others opened.core → IsRestarted old.core opened.core
store_idle image laws content images me plan facts others old file opened is left found of =
    let here : IsFileOf me plan facts file = subst (λ (l : List ℕ). IsFileOf me plan facts l) (sym (is.settled.durable file left)) is.file in
    laws.restarted plan facts old.core opened.core is.has
    (subst (λ (n : ℕ). IsOfFacts image n plan facts opened.core) (sym is.mine) (subst (λ (fs : List Fact). IsOfFacts image me plan fs opened.core) (sym (one_file me plan facts others file here found)) of))
