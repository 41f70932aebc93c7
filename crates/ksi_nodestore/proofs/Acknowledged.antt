-- A store goes on with the fact of an event.
use Rattle.std.proofs.Common.{◌≡◌, ℕ, ◌+◌, ◌≤◌, ◌<◌, ◌^◌, List, [], ◌∷◌, length, option_map, Option, Some, None, IfSome, sym, subst, ap, ◌∙◌, arith, length-append}
use Rattle.ksi_synod.specs.CorePlans.{CorePlanState}
use Rattle.ksi_corenode.specs.declared.fact.What.{What}
use Rattle.ksi_corenode.specs.declared.fact.Fact.{Fact}
use Rattle.ksi_corenode.specs.declared.event.CoreEvent.{CoreEvent}
use Rattle.ksi_corenode.specs.Facts.{StableState, stable_state, fact_of}
use Rattle.ksi_corenode.specs.CoreState.{CoreState, state_of, IsTurn}
use Rattle.ksi_corenode.specs.Events.{core_row, event_second}
use Rattle.ksi_corenode.specs.Lawful.{IsLawful, stored_by, with_new}
use Rattle.ksi_corenode.specs.Restored.{HasFacts}
use Rattle.ksi_corenode.specs.declared.step.Step.{Step}
use Rattle.ksi_disk.specs.declared.ending.Ending.TheVariants.{Closed}
use Rattle.ksi_disk.specs.declared.log.GateLog.{GateLog}
use Rattle.ksi_disk.specs.Logs.{IsSettled}
use Rattle.ksi_disk.specs.Gates.{place_of, reading_of, record_text, records_text}
use Rattle.ksi_nodestore.specs.Stores.{AreTexts, IsFileOf}
use Rattle.ksi_nodestore.specs.StoreState.{IsStoreOf, StoreState}
use Rattle.ksi_nodestore.proofs.Onward.{texts_size}
use Rattle.ksi_nodestore.specs.Opens.{IsLogOf}
use Rattle.ksi_nodestore.specs.Takes.{count_new}

lawful_on : (cores start second : ℕ) (core : CoreState) (facts : List Fact) (row : Option What) → core.plan.cores ≡ cores → core.start ≡ start → ((t : ℕ) → stable_state (state_of core t) ≡ stored_by facts t)
    → IfSome row (λ what. IsLawful core.plan.cores core.start (stable_state (state_of core second)) (fact_of second what)) → IfSome (option_map (fact_of second) row) (λ fact. IsLawful cores start (stored_by facts fact.second) fact)
lawful_on cores start second core facts None planned begins stored may = tt
lawful_on cores start second core facts (Some what) planned begins stored may =
    subst (λ (n : ℕ). IsLawful n start (stored_by facts second) (fact_of second what)) planned
    (subst (λ (n : ℕ). IsLawful core.plan.cores n (stored_by facts second) (fact_of second what)) begins (subst (λ (s : StableState). IsLawful core.plan.cores core.start s (fact_of second what)) (stored second) may))

-- the fact that is added is lawful after those before
pub lawful_for : (cores start second : ℕ) (core : CoreState) (facts : List Fact) (row : Option What) (fact : Option Fact) → core.plan.cores ≡ cores → core.start ≡ start → ((t : ℕ) → stable_state (state_of core t) ≡ stored_by facts t) → fact ≡ option_map (fact_of second) row
    → IfSome row (λ what. IsLawful core.plan.cores core.start (stable_state (state_of core second)) (fact_of second what)) → IfSome fact (λ fact. IsLawful cores start (stored_by facts fact.second) fact)
lawful_for cores start second core facts row fact planned begins stored is may = subst (λ (f : Option Fact). IfSome f (λ fact. IsLawful cores start (stored_by facts fact.second) fact)) (sym is) (lawful_on cores start second core facts row planned begins stored may)

-- there are no more records than bytes in them
pub few_records : (records : List (List ℕ)) → length records ≤ length (records_text records)
few_records [] = omega arith
few_records (content ∷ contents) = omega (arith, few_records contents, length-append (record_text content) (records_text contents))

-- so there is room to count one more
pub room_left : (file : List ℕ) (from gate records : ℕ) (facts : List Fact) → records ≡ length facts → AreTexts facts (reading_of 18 file).records → from ≡ 18 → (reading_of from file).ending ≡ Closed gate → gate + 1 < 2 ^ 64
    → 18 + length (records_text (reading_of 18 file).records) ≡ place_of (reading_of 18 file).ending → records + 1 < 2 ^ 64
room_left file from gate records facts counted texts from_is standing within stand =
    let here : (reading_of 18 file).ending ≡ Closed gate = subst (λ (n : ℕ). (reading_of n file).ending ≡ Closed gate) from_is standing in
    omega (arith, counted, texts_size facts (reading_of 18 file).records texts, few_records (reading_of 18 file).records, stand, ap place_of here, within)

pub counted_on : (records more : ℕ) (facts : List Fact) (fact : Option Fact) → records ≡ length facts → more ≡ count_new fact → records + more ≡ length (with_new facts fact)
counted_on records more facts None counted is = omega arith
counted_on records more facts (Some fact) counted is = omega (arith, length-append facts (fact ∷ []))

-- the fact of a step is lawful after those that the core stored
pub may_go_on : (image : List ℕ → List ℕ) (plan : CorePlanState) (facts : List Fact) (core new : CoreState) (event : CoreEvent) (step : Step) → HasFacts image plan facts core → IsTurn core new (event_second event) (core_row image core event) step
    → IfSome (core_row image core event).fact (λ what. IsLawful core.plan.cores core.start (stable_state (state_of core (event_second event))) (fact_of (event_second event) what))
    → IfSome step.fact (λ fact. IsLawful plan.cores plan.start (stored_by facts fact.second) fact)
may_go_on image plan facts core new event step has turn may =
    lawful_for plan.cores plan.start (event_second event) core facts (core_row image core event).fact step.fact (ap (λ (p : CorePlanState). p.cores) has.planned) has.begins has.stored turn.fact may

-- the store of what was found in a file
pub store_found : {D : Type 0} (image : List ℕ → List ℕ) (content : D → List ℕ) (images : D → List ℕ → Type 0) (me : ℕ) (plan : CorePlanState) (facts : List Fact) (file : List ℕ) (core : CoreState) (log : GateLog D) (records : ℕ)
    → IsFileOf me plan facts file → core.me ≡ me → HasFacts image plan facts core → records ≡ length (reading_of 18 file).records → IsSettled content images log → log.from ≡ 18 → content log.disk ≡ file
    → IsStoreOf image content images me plan facts (record { core = core; log = log; records = records })
store_found image content images me plan facts file core log records is mine has counted settled from here = record {
  mine = mine;
  has = has;
  counted = counted ∙ sym (texts_size facts (reading_of 18 file).records is.are.texts);
  settled = settled;
  from = from;
  file = subst (λ (l : List ℕ). IsFileOf me plan facts l) (sym here) is;
}

-- the store after an event that adds this fact, if any
pub goes_on : {D : Type 0} (image : List ℕ → List ℕ) (content : D → List ℕ) (images : D → List ℕ → Type 0) (me : ℕ) (plan : CorePlanState) (facts : List Fact) (old : StoreState D) (core : CoreState) (log : GateLog D) (more : ℕ) (fact : Option Fact)
    → IsStoreOf image content images me plan facts old → core.me ≡ old.core.me → HasFacts image plan (with_new facts fact) core → more ≡ count_new fact → IsLogOf content images me plan (with_new facts fact) log
    → IsStoreOf image content images me plan (with_new facts fact) (record { core = core; log = log; records = old.records + more })
goes_on image content images me plan facts old core log more fact is mine has counts kept = record {
  mine = mine ∙ is.mine;
  has = has;
  counted = counted_on old.records more facts fact is.counted counts;
  settled = kept.settled;
  from = kept.from;
  file = kept.file;
}
