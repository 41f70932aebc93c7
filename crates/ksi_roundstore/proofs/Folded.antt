-- An aggregator goes on with the facts of records, and the store of what was found.
use Rattle.std.proofs.Common.{◌≡◌, ℕ, suc, ◌+◌, ◌<◌, List, [], ◌∷◌, ◌++◌, length, take, get_or, true, refl, sym, subst, ap, drop, ◌∙◌}
use Rattle.std.proofs.lemmas.List.{drop_more, take-append-drop}
use Rattle.ksi_disk.specs.Gates.{records_text}
use Rattle.std.specs.List.{AllByRecursion}
use Rattle.ksi_aggtree.specs.declared.entries.Entry.{Entry}
use Rattle.ksi_schedule.specs.Plans.{PlanState}
use Rattle.ksi_aggregator.specs.declared.fact.Fact.{Fact}
use Rattle.ksi_aggregator.specs.Rounds.{AggregatorState, rounds_of}
use Rattle.ksi_aggregator.specs.Rows.{RoundState}
use Rattle.ksi_aggregator.specs.Restored.{HasFacts, IsOfFacts}
use Rattle.ksi_disk.specs.declared.log.GateLog.{GateLog}
use Rattle.ksi_disk.specs.Logs.{IsSettled}
use Rattle.ksi_roundstore.specs.Folds.{AreFactsOf, GoesOn, HasNoFact, IsAggregatorOf, IsFault}
use Rattle.ksi_roundstore.specs.Stores.{IsFileOf, IsStoreOf}
use Rattle.ksi_roundstore.specs.Texts.{event_of}
use Rattle.ksi_roundstore.specs.Written.{AreTexts, IsWritten}
use Rattle.ksi_roundstore.proofs.Along.{taken}
use Rattle.ksi_roundstore.proofs.Onward.{texts_more}

pub texts_size : (plan : PlanState) (me : ℕ) (facts : List Fact) (records : List (List ℕ)) → AreTexts plan me facts records → length facts ≡ length records
texts_size plan me [] [] are = refl
texts_size plan me [] (c ∷ cs) are = absurd are
texts_size plan me (f ∷ fs) [] are = absurd are
texts_size plan me (f ∷ fs) (c ∷ cs) are = ap suc (texts_size plan me fs cs are.1)

pub aggregator_more : (plan : PlanState) (me : ℕ) (records : List (List ℕ)) (k : ℕ) (content : List ℕ) (old new : AggregatorState) → k < length records → content ≡ get_or records k content
    → (of : IsAggregatorOf plan me (take k records) old) → GoesOn plan me of.0 content new true → IsAggregatorOf plan me (take (k + 1) records) new
aggregator_more plan me records k content old new within is of on = (
  of.0 ++ on.0 ∷ [],
  record {
    texts = subst (λ (l : List (List ℕ)). AreTexts plan me (of.0 ++ on.0 ∷ []) l) (sym (taken records k content within is)) (texts_more plan me of.0 (take k records) on.0 content of.1.texts on.1);
    lawful = on.2;
  },
  on.3,
)

-- nothing is open in an aggregator that is made of facts
none_open : (plan : PlanState) (me : ℕ) (facts : List Fact) (aggregator : AggregatorState) → IsOfFacts me facts aggregator → (t : ℕ) → AllByRecursion (λ (entry : Entry). IsWritten plan me (event_of t entry)) (rounds_of aggregator t).open_items
none_open plan me facts aggregator of t = subst (λ (r : RoundState). AllByRecursion (λ (entry : Entry). IsWritten plan me (event_of t entry)) r.open_items) (sym (of.rounds t)) tt

pub store_found : {D : Type 0} (content : D → List ℕ) (images : D → List ℕ → Type 0) (me : ℕ) (plan : PlanState) (facts : List Fact) (file : List ℕ) (aggregator : AggregatorState) (log : GateLog D) (records : ℕ)
    → IsFileOf me plan facts file → IsOfFacts me facts aggregator → HasFacts facts (rounds_of aggregator) → IsSettled content images log → log.from ≡ 20 → content log.disk ≡ file
    → IsStoreOf content images me plan facts (record { aggregator = aggregator; log = log; records = records })
store_found content images me plan facts file aggregator log records is of has settled from here = record {
  mine = of.mine;
  has = has;
  items = none_open plan me facts aggregator of;
  settled = settled;
  from = from;
  file = subst (λ (l : List ℕ). IsFileOf me plan facts l) (sym here) is;
}

-- a record of no fact stands here
pub fault_here : (plan : PlanState) (me : ℕ) (facts : List Fact) (records : List (List ℕ)) (k place : ℕ) (content : List ℕ) → k < length records → content ≡ get_or records k content → place ≡ 20 + length (records_text (take k records))
    → AreFactsOf plan me facts (take k records) → HasNoFact plan me facts content → IsFault plan me records place
fault_here plan me facts records k place content within is here are none = record {
  facts = facts;
  before = take k records;
  content = content;
  others = drop (k + 1) records;
  are = are;
  split = sym (take-append-drop k records) ∙ ap (λ (l : List (List ℕ)). take k records ++ l) (drop_more records k content within ∙ ap (λ (c : List ℕ). c ∷ drop (k + 1) records) (sym is));
  here = here;
  none = none;
}
