-- A text is of one fact.
use Rattle.std.proofs.Common.{◌≡◌, ◌≢◌, ℕ, suc, List, [], ◌∷◌, ◌++◌, map, length, take, slice_get, Some, Result, Ok, Err, refl, sym, ◌∙◌, ap, arith, append_assoc, length-append}
use Rattle.std.specs.List.{AllByRecursion}
use Rattle.ksi_aggtree.specs.declared.entries.Entry.{Entry}
use Rattle.ksi_aggtree.specs.declared.entries.Origin.{Origin}
use Rattle.ksi_aggtree.specs.declared.entries.Origin.TheVariants as origins
use Rattle.ksi_aggtree.specs.declared.item.Item.{Item}
use Rattle.ksi_signature.specs.declared.above.Above.{Above}
use Rattle.ksi_aggregator.specs.declared.event.RoundEvent.{RoundEvent}
use Rattle.ksi_aggregator.specs.declared.event.RoundEvent.TheVariants as events
use Rattle.ksi_aggregator.specs.declared.fact.Fact.{Fact}
use Rattle.ksi_aggregator.specs.declared.fact.RoundFact.{RoundFact}
use Rattle.ksi_aggregator.specs.declared.fact.RoundFact.TheVariants.{Closed, Answered}
use Rattle.ksi_schedule.specs.Pieces.{Text}
use Rattle.ksi_schedule.specs.Plans.{PlanState}
use Rattle.ksi_schedule.specs.Printed.{line_of}
use Rattle.ksi_wire.specs.declared.event.AggregatorLine.{AggregatorLine}
use Rattle.ksi_wire.specs.declared.event.AggregatorLine.TheVariants as lines
use Rattle.ksi_wire.specs.declared.fault.WireFault.{WireFault}
use Rattle.ksi_wire.specs.AskedRounds.{aggregator_line_of}
use Rattle.ksi_wire.specs.RoundLines.{round_words}
use Rattle.ksi_roundstore.specs.Texts.{event_from, event_of, lines_of, what_text}
use Rattle.ksi_aggregator.specs.Lawful.{AreAdded, AreLawful, IsFit, MayStore, stored_by}
use Rattle.ksi_aggregator.specs.Facts.{StableRound}
use Rattle.ksi_roundstore.specs.StoreState.{records_in}
use Rattle.ksi_roundstore.specs.Stores.{IsFileOf}
use Rattle.ksi_roundstore.specs.Written.{AreTexts, IsPlain, IsPlainEntry, IsPlainItem, IsTextOf, IsWritten, fact_events, what_events}
use Rattle.ksi_roundstore.proofs.Cut.{cut_once, line_lacks}

-- LINES

pub lines_then : (some others : List RoundEvent) → lines_of (some ++ others) ≡ lines_of some ++ lines_of others
lines_then [] others = refl
lines_then (event ∷ some) others =
    ap (λ (l : List ℕ). line_of (round_words event) ++ 10 ∷ l) (lines_then some others)
    ∙ sym (append_assoc (line_of (round_words event)) (10 ∷ lines_of some) (lines_of others))

-- the text of a fact is the lines of its events
pub text_is_lines : (second : ℕ) (what : RoundFact) → what_text second what ≡ lines_of (what_events second what)
text_is_lines second (Closed items) = sym (lines_then (map (event_of second) items) (events.Close second ∷ []))
text_is_lines second (Answered above) = refl

-- EVENTS

abbrev event_told : RoundEvent → Result AggregatorLine WireFault → RoundEvent
event_told other (Ok (lines.Event event)) = event
event_told other (Ok (lines.Sign number)) = other
event_told other (Err fault) = other

-- no two events have one line
event_once : (plan : PlanState) (me : ℕ) (one other : RoundEvent) → IsWritten plan me one → IsWritten plan me other → line_of (round_words one) ≡ line_of (round_words other) → one ≡ other
event_once plan me one other first second is =
    ap (event_told one) (sym first.asked ∙ ap (λ (l : Text). aggregator_line_of plan me l) is ∙ second.asked)

-- FACTS BY THEIR EVENTS

abbrev all_behind : List RoundEvent → List RoundEvent
all_behind [] = []
all_behind (event ∷ list) = list

abbrev first_of : RoundEvent → List RoundEvent → RoundEvent
first_of other [] = other
first_of other (event ∷ list) = event

abbrev origin_told : RoundEvent → Origin
origin_told (events.Request number second imprint name) = origins.Request number
origin_told (events.Submission from second item) = origins.Aggregator from
origin_told (events.Close second) = origins.Request 0
origin_told (events.Response second above) = origins.Request 0

abbrev item_told : Item → RoundEvent → Item
item_told other (events.Request number second imprint name) = record { imprint = imprint; level = 0; name = name }
item_told other (events.Submission from second item) = item
item_told other (events.Close second) = other
item_told other (events.Response second above) = other

abbrev entry_told : Item → RoundEvent → Entry
entry_told other event = record { origin = origin_told event; item = item_told other event }

entry_again : (second : ℕ) (origin : Origin) (item other : Item) → IsPlainItem origin item → entry_told other (event_from second origin item) ≡ record { origin = origin; item = item }
entry_again second (origins.Request number) item other is = ap (λ (level : ℕ). record { origin = origins.Request number; item = record { imprint = item.imprint; level = level; name = item.name } }) (sym is)
entry_again second (origins.Aggregator from) item other is = refl

abbrev kind_of : RoundEvent → ℕ
kind_of (events.Request number second imprint name) = 0
kind_of (events.Submission from second item) = 0
kind_of (events.Close second) = 1
kind_of (events.Response second above) = 2

item_kind : (second : ℕ) (origin : Origin) (item : Item) → kind_of (event_from second origin item) ≡ 0
item_kind second (origins.Request number) item = refl
item_kind second (origins.Aggregator from) item = refl

abbrev second_told : RoundEvent → ℕ
second_told (events.Request number second imprint name) = second
second_told (events.Submission from second item) = second
second_told (events.Close second) = second
second_told (events.Response second above) = second

abbrev above_of : Above → RoundEvent → Above
above_of other (events.Request number second imprint name) = other
above_of other (events.Submission from second item) = other
above_of other (events.Close second) = other
above_of other (events.Response second above) = above

no_kind : {P : Type 0} (one other : RoundEvent) (k m : ℕ) → kind_of one ≡ k → kind_of other ≡ m → k ≢ m → one ≡ other → P
no_kind one other k m first second apart is = absurd (apart (sym first ∙ ap kind_of is ∙ second))

abbrev closed_events : (t : ℕ) (items : List Entry) → List RoundEvent
closed_events t items = map (event_of t) items ++ events.Close t ∷ []

-- the items of a closing are those of its events
items_once : (t u : ℕ) (one other : List Entry) → AllByRecursion IsPlainEntry one → AllByRecursion IsPlainEntry other → closed_events t one ≡ closed_events u other → (t ≡ u) × (one ≡ other)
items_once t u [] [] plain_one plain_other is = (ap (λ (l : List RoundEvent). second_told (first_of (events.Close t) l)) is, refl)
items_once t u [] (entry ∷ other) plain_one plain_other is =
    no_kind (events.Close t) (event_of u entry) 1 0 refl (item_kind u entry.origin entry.item) (λ e. absurd (cc e)) (ap (first_of (events.Close t)) is)
items_once t u (entry ∷ one) [] plain_one plain_other is =
    no_kind (event_of t entry) (events.Close u) 0 1 (item_kind t entry.origin entry.item) refl (λ e. absurd (cc e)) (ap (first_of (events.Close t)) is)
items_once t u (entry ∷ one) (next ∷ other) plain_one plain_other is =
    let rest = items_once t u one other plain_one.1 plain_other.1 (ap all_behind is) in
    let first : event_of t entry ≡ event_of u next = ap (first_of (events.Close t)) is in
    let same : entry ≡ next = sym (entry_again t entry.origin entry.item entry.item plain_one.0) ∙ ap (entry_told entry.item) first ∙ entry_again u next.origin next.item entry.item plain_other.0 in
    (rest.0, λ i. same i ∷ rest.1 i)

no_response : {P : Type 0} (t u : ℕ) (items : List Entry) (above : Above) → closed_events t items ≡ events.Response u above ∷ [] → P
no_response t u [] above is = no_kind (events.Close t) (events.Response u above) 1 2 refl refl (λ e. absurd (cc e)) (ap (first_of (events.Close t)) is)
no_response t u (entry ∷ items) above is = no_kind (event_of t entry) (events.Response u above) 0 2 (item_kind t entry.origin entry.item) refl (λ e. absurd (cc e)) (ap (first_of (events.Close t)) is)

what_once : (t u : ℕ) (one other : RoundFact) → IsPlain one → IsPlain other → what_events t one ≡ what_events u other → (t ≡ u) × (one ≡ other)
what_once t u (Closed items) (Closed others) plain_one plain_other is = let same = items_once t u items others plain_one plain_other is in (same.0, ap (λ (l : List Entry). Closed l) same.1)
what_once t u (Closed items) (Answered above) plain_one plain_other is = no_response t u items above is
what_once t u (Answered above) (Closed items) plain_one plain_other is = no_response u t items above (sym is)
what_once t u (Answered above) (Answered other) plain_one plain_other is =
    let first : events.Response t above ≡ events.Response u other = ap (first_of (events.Response t above)) is in
    (ap second_told first, ap (λ (event : RoundEvent). Answered (above_of above event)) first)

fact_once : (one other : Fact) → IsPlain one.what → IsPlain other.what → fact_events one ≡ fact_events other → one ≡ other
fact_once one other plain_one plain_other is =
    let same = what_once one.second other.second one.what other.what plain_one plain_other is in
    λ i. record { second = same.0 i; what = same.1 i }

module _ (plan : PlanState) (me : ℕ) where
  no_lines : {P : Type 0} (event : RoundEvent) (list : List RoundEvent) → lines_of (event ∷ list) ≡ [] → P
  no_lines event list is =
      let some : length (line_of (round_words event) ++ 10 ∷ lines_of list) ≡ 0 = ap (λ (l : List ℕ). length l) is in
      absurd (omega (arith, some, length-append (line_of (round_words event)) (10 ∷ lines_of list)))

  pub events_once : (one other : List RoundEvent) → AllByRecursion (IsWritten plan me) one → AllByRecursion (IsWritten plan me) other → lines_of one ≡ lines_of other → one ≡ other
  events_once [] [] first second is = refl
  events_once [] (event ∷ other) first second is = no_lines event other (sym is)
  events_once (event ∷ one) [] first second is = no_lines event one is
  events_once (event ∷ one) (next ∷ other) first second is =
      let cut = cut_once 10 (line_of (round_words event)) (line_of (round_words next)) (lines_of one) (lines_of other) (line_lacks _ first.0.line) (line_lacks _ second.0.line) is in
      let same = event_once plan me event next first.0 second.0 cut.before in
      let rest = events_once one other first.1 second.1 cut.behind in
      λ i. same i ∷ rest i

  -- FACTS

  pub one_fact : (one other : Fact) (content : List ℕ) → IsPlain one.what → IsPlain other.what → IsTextOf plan me one content → IsTextOf plan me other content → one ≡ other
  one_fact one other content plain_one plain_other first second =
      fact_once one other plain_one plain_other
      (events_once (fact_events one) (fact_events other) first.written second.written
      (sym (text_is_lines one.second one.what) ∙ sym first.text ∙ second.text ∙ text_is_lines other.second other.what))

-- A FILE

same_facts : (plan : PlanState) (me : ℕ) (facts others : List Fact) (records : List (List ℕ)) → AllByRecursion (λ fact. IsPlain fact.what) facts → AllByRecursion (λ fact. IsPlain fact.what) others
    → AreTexts plan me facts records → AreTexts plan me others records → facts ≡ others
same_facts plan me [] [] [] plain_one plain_other one other = refl
same_facts plan me [] (o ∷ os) [] plain_one plain_other one other = absurd other
same_facts plan me (f ∷ fs) [] [] plain_one plain_other one other = absurd one
same_facts plan me (f ∷ fs) (o ∷ os) [] plain_one plain_other one other = absurd one
same_facts plan me [] [] (c ∷ cs) plain_one plain_other one other = absurd one
same_facts plan me [] (o ∷ os) (c ∷ cs) plain_one plain_other one other = absurd one
same_facts plan me (f ∷ fs) [] (c ∷ cs) plain_one plain_other one other = absurd other
same_facts plan me (f ∷ fs) (o ∷ os) (c ∷ cs) plain_one plain_other one other =
    let first = one_fact plan me f o c plain_one.0 plain_other.0 one.0 other.0 in
    let rest = same_facts plan me fs os cs plain_one.1 plain_other.1 one.1 other.1 in
    λ i. first i ∷ rest i

plain_added : (front entries : List Entry) → AreAdded front entries → AllByRecursion IsPlainEntry entries
plain_added front [] are = tt
plain_added front (entry ∷ entries) are = (plain_item front entry.origin entry.item are.0.fit, plain_added (front ++ entry ∷ []) entries are.1)
  where
    plain_item : (front : List Entry) (origin : Origin) (item : Item) → IsFit front origin item → IsPlainItem origin item
    plain_item front (origins.Request number) item fit = fit
    plain_item front (origins.Aggregator from) item fit = tt

pub plain_what : (stored : ℕ → StableRound) (second : ℕ) (what : RoundFact) → MayStore stored second what → IsPlain what
plain_what stored second (Closed items) may = plain_added [] items may.added
plain_what stored second (Answered above) may = tt

plain_each : (facts : List Fact) → ((k : ℕ) (fact : Fact) → slice_get facts k ≡ Some fact → IsPlain fact.what) → AllByRecursion (λ fact. IsPlain fact.what) facts
plain_each [] each = tt
plain_each (fact ∷ facts) each = (each 0 fact refl, plain_each facts (λ k other is. each (suc k) other is))

-- lawful facts have items that their lines say whole
plain_facts : (facts : List Fact) → AreLawful facts → AllByRecursion (λ fact. IsPlain fact.what) facts
plain_facts facts lawful = plain_each facts (λ k fact is. plain_what (stored_by (take k facts)) fact.second fact.what (lawful k fact is).what)

pub one_file : (me : ℕ) (plan : PlanState) (facts others : List Fact) (file : List ℕ) → IsFileOf me plan facts file → IsFileOf me plan others file → facts ≡ others
one_file me plan facts others file one other =
    same_facts plan me facts others (records_in file) (plain_facts facts one.lawful) (plain_facts others other.lawful) one.texts other.texts
