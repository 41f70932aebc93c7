-- Events of a round that is kept, and their turns.
use Rattle.std.proofs.Common.{◌≡◌, ◌∙◌, ℕ, ◌<◌, ◌≤◌, Bool, true, false, List, [], ◌∷◌, Some, slice_get, refl, sym, ap, subst, arith, inl, inr}
use Rattle.std.specs.Prelude.{◌==◌, if◌then◌else◌, IsTrue}
use Rattle.std.proofs.lemmas.Bool.{leb-true, eqb-true, cases_lt}
use Rattle.std.proofs.lemmas.Option.{none-some}
use Rattle.ksi_aggtree.specs.declared.entries.Entry.{Entry}
use Rattle.ksi_aggtree.specs.declared.entries.Origin.TheVariants as origins
use Rattle.ksi_aggregator.specs.declared.event.RoundEvent.{RoundEvent}
use Rattle.ksi_aggregator.specs.declared.event.RoundEvent.TheVariants as events
use Rattle.ksi_aggregator.specs.Events.{event_second, MayTake, round_row}
use Rattle.ksi_aggregator.specs.Issuing.{IsIssued, IsIssuedAt}
use Rattle.ksi_aggregator.specs.Rounds.{items_in, HasPlace}
use Rattle.ksi_aggregator.specs.Rows.{RoundState, fresh_round, round_restarted}
use Rattle.ksi_laws_forgetting.specs.Horizon.{AreFrom, AreTheSame, is_taken, rounds_after}

module _ (before : ℕ) (rounds recent : ℕ → RoundState) (are : AreFrom before rounds recent) where
  pub same_there : (event : RoundEvent) → IsTrue (is_taken before event) → recent (event_second event) ≡ rounds (event_second event)
  same_there event taken = are.kept (event_second event) (leb-true before (event_second event) taken)

  -- a round that is kept or gone has no other item
  no_more : (t k : ℕ) (entry : Entry) → slice_get (items_in (recent t)) k ≡ Some entry → slice_get (items_in (rounds t)) k ≡ Some entry
  no_more t k entry is = elim (cases_lt t before) [
    | inl early ↦ absurd (none-some entry (ap (λ (r : RoundState). slice_get (items_in r) k) (sym (are.gone t early)) ∙ is))
    | inr late ↦ subst (λ (r : RoundState). slice_get (items_in r) k ≡ Some entry) (are.kept t late) is
  ]

  pub may_there : (event : RoundEvent) → IsTrue (is_taken before event) → MayTake rounds event → MayTake recent event
  may_there (events.Request number second imprint name) taken may = λ t k item is. may t k item (no_more t k (record { origin = origins.Request number; item = item }) is)
  may_there (events.Submission from second item) taken may = may
  may_there (events.Close second) taken may = may
  may_there (events.Response second above) taken may =
      subst (λ (r : RoundState). HasPlace r above) (sym (are.kept second (leb-true before second taken))) may

  pub after_there : (image : List ℕ → List ℕ) (event : RoundEvent) → IsTrue (is_taken before event) → AreFrom before (rounds_after image rounds event) (rounds_after image recent event)
  after_there image event taken = record {
    kept = λ t late. by t late (t == event_second event);
    gone = λ t early. other t early (t == event_second event) refl;
  }
    where
      by : (t : ℕ) → before ≤ t → (here : Bool)
          → (if here then (round_row image event (recent (event_second event))).after else recent t) ≡ (if here then (round_row image event (rounds (event_second event))).after else rounds t)
      by t late true = ap (λ (r : RoundState). (round_row image event r).after) (are.kept (event_second event) (leb-true before (event_second event) taken))
      by t late false = are.kept t late

      other : (t : ℕ) → t < before → (here : Bool) → (t == event_second event) ≡ here → (if here then (round_row image event (recent (event_second event))).after else recent t) ≡ fresh_round
      other t early true same = absurd (omega (arith, early, eqb-true t (event_second event) same, leb-true before (event_second event) taken))
      other t early false apart = are.gone t early

  pub restart_there : AreFrom before (λ t. round_restarted (rounds t)) (λ t. round_restarted (recent t))
  restart_there = record {
    kept = λ t late. ap round_restarted (are.kept t late);
    gone = λ t early. ap round_restarted (are.gone t early);
  }

  pub issued_there : (image : List ℕ → List ℕ) (number second k : ℕ) (bytes : List ℕ) → before ≤ second → IsIssuedAt image (rounds second) number second k bytes → IsIssuedAt image (recent second) number second k bytes
  issued_there image number second k bytes late issued = subst (λ (r : RoundState). IsIssuedAt image r number second k bytes) (sym (are.kept second late)) issued

  none_issued : (image : List ℕ → List ℕ) (number second k : ℕ) (bytes : List ℕ) → IsIssuedAt image fresh_round number second k bytes → ⊥
  none_issued image number second k bytes issued = none-some issued.entries issued.answered.closed

  pub no_other_there : (image : List ℕ → List ℕ) (number : ℕ) (bytes : List ℕ) → IsIssued image recent number bytes → IsIssued image rounds number bytes
  no_other_there image number bytes issued = (
    issued.0,
    issued.1,
    elim (cases_lt issued.0 before) [
      | inl early ↦ absurd (none_issued image number issued.0 issued.1 bytes (subst (λ (r : RoundState). IsIssuedAt image r number issued.0 issued.1 bytes) (are.gone issued.0 early) issued.2))
      | inr late ↦ subst (λ (r : RoundState). IsIssuedAt image r number issued.0 issued.1 bytes) (are.kept issued.0 late) issued.2
    ],
  )

pub again_there : (before later : ℕ) (rounds recent more : ℕ → RoundState) → before ≤ later → AreFrom before rounds recent → AreFrom later recent more → AreFrom later rounds more
again_there before later rounds recent more le one other = record {
  kept = λ t late. other.kept t late ∙ one.kept t (omega (arith, le, late));
  gone = other.gone;
}

pub events_same : (image : List ℕ → List ℕ) (before : ℕ) (rounds recent : ℕ → RoundState) (list : List RoundEvent) → AreFrom before rounds recent → AreTheSame image before rounds recent list
events_same image before rounds recent [] are = tt
events_same image before rounds recent (event ∷ list) are = (
  same_there before rounds recent are event,
  by (λ r b each. events_same image before r b list each) (is_taken before event) refl,
)
  where
    by : ((r b : ℕ → RoundState) → AreFrom before r b → AreTheSame image before r b list) → (taken : Bool) → is_taken before event ≡ taken
        → AreTheSame image before (if taken then rounds_after image rounds event else rounds) (if taken then rounds_after image recent event else recent) list
    by next true is = next (rounds_after image rounds event) (rounds_after image recent event) (after_there before rounds recent are image event is)
    by next false is = next rounds recent are
