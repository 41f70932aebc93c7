-- The log of an aggregator that forgets is that of one that forgot nothing.
use Rattle.std.proofs.Common.{◌≡◌, ◌∙◌, ◌≤◌, ℕ, Bool, List, [], ◌∷◌, refl, sym, ap, subst}
use Rattle.std.specs.Prelude.{◌==◌, IsTrue, map}
use Rattle.std.proofs.lemmas.Bool.{eq-eqb}
use Rattle.ksi_aggregator.specs.declared.event.RoundEvent.{RoundEvent}
use Rattle.ksi_aggregator.specs.Events.{event_second, round_row}
use Rattle.ksi_aggregator.specs.Rows.{RoundState, round_restarted}
use Rattle.ksi_schedule.specs.Plans.{PlanState}
use Rattle.ksi_world.specs.Histories.{round_message}
use Rattle.ksi_records.specs.Logs.{AggregatorAgrees, Said, Which, round_after, round_says}
use Rattle.ksi_laws_forgetting.specs.Horizon.{AreFrom, is_taken, rounds_after}
use Rattle.ksi_laws_logs.specs.RoundLogs.{RoundEntry, TookRound, RoundStarts, RoundForgets, RoundsAgree, round_deeds_of}

module _ (image : List ℕ → List ℕ) (plan : PlanState) (k : ℕ)
    (same : (before : ℕ) (rounds kept : ℕ → RoundState) (event : RoundEvent) → AreFrom before rounds kept → IsTrue (is_taken before event) → kept (event_second event) ≡ rounds (event_second event))
    (after : (before : ℕ) (rounds kept : ℕ → RoundState) (event : RoundEvent) → AreFrom before rounds kept → IsTrue (is_taken before event) →
    AreFrom before (rounds_after image rounds event) (rounds_after image kept event))
    (restart : (before : ℕ) (rounds kept : ℕ → RoundState) → AreFrom before rounds kept → AreFrom before (λ t. round_restarted (rounds t)) (λ t. round_restarted (kept t)))
    (again : (before later : ℕ) (rounds kept more : ℕ → RoundState) → before ≤ later → AreFrom before rounds kept → AreFrom later kept more → AreFrom later rounds more) where
  -- what is said of a round
  abbrev said_of : RoundEvent → RoundState → Said
  said_of event r = record { answer = (round_row image event r).answer; sent = map (round_message plan k (event_second event)) (round_row image event r).sends }

  says_same : (before : ℕ) (rounds kept : ℕ → RoundState) (event : RoundEvent) → AreFrom before rounds kept → IsTrue (is_taken before event) → round_says image plan k kept event ≡ round_says image plan k rounds event
  says_same before rounds kept event are taken = ap (said_of event) (same before rounds kept event are taken)

  own : (P Q : Type 0) → P → Which (k == k) P Q
  own P Q p = subst (λ (b : Bool). Which b P Q) (sym (eq-eqb k k refl)) p

  pub log_agrees : (entries : List RoundEntry) (before : ℕ) (rounds kept : ℕ → RoundState) → AreFrom before rounds kept → RoundsAgree image plan k before kept entries → AggregatorAgrees image plan k rounds (round_deeds_of k entries)
  log_agrees [] before rounds kept are agrees = tt
  log_agrees (TookRound event said ∷ entries) before rounds kept are agrees = own _ (AggregatorAgrees image plan k rounds (round_deeds_of k entries)) (
    agrees.1 ∙ says_same before rounds kept event are agrees.0,
    log_agrees entries before (round_after image plan rounds event) (round_after image plan kept event) (after before rounds kept event are agrees.0) agrees.2,
  )
  log_agrees (RoundStarts ∷ entries) before rounds kept are agrees = own _ (AggregatorAgrees image plan k rounds (round_deeds_of k entries))
      (log_agrees entries before (λ t. round_restarted (rounds t)) (λ t. round_restarted (kept t)) (restart before rounds kept are) agrees)
  log_agrees (RoundForgets later left ∷ entries) before rounds kept are agrees = own _ (AggregatorAgrees image plan k rounds (round_deeds_of k entries))
      (log_agrees entries later (λ t. round_restarted (rounds t)) left
      (again before later (λ t. round_restarted (rounds t)) (λ t. round_restarted (kept t)) left agrees.0 (restart before rounds kept are) agrees.1) agrees.2)
