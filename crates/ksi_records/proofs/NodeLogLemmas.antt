-- Entries that agree are a log of the node that agrees.
use Rattle.std.proofs.Common.{◌≡◌, ℕ, Bool, List, [], ◌∷◌, ◌++◌, Option, Some, None, IfSome, Result, Ok, Err, IfOk, refl, sym, ap, subst, ◌∙◌}
use Rattle.std.proofs.lemmas.Bool.{eq-eqb}
use Rattle.std.specs.List.{AllByRecursion}
use Rattle.ksi_records.specs.declared.blocks.place.Place.{Place}
use Rattle.ksi_schedule.specs.Pieces.{Text}
use Rattle.ksi_schedule.specs.Plans.{PlanState}
use Rattle.ksi_schedule.specs.declared.actor.Actor.{Actor}
use Rattle.ksi_schedule.specs.declared.actor.Actor.TheVariants as actors
use Rattle.ksi_corenode.specs.declared.event.CoreEvent.{CoreEvent}
use Rattle.ksi_corenode.specs.Rows.{restart_row}
use Rattle.ksi_aggregator.specs.declared.event.RoundEvent.{RoundEvent}
use Rattle.ksi_aggregator.specs.Rows.{round_restarted}
use Rattle.ksi_records.specs.Logs.{AggregatorAgrees, AtAggregator, AtCore, CoreAgrees, Deed, Which, core_after, core_says, round_after, round_says}
use Rattle.ksi_records.specs.declared.node.head.Given.TheVariants as given
use Rattle.ksi_records.specs.declared.node.head.Head.{Head}
use Rattle.ksi_records.specs.declared.node.head.Head.TheVariants as heads
use Rattle.ksi_records.specs.declared.node.verdict.Verdict.{Verdict}
use Rattle.ksi_records.specs.declared.node.verdict.Verdict.TheVariants as verdicts
use Rattle.ksi_records.specs.Node.Entries.{Entry, entry_text, log_text}
use Rattle.ksi_records.specs.Node.Runs.{NodeState, deed_with, first_state, said_to, start_of, state_behind, stores, AreWritten, IsOf, IsTold, IsWritten, LogAgrees}
use Rattle.ksi_records.specs.Node.Verdicts.{DoesAgree, HasVerdict, IsEntry, IsLog, IsVerdict, first_place, place_behind}

module _ (image : List ℕ → List ℕ) (plan : PlanState) where
  -- what the node did at an entry, and at each
  abbrev deed_of : (me : Actor) → NodeState → Head → Deed
  deed_of me it (heads.Said given) = deed_with given (said_to image plan it given)
  deed_of me it (heads.Unsaid given) = deed_with given (said_to image plan it given)
  deed_of me it heads.Restarted = start_of me

  abbrev deeds_of : (me : Actor) → NodeState → List Entry → List Deed
  deeds_of me it [] = []
  deeds_of me it (entry ∷ entries) = deed_of me it entry.head ∷ deeds_of me (state_behind image plan it entry.head) entries

  -- ---- the log of a core

  core_took : (j i : ℕ) (it : NodeState) (event : CoreEvent) (deeds : List Deed) → i ≡ j → CoreAgrees image plan j (core_after image plan i it.seconds event) deeds
      → CoreAgrees image plan j it.seconds (AtCore i event (core_says image plan i it.seconds event) ∷ deeds)
  core_took j i it event deeds own agree =
      subst (λ (i : ℕ). CoreAgrees image plan j it.seconds (AtCore i event (core_says image plan i it.seconds event) ∷ deeds)) (sym own)
      (subst (λ (b : Bool). Which b ((core_says image plan j it.seconds event ≡ core_says image plan j it.seconds event) × CoreAgrees image plan j (core_after image plan j it.seconds event) deeds) (CoreAgrees image plan j it.seconds deeds))
      (sym (eq-eqb j j refl)) (refl, subst (λ (i : ℕ). CoreAgrees image plan j (core_after image plan i it.seconds event) deeds) own agree))

  core_goes_on : (j : ℕ) (it : NodeState) (head : Head) (deeds : List Deed) → IsOf (actors.Core j) head → CoreAgrees image plan j (state_behind image plan it head).seconds deeds
      → CoreAgrees image plan j it.seconds (deed_of (actors.Core j) it head ∷ deeds)
  core_goes_on j it (heads.Said (given.ToCore i event)) deeds own agree = core_took j i it event deeds own agree
  core_goes_on j it (heads.Said (given.ToAggregator i event)) deeds own agree = absurd own
  core_goes_on j it (heads.Unsaid (given.ToCore i event)) deeds own agree = core_took j i it event deeds own agree
  core_goes_on j it (heads.Unsaid (given.ToAggregator i event)) deeds own agree = absurd own
  core_goes_on j it heads.Restarted deeds own agree =
      subst (λ (b : Bool). Which b (CoreAgrees image plan j (λ t. restart_row (it.seconds t)) deeds) (CoreAgrees image plan j it.seconds deeds)) (sym (eq-eqb j j refl)) agree

  core_log : (j : ℕ) (it : NodeState) (entries : List Entry) → AllByRecursion (IsEntry plan (actors.Core j)) entries → CoreAgrees image plan j it.seconds (deeds_of (actors.Core j) it entries)
  core_log j it [] are = tt
  core_log j it (entry ∷ entries) are =
      core_goes_on j it entry.head (deeds_of (actors.Core j) (state_behind image plan it entry.head) entries) are.0.own (core_log j (state_behind image plan it entry.head) entries are.1)

  -- ---- the log of an aggregator

  round_took : (k i : ℕ) (it : NodeState) (event : RoundEvent) (deeds : List Deed) → i ≡ k → AggregatorAgrees image plan k (round_after image plan it.rounds event) deeds
      → AggregatorAgrees image plan k it.rounds (AtAggregator i event (round_says image plan i it.rounds event) ∷ deeds)
  round_took k i it event deeds own agree =
      subst (λ (i : ℕ). AggregatorAgrees image plan k it.rounds (AtAggregator i event (round_says image plan i it.rounds event) ∷ deeds)) (sym own)
      (subst (λ (b : Bool). Which b ((round_says image plan k it.rounds event ≡ round_says image plan k it.rounds event) × AggregatorAgrees image plan k (round_after image plan it.rounds event) deeds) (AggregatorAgrees image plan k it.rounds deeds))
      (sym (eq-eqb k k refl)) (refl, agree))

  round_goes_on : (k : ℕ) (it : NodeState) (head : Head) (deeds : List Deed) → IsOf (actors.Aggregator k) head → AggregatorAgrees image plan k (state_behind image plan it head).rounds deeds
      → AggregatorAgrees image plan k it.rounds (deed_of (actors.Aggregator k) it head ∷ deeds)
  round_goes_on k it (heads.Said (given.ToAggregator i event)) deeds own agree = round_took k i it event deeds own agree
  round_goes_on k it (heads.Said (given.ToCore i event)) deeds own agree = absurd own
  round_goes_on k it (heads.Unsaid (given.ToAggregator i event)) deeds own agree = round_took k i it event deeds own agree
  round_goes_on k it (heads.Unsaid (given.ToCore i event)) deeds own agree = absurd own
  round_goes_on k it heads.Restarted deeds own agree =
      subst (λ (b : Bool). Which b (AggregatorAgrees image plan k (λ t. round_restarted (it.rounds t)) deeds) (AggregatorAgrees image plan k it.rounds deeds)) (sym (eq-eqb k k refl)) agree

  round_log : (k : ℕ) (it : NodeState) (entries : List Entry) → AllByRecursion (IsEntry plan (actors.Aggregator k)) entries → AggregatorAgrees image plan k it.rounds (deeds_of (actors.Aggregator k) it entries)
  round_log k it [] are = tt
  round_log k it (entry ∷ entries) are =
      round_goes_on k it entry.head (deeds_of (actors.Aggregator k) (state_behind image plan it entry.head) entries) are.0.own (round_log k (state_behind image plan it entry.head) entries are.1)

  log_agrees : (me : Actor) (it : NodeState) (entries : List Entry) → AllByRecursion (IsEntry plan me) entries → LogAgrees image plan me it (deeds_of me it entries)
  log_agrees (actors.Core j) it entries are = core_log j it entries are
  log_agrees (actors.Aggregator k) it entries are = round_log k it entries are

  -- ---- its text

  is_written : (me : Actor) (it : NodeState) (head : Head) (block : Text) → IsTold image plan it head block → IsWritten me head block (deed_of me it head)
  is_written me it (heads.Said given) block told = (said_to image plan it given, stores image plan it given, refl, told)
  is_written me it (heads.Unsaid given) block told = (said_to image plan it given, refl)
  is_written me it heads.Restarted block told = refl

  are_written : (me : Actor) (it : NodeState) (place : Place) (entries : List Entry) (text : Text) (count : ℕ) → IsVerdict image plan me it place entries text (verdicts.Agrees count)
      → (text ≡ log_text entries) × AllByRecursion (IsEntry plan me) entries × AreWritten me entries (deeds_of me it entries)
  are_written me it place [] text count is = (is.0, tt, tt)
  are_written me it place (entry ∷ entries) text count is =
      let rest = are_written me (state_behind image plan it entry.head) (place_behind place entry.block) entries is.0 count is.4 in
      (is.1.0 ∙ ap (λ (more : Text). entry_text entry ++ more) rest.0, (is.1.1, rest.1), (is_written me it entry.head entry.block is.3, rest.2))

  is_log : (me : Actor) (entries : List Entry) (text : Text) (verdict : Verdict) → HasVerdict image plan me entries text verdict → DoesAgree verdict → IsLog image plan me text
  is_log me entries text (verdicts.Agrees count) is agrees =
      let are = are_written me (first_state plan me) first_place entries text count is in
      record {
        entries = entries;
        deeds = deeds_of me (first_state plan me) entries;
        spelled = are.0;
        entries_are = are.1;
        written = are.2;
        agrees = log_agrees me (first_state plan me) entries are.1;
      }
  is_log me entries text (verdicts.Differs at) is agrees = absurd agrees
  is_log me entries text (verdicts.Refused fault at) is agrees = absurd agrees

  -- where the verdict is that it agrees
  pub agreeing_log : {E : Type 0} (me : Actor) (found : Result Verdict E) (known : Option Text)
      → IfOk found (λ verdict. IfSome known (λ text. (entries : List Entry) × HasVerdict image plan me entries text verdict))
      → IfOk found (λ verdict. IfSome known (λ text. DoesAgree verdict → IsLog image plan me text))
  agreeing_log me (Ok verdict) (Some text) is = is_log me is.0 text verdict is.1
  agreeing_log me (Ok verdict) None is = tt
  agreeing_log me (Err error) known is = tt
