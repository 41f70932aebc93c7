-- A store whose core restarts keeps its facts.
use Rattle.std.proofs.Common.{◌≡◌, ◌<◌, ◌∙◌, ℕ, List, [], refl, sym, ap, subst, arith}
use Rattle.ksi_aggtree.specs.Rounds.{IsRound}
use Rattle.ksi_synod.specs.CorePlans.{CorePlanState}
use Rattle.ksi_corenode.specs.declared.fact.Fact.{Fact}
use Rattle.ksi_corenode.specs.CoreState.{CoreState, state_of}
use Rattle.ksi_corenode.specs.SecondState.{SecondState}
use Rattle.ksi_corenode.specs.Facts.{stable_state}
use Rattle.ksi_corenode.specs.Rows.{restart_row}
use Rattle.ksi_corenode.specs.Restored.{HasFacts, IsWell}
use Rattle.ksi_disk.specs.Logs.{IsSettled}
use Rattle.ksi_disk.specs.declared.log.GateLog.{GateLog}
use Rattle.ksi_nodestore.specs.Crashes.{IsRestarted}
use Rattle.ksi_nodestore.specs.Stores.{IsFileOf}
use Rattle.ksi_nodestore.specs.StoreState.{IsStoreOf, StoreState}

no_round : IsRound []
no_round = record { few = omega arith; low = λ k. omega arith }

well_again : (image : List ℕ → List ℕ) (s : SecondState) → IsWell image s → IsWell image (restart_row s)
well_again image s is = record { mine = is.mine; round = no_round; submitted = refl; candidate = is.candidate; tried = is.tried; promised = is.promised }

has_again : (image : List ℕ → List ℕ) (plan : CorePlanState) (facts : List Fact) (old new : CoreState) → new.me ≡ old.me → new.plan ≡ old.plan → new.start ≡ old.start → IsRestarted old new → HasFacts image plan facts old → HasFacts image plan facts new
has_again image plan facts old new me_is plan_is start_is again has = record {
  planned = plan_is ∙ has.planned;
  begins = start_is ∙ has.begins;
  there = subst (λ n. n < new.plan.cores) (sym me_is) (subst (λ (p : CorePlanState). old.me < p.cores) (sym plan_is) has.there);
  lawful = has.lawful;
  stored = λ t. ap stable_state (again t) ∙ has.stored t;
  well = λ t. subst (IsWell image) (sym (again t)) (well_again image (state_of old t) (has.well t));
}

module _ {D : Type 0} (image : List ℕ → List ℕ) (content : D → List ℕ) (images : D → List ℕ → Type 0) (me : ℕ) (plan : CorePlanState) (facts : List Fact) (old new : StoreState D) where
  pub store_again : new.core.me ≡ old.core.me → new.core.plan ≡ old.core.plan → new.core.start ≡ old.core.start → IsRestarted old.core new.core → new.log ≡ old.log → new.records ≡ old.records
      → IsStoreOf image content images me plan facts old → IsStoreOf image content images me plan facts new
  store_again me_is plan_is start_is again log_is records_is is = record {
    mine = me_is ∙ is.mine;
    has = has_again image plan facts old.core new.core me_is plan_is start_is again is.has;
    counted = records_is ∙ is.counted;
    settled = subst (λ (log : GateLog D). IsSettled content images log) (sym log_is) is.settled;
    from = ap (λ (log : GateLog D). log.from) log_is ∙ is.from;
    file = subst (λ (log : GateLog D). IsFileOf me plan facts (content log.disk)) (sym log_is) is.file;
  }
