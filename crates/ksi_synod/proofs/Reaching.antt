-- What always holds of the vote holds of all that steps can reach.
use Rattle.std.proofs.Common.{◌≡◌, ℕ, List, sym, subst, Option, Some}
use Rattle.ksi_synod.specs.declared.messages.SynodMessage.{SynodMessage}
use Rattle.ksi_synod.specs.VoteState.{VoteState}
use Rattle.ksi_synod.specs.Reached.{Said, IsStep, seals, tries, tells, takes, restarts, Reached, start, step}
use Rattle.ksi_synod.proofs.Invariant.{Holds, same_held, held_proposed}
use Rattle.ksi_synod.proofs.Steps.{Keeps_on, keeps_seal, keeps_try, keeps_tell, keeps_receive, keeps_restart, holds_first}

module _ (voters : List ℕ) where
  step_keeps : (states : ℕ → VoteState) (said : List Said) (core : ℕ) (r : VoteState × Option SynodMessage) → Holds voters states said → IsStep core (states core) said r → Keeps_on voters states said core r
  step_keeps states said core r ok (seals candidate is) = subst (λ r. Keeps_on voters states said core r) (sym is) (keeps_seal voters states said core ok candidate)
  step_keeps states said core r ok (tries small is) = subst (λ r. Keeps_on voters states said core r) (sym is) (keeps_try voters states said core ok small)
  step_keeps states said core r ok (tells is) = subst (λ r. Keeps_on voters states said core r) (sym is) (keeps_tell voters states said core ok)
  step_keeps states said core r ok (takes from m has is) = subst (λ r. Keeps_on voters states said core r) (sym is) (keeps_receive voters states said core ok from m has)
  step_keeps states said core r ok (restarts is) = subst (λ r. Keeps_on voters states said core r) (sym is) (keeps_restart voters states said core ok)

  pub reached_holds : {states : ℕ → VoteState} {said : List Said} → Reached voters states said → Holds voters states said
  reached_holds (start fresh) = holds_first voters _ fresh
  reached_holds (step {states} {states'} {said} {r} core before is others mine) = step_keeps states said core r (reached_holds before) is states' others mine

  pub reached_agree : (states : ℕ → VoteState) (said : List Said) → Reached voters states said → (one other : ℕ) (d e : List ℕ) → (states one).held ≡ Some d → (states other).held ≡ Some e → d ≡ e
  reached_agree states said reached = same_held voters states said (reached_holds reached)

  pub reached_valid : (states : ℕ → VoteState) (said : List Said) → Reached voters states said → (core : ℕ) (d : List ℕ) → (states core).held ≡ Some d → (owner : ℕ) × ((states owner).candidate ≡ Some d)
  reached_valid states said reached = held_proposed voters states said (reached_holds reached)
