-- A core that tries ballots until one is beyond all promises.
use Rattle.std.proofs.Common.{◌≡◌, ◌≢◌, ℕ, zero, suc, ◌+◌, ◌<◌, ◌≤◌, true, List, refl, sym, ap, subst, ◌∙◌, arith, inl, inr, Option, Some, None}
use Rattle.std.specs.Prelude.{unwrap_or, is_some, replicate}
use Rattle.std.proofs.lemmas.Bool.{cases_eq, cond-true, cond-false}
use Rattle.ksi_aggtree.specs.declared.entries.Entry.{Entry}
use Rattle.ksi_aggtree.specs.Entries.{candidate_of}
use Rattle.ksi_signature.specs.declared.answer.Answer.TheVariants as answers
use Rattle.ksi_synod.specs.declared.messages.Begun.{Begun}
use Rattle.ksi_synod.specs.Ballots.{last_round}
use Rattle.ksi_synod.specs.Voters.{is_voter}
use Rattle.ksi_synod.specs.VoteState.{VoteState, new_hand}
use Rattle.ksi_synod.specs.Rows.{greater_round, next_ballot, try_ballot}
use Rattle.ksi_corenode.specs.SecondState.{SecondState}
use Rattle.ksi_corenode.specs.Turns.{Turn, still}
use Rattle.ksi_corenode.specs.Rows.{seal_row, sealed_now, ballot_row}
use Rattle.ksi_schedule.specs.declared.event.Event.TheVariants as events
use Rattle.ksi_schedule.specs.Plans.{PlanState, core_plan_of}
use Rattle.ksi_world.specs.Histories.{WorldState, happens, run}
use Rattle.ksi_world.specs.Lasting.{AreSecondsOf}
use Rattle.ksi_laws_progress.specs.Deciding.{voters_on, vote_in, own_candidate, tries}
use Rattle.ksi_laws_progress.proofs.Rows as rows
use Rattle.ksi_laws_progress.proofs.Starting.{SameVote}
use Rattle.ksi_laws_progress.proofs.Worlds.{put_mine, put_other}
use Rattle.ksi_laws_progress.proofs.Below.{SecondsKeep}
use Rattle.ksi_laws_progress.proofs.Deciding.{sealing}

module _ (keep : SecondsKeep) (image : List ℕ → List ℕ) (plan : PlanState) (t j : ℕ) where
  -- what is so after a seal and so many ballots
  pub record IsTried (w w' : WorldState) (n : ℕ) : Type 0 where
    pub rounds : greater_round (vote_in w' j t) ≡ greater_round (vote_in w j t) + n
    pub sealed : (vote_in w' j t).candidate ≡ Some (own_candidate image w j t)
    pub own : own_candidate image w' j t ≡ own_candidate image w j t
    pub promised : (q : ℕ) → (vote_in w' q t).promised ≡ (vote_in w q t).promised
    pub vote : (q : ℕ) → (vote_in w' q t).vote ≡ (vote_in w q t).vote
    pub held : (q : ℕ) → (vote_in w' q t).held ≡ (vote_in w q t).held

  round_same : (s s' : VoteState) → SameVote s s' → greater_round s' ≡ greater_round s
  round_same s s' is = omega (arith, is.tried, is.promised)

  seal_own : (s : SecondState) → candidate_of image (unwrap_or (seal_row image s).after.sealed (seal_row image s).after.open_items) ≡ candidate_of image (unwrap_or s.sealed s.open_items)
  unfolding seal_row
  seal_own s = by s.sealed refl
    where
      Own : Turn → Type 0
      Own turn = candidate_of image (unwrap_or turn.after.sealed turn.after.open_items) ≡ candidate_of image (unwrap_or s.sealed s.open_items)

      by : (o : Option (List Entry)) → s.sealed ≡ o → Own (seal_row image s)
      by None is = subst Own (sym (cond-false (is_some s.sealed) (still s answers.Sealed) (sealed_now image s) (ap is_some is))) (sym (ap (λ o. candidate_of image (unwrap_or o s.open_items)) is))
      by (Some entries) is = subst Own (sym (cond-true (is_some s.sealed) (still s answers.Sealed) (sealed_now image s) (ap is_some is))) refl

  -- what a step of core j leaves there, it leaves everywhere
  keeps : {X : Type 0} (w' w'' : WorldState) (new : VoteState) → vote_in w'' j t ≡ new → ((q : ℕ) → q ≢ j → vote_in w'' q t ≡ vote_in w' q t) →
      (f : VoteState → X) → f new ≡ f (vote_in w' j t) → (q : ℕ) → f (vote_in w'' q t) ≡ f (vote_in w' q t)
  keeps w' w'' new mine others f so q = elim (cases_eq q j) [
    | inl same ↦ subst (λ q. f (vote_in w'' q t) ≡ f (vote_in w' q t)) (sym same) (ap f mine ∙ so)
    | inr other ↦ ap f (others q other)
  ]

  -- one ballot more
  ballot_tried : (w w' : WorldState) (n : ℕ) → AreSecondsOf image plan w'.seconds → j < 16 → greater_round (vote_in w j t) + n < last_round → IsTried w w' n →
      IsTried w (happens image plan w' (events.Ballot j t)).world (suc n)
  unfolding happens ballot_row
  ballot_tried w w' n own low short is =
      let s = w'.seconds j t in
      let v = s.vote in
      let w'' = (happens image plan w' (events.Ballot j t)).world in
      let turn = ballot_row (core_plan_of plan) t j s in
      let tried : try_ballot v ≡ _ = rows.tries v (own_candidate image w j t) is.sealed (λ last. omega (arith, is.rounds, last, short)) in
      let mine : vote_in w'' j t ≡ record v { tried = next_ballot v; hand = Some (new_hand (next_ballot v)) } = ap (λ (s : SecondState). s.vote) (put_mine w'.seconds j t turn.after) ∙ ap (λ (r : VoteState × Begun). r.0) tried in
      let others : (q : ℕ) → q ≢ j → vote_in w'' q t ≡ vote_in w' q t = λ q other. ap (λ (s : SecondState). s.vote) (put_other w'.seconds j t turn.after q t other) in
      let next : VoteState = record v { tried = next_ballot v; hand = Some (new_hand (next_ballot v)) } in
      record {
        rounds = ap greater_round mine ∙ one_more v (omega (arith, (own j t).vote.me_is, low)) ∙ omega (arith, is.rounds);
        sealed = ap (λ (v : VoteState). v.candidate) mine ∙ is.sealed;
        own = ap (λ (s : SecondState). candidate_of image (unwrap_or s.sealed s.open_items)) (put_mine w'.seconds j t turn.after) ∙ is.own;
        promised = λ q. keeps w' w'' next mine others (λ v. v.promised) refl q ∙ is.promised q;
        vote = λ q. keeps w' w'' next mine others (λ v. v.vote) refl q ∙ is.vote q;
        held = λ q. keeps w' w'' next mine others (λ v. v.held) refl q ∙ is.held q;
      }
    where
      one_more : (v : VoteState) → v.me < 16 → greater_round (record v { tried = next_ballot v; hand = Some (new_hand (next_ballot v)) }) ≡ greater_round v + 1
      one_more v low = omega arith

  ballots_tried : (n m : ℕ) (w w' : WorldState) → AreSecondsOf image plan w'.seconds → j < 16 → greater_round (vote_in w j t) + (m + n) ≤ last_round → IsTried w w' m →
      IsTried w (run image plan w' (replicate n (events.Ballot j t))) (m + n)
  ballots_tried zero m w w' own low short is = let same : m ≡ m + 0 = omega arith in subst (IsTried w w') same is
  ballots_tried (suc n) m w w' own low short is =
      let same : suc m + n ≡ m + suc n = omega arith in
      subst (IsTried w (run image plan (happens image plan w' (events.Ballot j t)).world (replicate n (events.Ballot j t)))) same
      (ballots_tried n (suc m) w (happens image plan w' (events.Ballot j t)).world (keep.event image plan w' (events.Ballot j t) own) low (omega (arith, short))
      (ballot_tried w w' m own low (omega (arith, short)) is))

  -- THE SEAL
  module _ (small : (q : ℕ) → is_voter (voters_on plan t) q ≡ true → q < 9) (w : WorldState) (own : AreSecondsOf image plan w.seconds) where
    abbrev w1 : WorldState
    w1 = (happens image plan w (events.Seal j t)).world

    seal_tried : IsTried w w1 0
    unfolding happens sealing
    seal_tried =
        let is = sealing image plan t small w own j in
        record {
          rounds = round_same (vote_in w j t) (vote_in w1 j t) (is.state j) ∙ omega arith;
          sealed = is.sealed;
          own = ap (λ (s : SecondState). candidate_of image (unwrap_or s.sealed s.open_items)) (put_mine w.seconds j t (seal_row image (w.seconds j t)).after) ∙ seal_own (w.seconds j t);
          promised = λ q. (is.state q).promised;
          vote = λ q. (is.state q).vote;
          held = λ q. (is.state q).held;
        }

    pub all_tried : (n : ℕ) → j < 16 → greater_round (vote_in w j t) + n ≤ last_round → IsTried w (run image plan w (tries j t n)) n
    all_tried n low short =
        let same : 0 + n ≡ n = omega arith in
        subst (IsTried w (run image plan w (tries j t n))) same (ballots_tried n 0 w w1 (keep.event image plan w (events.Seal j t) own) low (omega (arith, short)) seal_tried)
