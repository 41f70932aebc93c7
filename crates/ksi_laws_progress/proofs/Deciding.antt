-- A ballot that a majority answers decides, in a whole infrastructure.
use Rattle.std.proofs.Common.{◌+◌, ◌≡◌, ℕ, ◌<◌, true, List, [], ◌∷◌, ◌++◌, length, map, refl, sym, ap, subst, ◌∙◌, inl, inr, Option, Some, None}
use Rattle.std.specs.Prelude.{unwrap_or, is_some, option_map}
use Rattle.std.proofs.lemmas.Bool.{cases_eq, cond-true, cond-false}
use Rattle.std.proofs.lemmas.List.{append-nil}
use Rattle.ksi_aggtree.specs.declared.entries.Entry.{Entry}
use Rattle.ksi_aggtree.specs.Entries.{candidate_of}
use Rattle.ksi_signature.specs.declared.answer.Answer.TheVariants as answers
use Rattle.ksi_synod.specs.Voters.{is_voter}
use Rattle.ksi_synod.specs.VoteState.{VoteState}
use Rattle.ksi_synod.specs.Rows.{seal}
use Rattle.ksi_corenode.specs.SecondState.{SecondState}
use Rattle.ksi_corenode.specs.Turns.{Turn, still}
use Rattle.ksi_corenode.specs.Rows.{seal_row, sealed_now}
use Rattle.ksi_schedule.specs.declared.event.Event.{Event}
use Rattle.ksi_schedule.specs.declared.event.Event.TheVariants as events
use Rattle.ksi_schedule.specs.Plans.{PlanState}
use Rattle.ksi_schedule.specs.Events.{AreEvents}
use Rattle.ksi_world.specs.declared.message.Message.{Message}
use Rattle.ksi_world.specs.Histories.{WorldState, core_message, held_in, happens, run, first_world, after}
use Rattle.ksi_world.specs.Lasting.{IsSecondOf, AreSecondsOf}
use Rattle.ksi_laws_progress.specs.Numbers.{ballot_numbers}
use Rattle.ksi_laws_progress.specs.Majorities.{AreDistinct, IsMajority, IsLeast, greatest_from, root_by}
use Rattle.ksi_laws_progress.specs.Deciding.{voters_on, vote_in, own_candidate, IsAhead, ballot_events}
use Rattle.ksi_laws_progress.proofs.Gathering.{OfVote}
use Rattle.ksi_laws_progress.proofs.Rows.{seal_leaves, seal_sets}
use Rattle.ksi_laws_progress.proofs.Starting.{SameVote, same_vote, Sealing, holds}
use Rattle.ksi_laws_progress.proofs.Worlds.{put_mine, put_other, votes, wire, letter, deliver, takes, ballot_step, run_deliver}

-- RUNS

pub are_both : (plan : PlanState) (xs ys : List Event) → AreEvents plan xs → AreEvents plan ys → AreEvents plan (xs ++ ys)
are_both plan [] ys are are' = are'
are_both plan (x ∷ xs) ys are are' = (are.0, are_both plan xs ys are.1 are')

module _ (image : List ℕ → List ℕ) (plan : PlanState) where
  pub run-append : (es later : List Event) (w : WorldState) → run image plan w (es ++ later) ≡ run image plan (run image plan w es) later
  run-append [] later w = refl
  run-append (e ∷ es) later w = run-append es later (happens image plan w e).world

  pub after-append : (es later : List Event) → after image plan (es ++ later) ≡ run image plan (after image plan es) later
  unfolding after
  after-append es later = run-append es later (first_world plan)

  -- SEAL

  seal_same : (s : VoteState) (c : List ℕ) → SameVote s (seal s c)
  seal_same s c = record {
    me = seal_leaves (λ s. s.me) (λ s o. refl) s c;
    voters = seal_leaves (λ s. s.voters) (λ s o. refl) s c;
    tried = seal_leaves (λ s. s.tried) (λ s o. refl) s c;
    promised = seal_leaves (λ s. s.promised) (λ s o. refl) s c;
    vote = seal_leaves (λ s. s.vote) (λ s o. refl) s c;
    held = seal_leaves (λ s. s.held) (λ s o. refl) s c;
  }

  pub record IsSealedTurn (s : SecondState) (turn : Turn) : Type 0 where
    pub is : turn.after.vote.candidate ≡ Some (candidate_of image (unwrap_or s.sealed s.open_items))
    pub same : SameVote s.vote turn.after.vote
    pub none : turn.sends ≡ []

  pub sealing_turn : (voters : List ℕ) (k : ℕ) (s : SecondState) → IsSecondOf image voters k s → IsSealedTurn s (seal_row image s)
  unfolding seal_row
  sealing_turn voters k s own = by s.sealed refl
    where
      old : (entries : List Entry) → s.sealed ≡ Some entries → IsSealedTurn s (still s answers.Sealed)
      old entries is = record { is = own.candidate ∙ ap (option_map (candidate_of image)) is ∙ sym (ap (λ o. Some (candidate_of image (unwrap_or o s.open_items))) is); same = same_vote s.vote; none = refl }

      new : s.sealed ≡ None → IsSealedTurn s (sealed_now image s)
      new is = record {
        is = seal_sets s.vote (candidate_of image s.open_items) (own.candidate ∙ ap (option_map (candidate_of image)) is) ∙ sym (ap (λ o. Some (candidate_of image (unwrap_or o s.open_items))) is);
        same = seal_same s.vote (candidate_of image s.open_items);
        none = refl;
      }

      by : (o : Option (List Entry)) → s.sealed ≡ o → IsSealedTurn s (seal_row image s)
      by None is = subst (IsSealedTurn s) (sym (cond-false (is_some s.sealed) (still s answers.Sealed) (sealed_now image s) (ap is_some is))) (new is)
      by (Some entries) is = subst (IsSealedTurn s) (sym (cond-true (is_some s.sealed) (still s answers.Sealed) (sealed_now image s) (ap is_some is))) (old entries is)

  module _ (t : ℕ) (small : (q : ℕ) → is_voter (voters_on plan t) q ≡ true → q < 9) (w : WorldState) (are : AreSecondsOf image plan w.seconds) (j : ℕ) where
    abbrev pub w1 : WorldState
    w1 = (happens image plan w (events.Seal j t)).world

    abbrev pub w2 : WorldState
    w2 = (happens image plan w1 (events.Ballot j t)).world

    unfoldable pub sealing : Sealing WorldState Message (votes image plan t) (wire image plan t) (letter image plan t) (deliver image plan t) (voters_on plan t) plan.cores (takes image plan t) small j w w1
    unfolding happens
    sealing =
        let turn = seal_row image (w.seconds j t) in
        let is = sealing_turn (voters_on plan t) j (w.seconds j t) (are j t) in
        let mine : (w1.seconds j t) ≡ turn.after = put_mine w.seconds j t turn.after in
        record {
          candidate = own_candidate image w j t;
          sealed = ap (λ (s : SecondState). s.vote.candidate) mine ∙ is.is;
          state = λ k. elim (cases_eq k j) [
            | inl same ↦ subst (λ k. SameVote (vote_in w k t) (vote_in w1 k t)) (sym same) (subst (λ (s : SecondState). SameVote (vote_in w j t) s.vote) (sym mine) is.same)
            | inr other ↦ subst (λ (s : SecondState). SameVote (vote_in w k t) s.vote) (sym (put_other w.seconds j t turn.after k t other)) (same_vote (vote_in w k t))
          ];
          posted = ap (λ sends. w.wire ++ map (core_message j t) sends) is.none ∙ append-nil w.wire;
        }

    -- what a ballot leaves: each core holds what it held, or else the decree
    pub record IsDecided (Good : List ℕ → Type 0) (some : List ℕ) : Type 0 where
      pub decree : List ℕ
      pub is_good : Good decree
      pub held : (k : ℕ) → k < plan.cores → held_in (run image plan w (ballot_events plan w j t some)) k t ≡ Some (unwrap_or (held_in w k t) decree)
      pub sent : length (run image plan w (ballot_events plan w j t some)).wire ≡ length w.wire + length (voters_on plan t) + length some + length (voters_on plan t) + length some + plan.cores
      pub exact : AreDistinct (voters_on plan t) → IsLeast (voters_on plan t) some → decree ≡ root_by (greatest_from (λ q. (vote_in w q t).vote) None some) (own_candidate image w j t)

    -- after the ballot each core holds what it held, or else a decree that is good, where the candidate and all votes are
    pub all_hold : (Good : List ℕ → Type 0) (some : List ℕ) → IsMajority (voters_on plan t) some → IsAhead w j t some → Good (own_candidate image w j t) →
        ((q : ℕ) → is_voter some q ≡ true → OfVote Good (vote_in w q t).vote) →
        IsDecided Good some
    unfolding sealing
    all_hold Good some majority ahead good likes =
        let h = holds WorldState Message (votes image plan t) (wire image plan t) (letter image plan t) (deliver image plan t) (voters_on plan t) plan.cores (takes image plan t) small j
        Good some majority w w1 w2 (λ k. (are k t).vote) sealing good likes ahead.more ahead.beyond (ballot_step image plan t w1 j) in
        let ran = run_deliver image plan t (ballot_numbers (length w.wire) (voters_on plan t) some plan.cores) w2 in
        record {
          decree = h.decree;
          is_good = h.is_good;
          held = λ k lt. ap (λ (w : WorldState). held_in w k t) ran ∙ h.each k lt;
          sent = ap (λ (w : WorldState). length w.wire) ran ∙ h.sent;
          exact = h.exact;
        }
