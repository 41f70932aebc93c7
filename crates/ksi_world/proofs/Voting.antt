-- What always holds of the vote on each second, whatever happens.
use Rattle.ksi_schedule.specs.Plans.{core_plan_of}
use Rattle.std.proofs.Common.{◌≡◌, ◌≢◌, ℕ, zero, suc, ◌<◌, ◌≤◌, ◌&&◌, eqb, List, [], ◌∷◌, ◌++◌, length, refl, sym, ap, subst, ◌∙◌, ◌⊎◌, inl, inr, Option, Some, None}
use Rattle.std.specs.Prelude.{slice_get, map, option_map}
use Rattle.std.proofs.lemmas.Bool.{cond_both, cond-true, cases_eq, eq-eqb, eqb-true, and_parts}
use Rattle.ksi_aggtree.specs.declared.entries.Entry.{Entry}
use Rattle.ksi_aggtree.specs.declared.entries.Origin.{Origin}
use Rattle.ksi_aggtree.specs.declared.entries.Origin.TheVariants as origins
use Rattle.ksi_aggtree.specs.Entries.{candidate_of}
use Rattle.ksi_synod.specs.declared.messages.SynodMessage.{SynodMessage}
use Rattle.ksi_synod.specs.declared.messages.SynodMessage.TheVariants as message
use Rattle.ksi_synod.specs.Voters.{cores_below}
use Rattle.ksi_synod.specs.CorePlans.{CorePlanState, voters_of}
use Rattle.ksi_synod.specs.VoteState.{VoteState}
use Rattle.ksi_synod.specs.Reached.{Said, says, Has, here, there, more, IsStep, Reached, step}
use Rattle.ksi_signature.specs.declared.above.Above.{Above}
use Rattle.ksi_signature.specs.declared.answer.Answer.{Answer}
use Rattle.ksi_corenode.specs.declared.step.Send as core_step
use Rattle.ksi_corenode.specs.declared.step.Send.TheVariants as core_sends
use Rattle.ksi_corenode.specs.SecondState.{SecondState}
use Rattle.ksi_corenode.specs.Turns.{Turn, still, to_each}
use Rattle.ksi_corenode.specs.Turns as turns
use Rattle.ksi_corenode.specs.Rows.{responses_from, response_to}
use Rattle.ksi_aggregator.specs.declared.step.Send as round_step
use Rattle.ksi_aggregator.specs.declared.step.Send.TheVariants as round_sends
use Rattle.ksi_schedule.specs.declared.actor.Actor.TheVariants as actors
use Rattle.ksi_schedule.specs.Plans.{PlanState}
use Rattle.ksi_world.specs.declared.message.Content.TheVariants as contents
use Rattle.ksi_world.specs.declared.message.Message.{Message}
use Rattle.ksi_world.specs.Histories.{put_at, core_message, round_message}
use Rattle.ksi_world.specs.Deciding.{IsTold}
use Rattle.ksi_world.proofs.Turning.{put_here, put_other}
use Rattle.ksi_world.proofs.Fitting.{same_function}
use Rattle.ksi_world.proofs.Sending.{get_in_either}

-- LISTS AND FUNCTIONS

pub get_before : {A : Type 0} (xs ys : List A) (k : ℕ) (x : A) → slice_get xs k ≡ Some x → slice_get (xs ++ ys) k ≡ Some x
get_before [] ys k x at = absurd (cc at)
get_before (y ∷ xs) ys zero x at = at
get_before (y ∷ xs) ys (suc k) x at = get_before xs ys k x at

pub put_same : {A : Type 0} (f : ℕ → ℕ → A) (j u : ℕ) (new : A) → put_at f j u new j u ≡ new
put_same f j u new = sym (put_here f j u new u) ∙ cond-true (eqb u u) new (f j u) (eq-eqb u u refl)

put_elsewhere : {A : Type 0} (f : ℕ → ℕ → A) (j u : ℕ) (new : A) (k t : ℕ) → (t ≡ u → ⊥) → put_at f j u new k t ≡ f k t
put_elsewhere f j u new k t other = cond_both (eqb k j && eqb t u) new (f k t) (λ s. s ≡ f k t)
    (λ both. absurd (other (eqb-true t u (and_parts (eqb k j) (eqb t u) both).1))) (λ _. refl)

-- WHAT IS SENT

-- each message of the vote among the sends is this one
abbrev pub Only : List core_step.Send → Option SynodMessage → Type 0
Only [] o = Unit {0}
Only (core_sends.Synod to m ∷ sends) o = (o ≡ Some m) × Only sends o
Only (core_sends.Response to above ∷ sends) o = Only sends o

only_each : (m : SynodMessage) (to : List ℕ) → Only (to_each to m) (Some m)
only_each m [] = tt
only_each m (k ∷ ks) = (refl, only_each m ks)

pub only_told : (core_plan : CorePlanState) (second from : ℕ) (o : Option SynodMessage) → Only (turns.told core_plan second from o) o
only_told core_plan second from None = tt
only_told core_plan second from (Some (message.LastVote l)) = (refl, tt)
only_told core_plan second from (Some (message.Voted b)) = (refl, tt)
only_told core_plan second from (Some (message.NextBallot b)) = only_each (message.NextBallot b) (voters_of core_plan second)
only_told core_plan second from (Some (message.BeginBallot b d)) = only_each (message.BeginBallot b d) (voters_of core_plan second)
only_told core_plan second from (Some (message.Success d)) = only_each (message.Success d) (cores_below core_plan.cores)

pub only_responses : (above : ℕ → Above) (k : ℕ) (entries : List Entry) (o : Option SynodMessage) → Only (responses_from above k entries) o
only_responses above k [] o = tt
only_responses above k (entry ∷ entries) o = by entry.origin (only_responses above (suc k) entries o)
  where
    by : (origin : Origin) → Only (responses_from above (suc k) entries) o → Only (response_to origin (above k) ++ responses_from above (suc k) entries) o
    by (origins.Request number) rest = rest
    by (origins.Aggregator from) rest = rest

-- what a message is that a core sent
record IsOfCore (j u : ℕ) (sends : List core_step.Send) (x : Message) : Type 0 where
  sender : x.sender ≡ actors.Core j
  second : x.second ≡ u
  vote : (o : Option SynodMessage) → Only sends o → (m : SynodMessage) → x.content ≡ contents.Synod m → o ≡ Some m

of_core : (j u : ℕ) (sends : List core_step.Send) (k : ℕ) (x : Message) → slice_get (map (core_message j u) sends) k ≡ Some x → IsOfCore j u sends x
of_core j u [] k x at = absurd (cc at)
of_core j u (core_sends.Synod to n ∷ sends) zero x at =
    let is : core_message j u (core_sends.Synod to n) ≡ x = cc at in record {
      sender = sym (ap (λ (z : Message). z.sender) is);
      second = sym (ap (λ (z : Message). z.second) is);
      vote = λ o only m content. let same : contents.Synod n ≡ contents.Synod m = ap (λ (z : Message). z.content) is ∙ content in only.0 ∙ ap Some (cc same);
    }
of_core j u (core_sends.Response to above ∷ sends) zero x at =
    let is : core_message j u (core_sends.Response to above) ≡ x = cc at in record {
      sender = sym (ap (λ (z : Message). z.sender) is);
      second = sym (ap (λ (z : Message). z.second) is);
      vote = λ o only m content. let same : contents.Response above ≡ contents.Synod m = ap (λ (z : Message). z.content) is ∙ content in absurd (cc same);
    }
of_core j u (core_sends.Synod to n ∷ sends) (suc k) x at =
    let rest = of_core j u sends k x at in record { sender = rest.sender; second = rest.second; vote = λ o only. rest.vote o only.1 }
of_core j u (core_sends.Response to above ∷ sends) (suc k) x at =
    let rest = of_core j u sends k x at in record { sender = rest.sender; second = rest.second; vote = λ o only. rest.vote o only }

-- an aggregator sent it
of_round : (plan : PlanState) (k u : ℕ) (sends : List round_step.Send) (i : ℕ) (x : Message) → slice_get (map (round_message plan k u) sends) i ≡ Some x → x.sender ≡ actors.Aggregator k
of_round plan k u [] i x at = absurd (cc at)
of_round plan k u (round_sends.Submission item ∷ sends) zero x at = let is : round_message plan k u (round_sends.Submission item) ≡ x = cc at in sym (ap (λ (z : Message). z.sender) is)
of_round plan k u (round_sends.Response to above ∷ sends) zero x at = let is : round_message plan k u (round_sends.Response to above) ≡ x = cc at in sym (ap (λ (z : Message). z.sender) is)
of_round plan k u (s ∷ sends) (suc i) x at = of_round plan k u sends i x at

-- ONE SECOND

abbrev pub Seconds : Type 0
Seconds = ℕ → ℕ → SecondState

abbrev pub votes_at : Seconds → (t k : ℕ) → VoteState
votes_at seconds t k = (seconds k t).vote

-- the messages of the vote on a second are among those said
abbrev pub Heard : List Message → (t : ℕ) → List Said → Type 0
Heard wire t said = (k : ℕ) (x : Message) → slice_get wire k ≡ Some x → x.second ≡ t → (from : ℕ) → x.sender ≡ actors.Core from → (m : SynodMessage) → x.content ≡ contents.Synod m → Has said (says from m)

told_more : (wire new : List Message) (t : ℕ) → IsTold wire t → IsTold (wire ++ new) t
told_more wire new t told = record { number = told.number; message = told.message; at = get_before wire new told.number told.message told.at; about = told.about; decisive = told.decisive }

has_more : (o : Option SynodMessage) (j : ℕ) (said : List Said) (x : Said) → Has said x → Has (more o j said) x
has_more None j said x has = has
has_more (Some m) j said x has = there has

has_new : (o : Option SynodMessage) (j : ℕ) (said : List Said) (m : SynodMessage) → o ≡ Some m → Has (more o j said) (says j m)
has_new None j said m is = absurd (cc is)
has_new (Some n) j said m is = let same : n ≡ m = cc is in subst (λ m. Has (says j n ∷ said) (says j m)) same here

module _ (image : List ℕ → List ℕ) (plan : PlanState) where
  -- the vote on a second came about by steps
  pub record IsVote (seconds : Seconds) (wire : List Message) (t : ℕ) : Type 0 where
    pub said : List Said
    pub reached : Reached (voters_of (core_plan_of plan) t) (votes_at seconds t) said
    pub heard : Heard wire t said

  -- a core of the plan has a candidate where it sealed items, and it is theirs
  pub record IsSealedSo (j : ℕ) (s : SecondState) : Type 0 where
    pub candidate : s.vote.candidate ≡ option_map (candidate_of image) s.sealed
    pub mine : (entries : List Entry) → s.sealed ≡ Some entries → j < plan.cores
    pub few : (entries : List Entry) → s.sealed ≡ Some entries → length entries ≤ 65536
    pub open_few : length s.open_items ≤ 65536

  pub record IsVoted (seconds : Seconds) (wire : List Message) : Type 0 where
    pub vote : (t : ℕ) → IsVote seconds wire t
    pub sealed : (j t : ℕ) → IsSealedSo j (seconds j t)
    pub told : (j t : ℕ) (d : List ℕ) → (seconds j t).vote.held ≡ Some d → IsTold wire t

  -- A TURN OF A CORE

  -- the turn of core j in second u is this step of the vote, or leaves the vote
  pub record IsMove (seconds : Seconds) (wire : List Message) (j u : ℕ) (turn : Turn) (r : VoteState × Option SynodMessage) : Type 0 where
    pub state : turn.after.vote ≡ r.0
    pub only : Only turn.sends r.1
    pub moves : (said : List Said) → Heard wire u said → IsStep j (seconds j u).vote said r ⊎ (r ≡ ((seconds j u).vote, None))
    pub sealed : IsSealedSo j turn.after
    pub told : (d : List ℕ) → turn.after.vote.held ≡ Some d → ((seconds j u).vote.held ≡ Some d) ⊎ IsTold wire u

  module _ (seconds : Seconds) (wire : List Message) (voted : IsVoted seconds wire) where
    module _ (j u : ℕ) (turn : Turn) (r : VoteState × Option SynodMessage) (move : IsMove seconds wire j u turn r) where
      abbrev seconds' : Seconds
      seconds' = put_at seconds j u turn.after

      abbrev wire' : List Message
      wire' = wire ++ map (core_message j u) turn.sends

      heard_here : Heard wire' u (more r.1 j (voted.vote u).said)
      heard_here k x at second from sender m content = elim (get_in_either wire (map (core_message j u) turn.sends) k x at) [
        | inl old ↦ has_more r.1 j (voted.vote u).said (says from m) ((voted.vote u).heard k x old second from sender m content)
        | inr new ↦
            let is = of_core j u turn.sends new.0 x new.1 in
            let by : j ≡ from = cc (is.sender, sender) in
            subst (λ i. Has (more r.1 j (voted.vote u).said) (says i m)) by (has_new r.1 j (voted.vote u).said m (is.vote r.1 move.only m content))
      ]

      others_here : (k : ℕ) → k ≢ j → votes_at seconds' u k ≡ votes_at seconds u k
      others_here k ne = ap (λ (s : SecondState). s.vote) (sym (put_other seconds j u turn.after k u ne))

      mine_here : votes_at seconds' u j ≡ r.0
      mine_here = ap (λ (s : SecondState). s.vote) (put_same seconds j u turn.after) ∙ move.state

      reached_here : Reached (voters_of (core_plan_of plan) u) (votes_at seconds' u) (more r.1 j (voted.vote u).said)
      reached_here = elim (move.moves (voted.vote u).said (voted.vote u).heard) [
        | inl s ↦ step j (voted.vote u).reached s others_here mine_here
        | inr quiet ↦
            subst (λ o. Reached (voters_of (core_plan_of plan) u) (votes_at seconds' u) (more o j (voted.vote u).said)) (sym (ap (λ (z : VoteState × Option SynodMessage). z.1) quiet))
            (subst (λ (states : ℕ → VoteState). Reached (voters_of (core_plan_of plan) u) states (voted.vote u).said) (same_function (votes_at seconds u) (votes_at seconds' u) (same quiet)) (voted.vote u).reached)
      ]
        where
          same : r ≡ ((seconds j u).vote, None) → (k : ℕ) → votes_at seconds u k ≡ votes_at seconds' u k
          same quiet k = elim (cases_eq k j) [
            | inl is ↦ subst (λ k. votes_at seconds u k ≡ votes_at seconds' u k) (sym is) (sym (mine_here ∙ ap (λ (z : VoteState × Option SynodMessage). z.0) quiet))
            | inr ne ↦ sym (others_here k ne)
          ]

      vote_there : (t : ℕ) → (t ≡ u → ⊥) → IsVote seconds' wire' t
      vote_there t other = record {
        said = (voted.vote t).said;
        reached = subst (λ (states : ℕ → VoteState). Reached (voters_of (core_plan_of plan) t) states (voted.vote t).said)
            (same_function (votes_at seconds t) (votes_at seconds' t) (λ k. ap (λ (s : SecondState). s.vote) (sym (put_elsewhere seconds j u turn.after k t other)))) (voted.vote t).reached;
        heard = λ k x at second from sender m content. elim (get_in_either wire (map (core_message j u) turn.sends) k x at) [
          | inl old ↦ (voted.vote t).heard k x old second from sender m content
          | inr new ↦ absurd (other (sym second ∙ (of_core j u turn.sends new.0 x new.1).second))
        ];
      }

      pub turn_voted : IsVoted seconds' wire'
      turn_voted = record {
        vote = λ t. elim (cases_eq t u) [
          | inl same ↦ subst (λ t. IsVote seconds' wire' t) (sym same) (record { said = more r.1 j (voted.vote u).said; reached = reached_here; heard = heard_here })
          | inr other ↦ vote_there t other
        ];
        sealed = λ i t. cond_both (eqb i j && eqb t u) turn.after (seconds i t) (λ s. IsSealedSo i s)
            (λ both. subst (λ i. IsSealedSo i turn.after) (sym (eqb-true i j (and_parts (eqb i j) (eqb t u) both).0)) move.sealed) (λ _. voted.sealed i t);
        told = λ i t d. cond_both (eqb i j && eqb t u) turn.after (seconds i t) (λ s. s.vote.held ≡ Some d → IsTold wire' t)
            (λ both is.
            let at_u = eqb-true t u (and_parts (eqb i j) (eqb t u) both).1 in
            subst (λ t. IsTold wire' t) (sym at_u) (told_more wire (map (core_message j u) turn.sends) u (elim (move.told d is) [ inl old ↦ voted.told j u d old | inr told ↦ told ])))
            (λ _ is. told_more wire (map (core_message j u) turn.sends) t (voted.told i t d is));
      }

    -- a turn that leaves the vote and the sealed items
    pub quiet_voted : (j u : ℕ) (turn : Turn) → turn.after.vote ≡ (seconds j u).vote → turn.after.sealed ≡ (seconds j u).sealed → length turn.after.open_items ≤ 65536 → Only turn.sends None →
        IsVoted (put_at seconds j u turn.after) (wire ++ map (core_message j u) turn.sends)
    quiet_voted j u turn same sealed few only = turn_voted j u turn ((seconds j u).vote, None) (record {
      state = same;
      only = only;
      moves = λ said heard. inr refl;
      sealed = let old = voted.sealed j u in record {
        candidate = ap (λ (v : VoteState). v.candidate) same ∙ old.candidate ∙ ap (option_map (candidate_of image)) (sym sealed);
        mine = λ entries at. old.mine entries (sym sealed ∙ at);
        few = λ entries at. old.few entries (sym sealed ∙ at);
        open_few = few;
      };
      told = λ d is. inl (ap (λ (v : VoteState). v.held) (sym same) ∙ is);
    })

    pub still_voted : (j u : ℕ) (answer : Answer) → IsVoted (put_at seconds j u (seconds j u)) (wire ++ [])
    still_voted j u answer = quiet_voted j u (still (seconds j u) answer) refl refl (voted.sealed j u).open_few tt

    -- a turn of an aggregator
    pub round_voted : (k u : ℕ) (sends : List round_step.Send) → IsVoted seconds (wire ++ map (round_message plan k u) sends)
    round_voted k u sends = record {
      vote = λ t. let vote = voted.vote t in record {
        said = vote.said;
        reached = vote.reached;
        heard = λ i x at second from sender m content. elim (get_in_either wire (map (round_message plan k u) sends) i x at) [
          | inl old ↦ vote.heard i x old second from sender m content
          | inr new ↦ absurd (cc (of_round plan k u sends new.0 x new.1, sender))
        ];
      };
      sealed = voted.sealed;
      told = λ j t d is. told_more wire (map (round_message plan k u) sends) t (voted.told j t d is);
    }
