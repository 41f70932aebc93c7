-- Each row of the step table keeps what always holds of the vote on one second.
use Rattle.std.proofs.Common.{◌≡◌, ◌≢◌, ℕ, ◌+◌, ◌*◌, ◌%◌, ◌<◌, ◌≤◌, Bool, true, false, not, is_some, ◌&&◌, eqb, ltb, List, [], ◌∷◌, set, refl, sym, ap, subst, ◌∙◌, arith, ◌⊎◌, inl, inr, Option, Some, None}
use Rattle.std.specs.Prelude.{unwrap_or}
use Rattle.std.proofs.lemmas.Bool.{cases_eq, cases_lt, cond_both, ltb-true, ltb-false, eqb-true, and_parts, false≢true}
use Rattle.std.proofs.lemmas.List.{get_or-set_other, get_or-replicate, get_or_past, length-replicate}
use Rattle.ksi_synod.specs.declared.messages.Vote.{Vote}
use Rattle.ksi_synod.specs.declared.messages.LastVote.{LastVote}
use Rattle.ksi_synod.specs.declared.messages.SynodMessage.{SynodMessage}
use Rattle.ksi_synod.specs.declared.messages.SynodMessage.TheVariants as message
use Rattle.ksi_synod.specs.declared.messages.Took.{Took}
use Rattle.ksi_synod.specs.declared.messages.Begun.{Begun}
use Rattle.ksi_synod.specs.Voters.{is_voter, is_flagged, no_flags, is_majority}
use Rattle.ksi_synod.specs.VoteState.{VoteState, Hand, fresh_vote, new_hand}
use Rattle.ksi_synod.specs.Ballots.{last_round}
use Rattle.ksi_synod.specs.Rows.{sealed_with, greater_round, next_ballot, try_ballot, try_ballot_of, on_next, greater_vote, counts_last, with_last, decree_of, decree_now, begun_with, on_last, on_last_of, is_older, on_begin, voted_for, with_voted, completes, on_voted, on_voted_of, on_voted_for, on_success, on_success_of, restarted, promise_told, decree_begun, vote_told, decree_told, receive, seal, seal_of, ballot_told, held_told}
use Rattle.ksi_synod.proofs.Majorities.{IsMajority}
use Rattle.ksi_synod.specs.Reached.{Said, says, Has, here, more}
use Rattle.ksi_synod.proofs.Invariant.{Has-cases, BegunIn, Covers, Chosen, AtMost, Keeps, LastIn, IsHand, IsVoteState, IsLast, IsSafe, IsBegin, IsMessage, Holds}
use Rattle.ksi_synod.proofs.Keeping.{Grows, grows_refl, IsVoteState-there, Chosen-there, BegunIn-there, IsHand-there, said_more, states_change}

-- FLAGS

no_flag : (k : ℕ) → is_flagged no_flags k ≡ true → ⊥
no_flag k flagged = elim (cases_lt k 9) [
  | inl lt ↦ false≢true (sym (get_or-replicate 9 k false false lt) ∙ flagged)
  | inr ge ↦ false≢true (sym (get_or_past no_flags k false (omega (arith, length-replicate 9 false))) ∙ flagged)
]

-- a flag after one was set was set before, or is that one
set_flag : (flags : List Bool) (from k : ℕ) → is_flagged (set flags from true) k ≡ true → (k ≡ from) ⊎ (is_flagged flags k ≡ true)
set_flag flags from k flagged = elim (cases_eq k from) [
  | inl same ↦ inl same
  | inr other ↦ inr (sym (get_or-set_other flags from k true false other) ∙ flagged)
]

-- VOTES

covers_more : (c : ℕ) (old new : Option Vote) → Covers c old → Covers c (greater_vote old new)
covers_more c None new h = absurd h
covers_more c (Some v) None h = h
covers_more c (Some v) (Some w) h = cond_both (ltb v.ballot w.ballot) (Some w) (Some v) (λ o. Covers c o) (λ t. let lt : v.ballot < w.ballot = ltb-true _ _ t in omega arith) (λ _. h)

at_most_old : (v old new : Option Vote) → AtMost v old → AtMost v (greater_vote old new)
at_most_old None old new h = tt
at_most_old (Some v) old new h = covers_more v.ballot old new h

at_most_new : (old new : Option Vote) → AtMost new (greater_vote old new)
at_most_new old None = tt
at_most_new None (Some w) = omega arith
at_most_new (Some v) (Some w) = cond_both (ltb v.ballot w.ballot) (Some w) (Some v) (λ o. Covers w.ballot o) (λ _. omega arith) (λ f. ltb-false v.ballot w.ballot f)

greater_is : (old new : Option Vote) (v : Vote) → greater_vote old new ≡ Some v → (old ≡ Some v) ⊎ (new ≡ Some v)
greater_is None new v is = inr is
greater_is (Some o) None v is = inl is
greater_is (Some o) (Some n) v is = cond_both (ltb o.ballot n.ballot) (Some n) (Some o) (λ r. r ≡ Some v → (Some o ≡ Some v) ⊎ (Some n ≡ Some v)) (λ _ is. inr is) (λ _ is. inl is) is

ballot_owner : (k me j : ℕ) → me ≡ j → j < 16 → (16 * k + me) % 16 ≡ j
ballot_owner k me j e small = omega arith

covers_at_most : (c : ℕ) (v g : Option Vote) → Covers c v → AtMost v g → Covers c g
covers_at_most c None g h most = absurd h
covers_at_most c (Some v) None h most = absurd most
covers_at_most c (Some v) (Some g) h most = omega arith

-- the hand with one more LastVote
hand_with_last : (said : List Said) (j tried : ℕ) (h : Hand) (from : ℕ) (vote : Option Vote) → Has said (says from (message.LastVote (record { ballot = h.ballot; vote = vote }))) →
    IsHand said j tried h → IsHand said j tried (with_last h from vote)
hand_with_last said j tried h from vote has is = record {
  ballot = is.ballot;
  positive = is.positive;
  last = λ k flagged. elim (set_flag h.last from k flagged) [
    | inl same ↦ subst (λ i. LastIn said i h.ballot (greater_vote h.greatest vote)) (sym same) (record { vote = vote; has = has; at_most = at_most_new h.greatest vote })
    | inr before ↦ let old = is.last k before in record { vote = old.vote; has = old.has; at_most = at_most_old old.vote h.greatest vote old.at_most }
  ];
  greatest = λ v e. elim (greater_is h.greatest vote v e) [
    | inl old ↦ is.greatest v old
    | inr new ↦ (from, subst (λ o. Has said (says from (message.LastVote (record { ballot = h.ballot; vote = o })))) new has)
  ];
  decree = is.decree;
  voted = is.voted;
}

-- the hand with one more Voted
hand_with_voted : (said : List Said) (j tried : ℕ) (h : Hand) (from : ℕ) → Has said (says from (message.Voted h.ballot)) → IsHand said j tried h → IsHand said j tried (with_voted h from)
hand_with_voted said j tried h from has is = record {
  ballot = is.ballot;
  positive = is.positive;
  last = is.last;
  greatest = is.greatest;
  decree = is.decree;
  voted = λ k flagged. elim (set_flag h.voted from k flagged) [
    | inl same ↦ subst (λ i. Has said (says i (message.Voted h.ballot))) (sym same) has
    | inr before ↦ is.voted k before
  ];
}

-- the test on flags is the majority
majority_is : (voters : List ℕ) (flags : List Bool) → is_majority voters flags ≡ true → IsMajority voters (is_flagged flags)
majority_is voters flags t = ltb-true _ _ t

-- ONE STEP OF CORE j, from the states to the states'

-- a message that is no BeginBallot is said, and the states stay
say : (voters : List ℕ) (states : ℕ → VoteState) (said : List Said) (j : ℕ) → Holds voters states said → (m : SynodMessage) →
    ((c : ℕ) → message.Voted c ≡ m → Covers c (states j).vote × ((states j).promised ≤ c)) →
    ((l : LastVote) → message.LastVote l ≡ m → l.ballot ≤ (states j).promised) →
    ((b : ℕ) (d : List ℕ) → message.BeginBallot b d ≡ m → ⊥) →
    IsMessage voters states said j m → Holds voters states (says j m ∷ said)
say voters states said j ok m voted told no_begin own =
    said_more (says j m) said states states (λ k. grows_refl (states k))
    (λ k c is. subst (λ i. (states i).promised ≤ c) (by is) (voted c (what is)).1)
    voters ok
    (λ k. IsVoteState-there (says j m) said voters k (states k) (ok.state k) (record {
      voted = λ c is. subst (λ i. Covers c (states i).vote) (by is) (voted c (what is)).0;
      told = λ l is. subst (λ i. l.ballot ≤ (states i).promised) (by is) (told l (what is));
      begun = λ b d is. absurd (no_begin b d (what is));
    }))
    (λ k b d e _ is. absurd (no_begin b e (what is)))
    (λ l is. told l (sym is))
    own
  where
    by : {k : ℕ} {n : SynodMessage} → says k n ≡ says j m → j ≡ k
    by is = sym (ap (λ z. z.by) is)

    what : {k : ℕ} {n : SynodMessage} → says k n ≡ says j m → n ≡ m
    what is = ap (λ z. z.what) is

module _ (voters : List ℕ) (states states' : ℕ → VoteState) (said : List Said) (j : ℕ) (ok : Holds voters states said) (others : (k : ℕ) → k ≢ j → states' k ≡ states k) where
  grows_all : Grows (states j) (states' j) → (k : ℕ) → Grows (states k) (states' k)
  grows_all g k = elim (cases_eq k j) [
    | inl same ↦ subst (λ i. Grows (states i) (states' i)) (sym same) g
    | inr other ↦ subst (λ s. Grows (states k) s) (sym (others k other)) (grows_refl (states k))
  ]

  -- the state changes, and nothing is said
  change : (new : VoteState) → states' j ≡ new → Grows (states j) new → IsVoteState voters said j new → Holds voters states' said
  change new mine g is = states_change voters states states' said (grows_all (subst (λ s. Grows (states j) s) (sym mine) g)) ok (λ k. elim (cases_eq k j) [
    | inl same ↦ subst (λ i. IsVoteState voters said i (states' i)) (sym same) (subst (λ s. IsVoteState voters said j s) (sym mine) is)
    | inr other ↦ subst (λ s. IsVoteState voters said k s) (sym (others k other)) (ok.state k)
  ])

  -- nothing happens
  stay : states' j ≡ states j → Holds voters states' said
  stay mine = change (states j) mine (grows_refl (states j)) (ok.state j)

  -- NextBallot(b), where b is above the promise
  next_taken : (b : ℕ) → (states j).promised < b → states' j ≡ record (states j) { promised = b } →
      Holds voters states' (says j (message.LastVote (record { ballot = b; vote = (states j).vote })) ∷ said)
  next_taken b above mine =
      say voters states' said j now (message.LastVote (record { ballot = b; vote = s.vote }))
      (λ c m. absurd (cc m)) (λ l m. told l m) (λ _ _ m. absurd (cc m)) own
    where
      s : VoteState
      s = states j

      is : IsVoteState voters said j s
      is = ok.state j

      now : Holds voters states' said
      now = change (record s { promised = b }) mine (record { promised = omega arith; candidate = λ d e. e }) (record {
        voters_are = is.voters_are;
        me_is = is.me_is;
        owner = is.owner;
        cast = λ v e. ((is.cast v e).0, omega (arith, (is.cast v e).1));
        voted = is.voted;
        told = λ l has. omega (arith, is.told l has);
        begun = is.begun;
        in_hand = is.in_hand;
        held = is.held;
      })

      told : (l : LastVote) → message.LastVote l ≡ message.LastVote (record { ballot = b; vote = s.vote }) → l.ballot ≤ (states' j).promised
      told l m =
          let e : l ≡ record { ballot = b; vote = s.vote } = cc m in
          let f : (states' j).promised ≡ b = ap (λ z. z.promised) mine in
          omega (arith, ap (λ z. z.ballot) e, f)

      own : IsLast said j (record { ballot = b; vote = s.vote })
      own = record {
        covers = λ c has lt. is.voted c has;
        begun = λ v e. ((is.cast v e).0, omega (arith, (is.cast v e).1));
      }

  -- BeginBallot(b, d), where b is the promise and the vote is older
  begin_taken : (b : ℕ) (d : List ℕ) → BegunIn said b d → b ≡ (states j).promised → is_older (states j).vote b ≡ true →
      states' j ≡ record (states j) { vote = Some (record { ballot = b; imprint = d }) } → Holds voters states' (says j (message.Voted b) ∷ said)
  begin_taken b d begun at older mine =
      say voters states' said j now (message.Voted b) (λ c m. voted c m) (λ _ m. absurd (cc m)) (λ _ _ m. absurd (cc m)) tt
    where
      s : VoteState
      s = states j

      is : IsVoteState voters said j s
      is = ok.state j

      after : (o : Option Vote) → is_older o b ≡ true → (c : ℕ) → Covers c o → c ≤ b
      after None t c h = absurd h
      after (Some v) t c h = let lt : v.ballot < b = ltb-true v.ballot b t in omega arith

      now : Holds voters states' said
      now = change (record s { vote = Some (record { ballot = b; imprint = d }) }) mine (record { promised = omega arith; candidate = λ d e. e }) (record {
        voters_are = is.voters_are;
        me_is = is.me_is;
        owner = is.owner;
        cast = λ v e. let same : v ≡ record { ballot = b; imprint = d } = cc e in subst (λ w. BegunIn said w.ballot w.imprint × (w.ballot ≤ s.promised)) (sym same) (begun, omega arith);
        voted = λ c has. after s.vote older c (is.voted c has);
        told = is.told;
        begun = is.begun;
        in_hand = is.in_hand;
        held = is.held;
      })

      voted : (c : ℕ) → message.Voted c ≡ message.Voted b → Covers c (states' j).vote × ((states' j).promised ≤ c)
      voted c m =
          let e : c ≡ b = cc m in
          subst (λ z. Covers c z.vote × (z.promised ≤ c)) (sym mine) (omega arith, omega arith)

  -- Success(d)
  success_taken : (d : List ℕ) → Chosen voters said d → states' j ≡ record (states j) { held = Some d } → Holds voters states' said
  success_taken d chosen mine = change (record (states j) { held = Some d }) mine (record { promised = omega arith; candidate = λ d e. e }) (record {
    voters_are = is.voters_are;
    me_is = is.me_is;
    owner = is.owner;
    cast = is.cast;
    voted = is.voted;
    told = is.told;
    begun = is.begun;
    in_hand = is.in_hand;
    held = λ e same. let at : d ≡ e = cc same in subst (λ z. Chosen voters said z) at chosen;
  })
    where
      is : IsVoteState voters said j (states j)
      is = ok.state j

  -- restart
  restart_taken : states' j ≡ restarted (states j) → Holds voters states' said
  restart_taken mine = change (restarted (states j)) mine (record { promised = omega arith; candidate = λ d e. e }) (record {
    voters_are = is.voters_are;
    me_is = is.me_is;
    owner = is.owner;
    cast = is.cast;
    voted = is.voted;
    told = is.told;
    begun = λ b d has. ((is.begun b d has).0, λ _. tt);
    in_hand = λ h e. absurd (cc e);
    held = is.held;
  })
    where
      is : IsVoteState voters said j (states j)
      is = ok.state j

  -- seal
  seal_taken : (d : List ℕ) → (states j).candidate ≡ None → states' j ≡ sealed_with (states j) d → Holds voters states' said
  seal_taken d unset mine = change (sealed_with (states j) d) mine (record { promised = omega arith; candidate = λ e c. absurd (cc (unset, c)) }) (record {
    voters_are = is.voters_are;
    me_is = is.me_is;
    owner = is.owner;
    cast = is.cast;
    voted = is.voted;
    told = is.told;
    begun = is.begun;
    in_hand = is.in_hand;
    held = is.held;
  })
    where
      is : IsVoteState voters said j (states j)
      is = ok.state j

  -- ballot, where a candidate is set and rounds are left
  try_taken : j < 16 → states' j ≡ record (states j) { tried = next_ballot (states j); hand = Some (new_hand (next_ballot (states j))) } →
      Holds voters states' (says j (message.NextBallot (next_ballot (states j))) ∷ said)
  try_taken small mine =
      say voters states' said j now (message.NextBallot b) (λ _ m. absurd (cc m)) (λ _ m. absurd (cc m)) (λ _ _ m. absurd (cc m)) tt
    where
      s : VoteState
      s = states j

      is : IsVoteState voters said j s
      is = ok.state j

      b : ℕ
      b = next_ballot s

      above : s.tried < b
      above = omega arith

      now : Holds voters states' said
      now = change (record s { tried = b; hand = Some (new_hand b) }) mine (record { promised = omega arith; candidate = λ d e. e }) (record {
        voters_are = is.voters_are;
        me_is = is.me_is;
        owner = λ _. ballot_owner (greater_round s + 1) s.me j is.me_is small;
        cast = is.cast;
        voted = is.voted;
        told = is.told;
        begun = λ c d has. let lt : c ≤ s.tried = (is.begun c d has).0 in (omega arith, λ same. absurd (omega arith));
        in_hand = λ h e. let same : new_hand b ≡ h = cc e in subst (λ h. IsHand said j b h) same (record {
          ballot = refl;
          positive = omega arith;
          last = λ k flagged. absurd (no_flag k flagged);
          greatest = λ v m. absurd (cc m);
          decree = λ d m. absurd (cc m);
          voted = λ k flagged. absurd (no_flag k flagged);
        });
        held = is.held;
      })

  -- tell
  tell_taken : (d : List ℕ) → (states j).held ≡ Some d → states' j ≡ states j → Holds voters states' (says j (message.Success d) ∷ said)
  tell_taken d holds mine =
      say voters states' said j (stay mine) (message.Success d) (λ _ m. absurd (cc m)) (λ _ m. absurd (cc m)) (λ _ _ m. absurd (cc m)) ((ok.state j).held d holds)

  -- a state's hand changes to one in order that keeps its decree, and what is held to something chosen
  hand_taken : (h new : Hand) (held : Option (List ℕ)) → (states j).hand ≡ Some h → IsHand said j (states j).tried new → new.decree ≡ h.decree →
      ((d : List ℕ) → held ≡ Some d → Chosen voters said d) →
      states' j ≡ record (states j) { held = held; hand = Some new } → Holds voters states' said
  hand_taken h new held in_hand new_ok keeps chosen mine =
      change (record (states j) { held = held; hand = Some new }) mine (record { promised = omega arith; candidate = λ d e. e }) (record {
        voters_are = is.voters_are;
        me_is = is.me_is;
        owner = is.owner;
        cast = is.cast;
        voted = is.voted;
        told = is.told;
        begun = λ b d has. let old = is.begun b d has in (old.0, λ same. keeps ∙ subst (λ o. Keeps o d) in_hand (old.1 same));
        in_hand = λ g e. let same : new ≡ g = cc e in subst (λ g. IsHand said j (states j).tried g) same new_ok;
        held = chosen;
      })
    where
      is : IsVoteState voters said j (states j)
      is = ok.state j

  -- LastVote(b, v) that reaches a majority: the hand old becomes h, whose decree is begun
  module _ (old h : Hand) (d : List ℕ) (in_hand : (states j).hand ≡ Some old) (unbegun : old.decree ≡ None) (h_ok : IsHand said j (states j).tried h)
      (most : is_majority (states j).voters h.last ≡ true) (decree : decree_of h.greatest (states j).candidate ≡ Some d) where
    abbrev begun_now : Said
    begun_now = says j (message.BeginBallot h.ballot d)

    is_state : IsVoteState voters said j (states j)
    is_state = ok.state j

    -- core j has begun nothing in this ballot
    nothing_begun : (e : List ℕ) → Has said (says j (message.BeginBallot h.ballot e)) → ⊥
    nothing_begun e has = cc (unbegun, subst (λ o. Keeps o e) in_hand ((is_state.begun h.ballot e has).1 h_ok.ballot))

    ballot_mine : h.ballot % 16 ≡ j
    ballot_mine = subst (λ b. b % 16 ≡ j) (sym h_ok.ballot) (is_state.owner h_ok.positive)

    -- nor has any other
    none_begun : (e : List ℕ) → BegunIn said h.ballot e → ⊥
    none_begun e begun =
        let theirs : IsBegin voters states said begun.by h.ballot e = ok.message _ begun.has in
        let same : begun.by ≡ j = sym theirs.owner ∙ ballot_mine in
        nothing_begun e (subst (λ i. Has said (says i (message.BeginBallot h.ballot e))) same begun.has)

    vote_begun : (v : Vote) → h.greatest ≡ Some v → BegunIn said v.ballot v.imprint × (v.ballot < h.ballot)
    vote_begun v e = let told = h_ok.greatest v e in let last : IsLast said told.0 (record { ballot = h.ballot; vote = Some v }) = ok.message _ told.1 in last.begun v refl

    decree_is : (g : Option Vote) → decree_of g (states j).candidate ≡ Some d → (v : Vote) → g ≡ Some v → d ≡ v.imprint
    decree_is None e v g = absurd (cc g)
    decree_is (Some w) e v g = cc (e, g)

    bound : (k : ℕ) → is_flagged h.last k ≡ true → h.ballot ≤ (states k).promised
    bound k flagged = let told = h_ok.last k flagged in (ok.state k).told (record { ballot = h.ballot; vote = told.vote }) told.has

    safe : IsSafe voters states said h.ballot d
    safe = record {
      who = is_flagged h.last;
      greatest = h.greatest;
      most = subst (λ vs. IsMajority vs (is_flagged h.last)) is_state.voters_are (majority_is (states j).voters h.last most);
      bound = bound;
      covers = λ k flagged c has lt.
          let told = h_ok.last k flagged in
          let last : IsLast said k (record { ballot = h.ballot; vote = told.vote }) = ok.message _ told.has in
          covers_at_most c told.vote h.greatest (last.covers c has lt) told.at_most;
      begun = λ v e. let b = vote_begun v e in (b.0, b.1, decree_is h.greatest decree v e);
    }

    proposed_by : (g : Option Vote) → h.greatest ≡ g → decree_of g (states j).candidate ≡ Some d → (i : ℕ) × ((states i).candidate ≡ Some d)
    proposed_by None e is = (j, is)
    proposed_by (Some v) e is =
        let b = (vote_begun v e).0 in
        let theirs : IsBegin voters states said b.by v.ballot v.imprint = ok.message _ b.has in
        (theirs.proposed.0, theirs.proposed.1 ∙ is)

    begin_state : IsVoteState voters (begun_now ∷ said) j (record (states j) { hand = Some (record h { decree = Some d }) })
    begin_state = record {
      voters_are = is_state.voters_are;
      me_is = is_state.me_is;
      owner = is_state.owner;
      cast = λ v e. (BegunIn-there begun_now said v.ballot v.imprint (is_state.cast v e).0, (is_state.cast v e).1);
      voted = λ c has. elim (Has-cases has) [ inl e ↦ absurd (cc (ap (λ z. z.what) e)) | inr t ↦ is_state.voted c t ];
      told = λ l has. elim (Has-cases has) [ inl e ↦ absurd (cc (ap (λ z. z.what) e)) | inr t ↦ is_state.told l t ];
      begun = λ b e has. elim (Has-cases has) [
        | inl new ↦
            let what : message.BeginBallot b e ≡ message.BeginBallot h.ballot d = ap (λ z. z.what) new in
            let at : b ≡ h.ballot = cc what in
            let same : e ≡ d = cc what in
            (omega (arith, at, h_ok.ballot), λ _. ap Some (sym same))
        | inr t ↦ ((is_state.begun b e t).0, λ same. absurd (nothing_begun e (subst (λ b. Has said (says j (message.BeginBallot b e))) (same ∙ sym h_ok.ballot) t)))
      ];
      in_hand = λ g e. let same : record h { decree = Some d } ≡ g = cc e in subst (λ g. IsHand (begun_now ∷ said) j (states j).tried g) same (
          let there_ok : IsHand (begun_now ∷ said) j (states j).tried h = IsHand-there begun_now said j (states j).tried h h_ok in
          record {
            ballot = there_ok.ballot;
            positive = there_ok.positive;
            last = there_ok.last;
            greatest = there_ok.greatest;
            voted = there_ok.voted;
            decree = λ e is. let same : d ≡ e = cc is in subst (λ e. Has (begun_now ∷ said) (says j (message.BeginBallot h.ballot e))) same here;
          });
      held = λ e is. Chosen-there begun_now said voters e (is_state.held e is);
    }

    last_begun : states' j ≡ record (states j) { hand = Some (record h { decree = Some d }) } → Holds voters states' (begun_now ∷ said)
    last_begun mine =
        said_more begun_now said states states'
        (grows_all (subst (λ s. Grows (states j) s) (sym mine) (record { promised = omega arith; candidate = λ d e. e })))
        (λ k c is. absurd (cc (ap (λ z. z.what) is)))
        voters ok
        (λ k. elim (cases_eq k j) [
          | inl same ↦ subst (λ i. IsVoteState voters (begun_now ∷ said) i (states' i)) (sym same) (subst (λ s. IsVoteState voters (begun_now ∷ said) j s) (sym mine) begin_state)
          | inr other ↦ subst (λ s. IsVoteState voters (begun_now ∷ said) k s) (sym (others k other)) (IsVoteState-there begun_now said voters k (states k) (ok.state k) (record {
            voted = λ c is. absurd (cc (ap (λ z. z.what) is));
            told = λ l is. absurd (cc (ap (λ z. z.what) is));
            begun = λ b e is. absurd (other (ap (λ z. z.by) is));
          }))
        ])
        (λ k b e f begun is.
        let what : message.BeginBallot b f ≡ message.BeginBallot h.ballot d = ap (λ z. z.what) is in
        let at : b ≡ h.ballot = cc what in
        absurd (none_begun e (subst (λ b. BegunIn said b e) at begun)))
        (λ l is. absurd (cc is))
        (record { owner = ballot_mine; safe = safe; only = λ e begun. absurd (none_begun e begun); proposed = proposed_by h.greatest refl decree })

-- EACH ROW

-- what a step of core j leaves
abbrev pub Keeps_on : (voters : List ℕ) (states : ℕ → VoteState) (said : List Said) (j : ℕ) (r : VoteState × Option SynodMessage) → Type 0
Keeps_on voters states said j r = (states' : ℕ → VoteState) → ((k : ℕ) → k ≢ j → states' k ≡ states k) → states' j ≡ r.0 → Holds voters states' (more r.1 j said)

module _ (voters : List ℕ) (states : ℕ → VoteState) (said : List Said) (j : ℕ) (ok : Holds voters states said) where
  keeps_next : (b : ℕ) → Keeps_on voters states said j ((on_next (states j) b).0, promise_told (on_next (states j) b).1)
  unfolding on_next
  keeps_next b = cond_both (ltb (states j).promised b) _ _ (λ (r : VoteState × Option LastVote). Keeps_on voters states said j (r.0, promise_told r.1))
      (λ t states' others mine. next_taken voters states states' said j ok others b (ltb-true _ _ t) mine)
      (λ _ states' others mine. stay voters states states' said j ok others mine)

  keeps_begin : (b : ℕ) (d : List ℕ) → BegunIn said b d → Keeps_on voters states said j ((on_begin (states j) b d).0, vote_told b (on_begin (states j) b d).1)
  unfolding on_begin
  keeps_begin b d begun = cond_both (eqb b (states j).promised && is_older (states j).vote b) _ _ (λ (r : VoteState × Bool). Keeps_on voters states said j (r.0, vote_told b r.1))
      (λ t states' others mine. let both = and_parts _ _ t in begin_taken voters states states' said j ok others b d begun (eqb-true _ _ both.0) both.1 mine)
      (λ _ states' others mine. stay voters states states' said j ok others mine)

  keeps_success : (d : List ℕ) → Chosen voters said d → Keeps_on voters states said j ((on_success (states j) d).0, None)
  unfolding on_success
  keeps_success d chosen = by (states j).held refl
    where
      by : (o : Option (List ℕ)) → (states j).held ≡ o → Keeps_on voters states said j ((on_success_of o (states j) d).0, None)
      by None e = λ states' others mine. success_taken voters states states' said j ok others d chosen mine
      by (Some held) e = λ states' others mine. stay voters states states' said j ok others mine

  -- LastVote, at a hand
  keeps_add_last : (old h : Hand) → (states j).hand ≡ Some old → old.decree ≡ None → IsHand said j (states j).tried h →
      Keeps_on voters states said j ((begun_with (states j) h (decree_now (states j).voters (states j).candidate h)).0, decree_begun h.ballot (begun_with (states j) h (decree_now (states j).voters (states j).candidate h)).1)
  keeps_add_last old h in_hand unbegun h_ok = cond_both (is_majority (states j).voters h.last) (decree_of h.greatest (states j).candidate) None
      (λ (o : Option (List ℕ)). Keeps_on voters states said j ((begun_with (states j) h o).0, decree_begun h.ballot (begun_with (states j) h o).1))
      (λ most. by (decree_of h.greatest (states j).candidate) refl most)
      (λ _. still)
    where
      still : Keeps_on voters states said j ((begun_with (states j) h None).0, decree_begun h.ballot (begun_with (states j) h None).1)
      still states' others mine = hand_taken voters states states' said j ok others old (record h { decree = None }) (states j).held in_hand
          (record { ballot = h_ok.ballot; positive = h_ok.positive; last = h_ok.last; greatest = h_ok.greatest; voted = h_ok.voted; decree = λ d e. absurd (cc e) })
          (sym unbegun) (ok.state j).held mine

      by : (o : Option (List ℕ)) → decree_of h.greatest (states j).candidate ≡ o → is_majority (states j).voters h.last ≡ true →
          Keeps_on voters states said j ((begun_with (states j) h o).0, decree_begun h.ballot (begun_with (states j) h o).1)
      by (Some d) e most states' others mine = last_begun voters states states' said j ok others old h d in_hand unbegun h_ok most e mine
      by None e most states' others mine = still states' others mine

  keeps_last : (from : ℕ) (l : LastVote) → Has said (says from (message.LastVote l)) →
      Keeps_on voters states said j ((on_last (states j) from l.ballot l.vote).0, decree_begun l.ballot (on_last (states j) from l.ballot l.vote).1)
  unfolding on_last
  keeps_last from l has = by (states j).hand refl
    where
      none_is : (o : Option (List ℕ)) → not (is_some o) ≡ true → o ≡ None
      none_is None t = refl
      none_is (Some d) t = absurd (cc t)

      by : (o : Option Hand) → (states j).hand ≡ o → Keeps_on voters states said j ((on_last_of o (states j) from l.ballot l.vote).0, decree_begun l.ballot (on_last_of o (states j) from l.ballot l.vote).1)
      by None e = λ states' others mine. stay voters states states' said j ok others mine
      by (Some h) e = cond_both (counts_last (states j).voters (Some h) from l.ballot) _ _ (λ (r : VoteState × Took). Keeps_on voters states said j (r.0, decree_begun l.ballot r.1))
          (λ t.
          let tests = and_parts _ _ t in
          let at : h.ballot ≡ l.ballot = eqb-true _ _ tests.0 in
          let unbegun : h.decree ≡ None = none_is h.decree (and_parts _ _ tests.1).0 in
          let told : Has said (says from (message.LastVote (record { ballot = h.ballot; vote = l.vote }))) = subst (λ b. Has said (says from (message.LastVote (record { ballot = b; vote = l.vote })))) (sym at) has in
          let new_ok : IsHand said j (states j).tried (with_last h from l.vote) = hand_with_last said j (states j).tried h from l.vote told ((ok.state j).in_hand h e) in
          subst (λ b. Keeps_on voters states said j ((begun_with (states j) (with_last h from l.vote) (decree_now (states j).voters (states j).candidate (with_last h from l.vote))).0, decree_begun b (begun_with (states j) (with_last h from l.vote) (decree_now (states j).voters (states j).candidate (with_last h from l.vote))).1)) at
          (keeps_add_last h (with_last h from l.vote) e unbegun new_ok))
          (λ _ states' others mine. stay voters states states' said j ok others mine)

  keeps_voted : (from b : ℕ) → Has said (says from (message.Voted b)) →
      Keeps_on voters states said j ((on_voted (states j) from b).0, decree_told (on_voted (states j) from b).1)
  unfolding on_voted
  keeps_voted from b has = by (states j).hand refl
    where
      or_chosen : (o : Option (List ℕ)) (d : List ℕ) → Chosen voters said d → ((e : List ℕ) → o ≡ Some e → Chosen voters said e) → (e : List ℕ) → Some (unwrap_or o d) ≡ Some e → Chosen voters said e
      or_chosen None d chosen old e is = let same : d ≡ e = cc is in subst (λ z. Chosen voters said z) same chosen
      or_chosen (Some h) d chosen old e is = old e is

      for_is : (h : Hand) (d : List ℕ) → voted_for (states j).voters (Some h) from b ≡ Some d → (h.ballot ≡ b) × (h.decree ≡ Some d)
      for_is h d is = cond_both (eqb h.ballot b && (is_voter (states j).voters from && not (is_flagged h.voted from))) h.decree None (λ (o : Option (List ℕ)). o ≡ Some d → (h.ballot ≡ b) × (h.decree ≡ Some d))
          (λ t e. (eqb-true _ _ (and_parts _ _ t).0, e)) (λ _ e. absurd (cc e)) is

      for_by : (h : Hand) → (states j).hand ≡ Some h → (o : Option (List ℕ)) → voted_for (states j).voters (Some h) from b ≡ o → Keeps_on voters states said j ((on_voted_for o h (states j) from).0, decree_told (on_voted_for o h (states j) from).1)
      for_by h in_hand None counts = λ states' others mine. stay voters states states' said j ok others mine
      for_by h in_hand (Some d) counts =
          let at : h.ballot ≡ b = (for_is h d counts).0 in
          let e : h.decree ≡ Some d = (for_is h d counts).1 in
          let told : Has said (says from (message.Voted h.ballot)) = subst (λ b. Has said (says from (message.Voted b))) (sym at) has in
          let h_ok : IsHand said j (states j).tried h = (ok.state j).in_hand h in_hand in
          let new_ok : IsHand said j (states j).tried (with_voted h from) = hand_with_voted said j (states j).tried h from told h_ok in
          cond_both (completes (states j).voters h (with_voted h from)) _ _ (λ (r : VoteState × Took). Keeps_on voters states said j (r.0, decree_told r.1))
          (λ most states' others mine.
          let chosen : Chosen voters said d = record {
            ballot = h.ballot;
            who = is_flagged (with_voted h from).voted;
            begun = record { by = j; has = h_ok.decree d e };
            most = subst (λ vs. IsMajority vs (is_flagged (with_voted h from).voted)) (ok.state j).voters_are (majority_is (states j).voters (with_voted h from).voted (and_parts _ _ most).0);
            voted = new_ok.voted;
          } in
          let holds : (e : List ℕ) → Some (unwrap_or (states j).held d) ≡ Some e → Chosen voters said e = or_chosen (states j).held d chosen (ok.state j).held in
          let now : Holds voters states' said = hand_taken voters states states' said j ok others h (with_voted h from) (Some (unwrap_or (states j).held d)) in_hand new_ok refl holds mine in
          say voters states' said j now (message.Success d) (λ _ m. absurd (cc m)) (λ _ m. absurd (cc m)) (λ _ _ m. absurd (cc m)) chosen)
          (λ _ states' others mine. hand_taken voters states states' said j ok others h (with_voted h from) (states j).held in_hand new_ok refl (ok.state j).held mine)

      by : (o : Option Hand) → (states j).hand ≡ o → Keeps_on voters states said j ((on_voted_of o (states j) from b).0, decree_told (on_voted_of o (states j) from b).1)
      by None e = λ states' others mine. stay voters states states' said j ok others mine
      by (Some h) e = for_by h e (voted_for (states j).voters (Some h) from b) refl

  -- a delivered message that was said
  pub keeps_receive : (from : ℕ) (m : SynodMessage) → Has said (says from m) → Keeps_on voters states said j (receive (states j) from m)
  unfolding receive
  keeps_receive from (message.NextBallot b) has = keeps_next b
  keeps_receive from (message.LastVote l) has = keeps_last from l has
  keeps_receive from (message.BeginBallot b d) has = keeps_begin b d (record { by = from; has = has })
  keeps_receive from (message.Voted b) has = keeps_voted from b has
  keeps_receive from (message.Success d) has = keeps_success d (ok.message _ has)

  -- the command ballot
  pub keeps_try : j < 16 → Keeps_on voters states said j ((try_ballot (states j)).0, ballot_told (try_ballot (states j)).1)
  unfolding try_ballot
  keeps_try small = by (states j).candidate refl
    where
      by : (o : Option (List ℕ)) → (states j).candidate ≡ o → Keeps_on voters states said j ((try_ballot_of o (states j)).0, ballot_told (try_ballot_of o (states j)).1)
      by None e = λ states' others mine. stay voters states states' said j ok others mine
      by (Some c) e = cond_both (eqb (greater_round (states j)) last_round) _ _ (λ (r : VoteState × Begun). Keeps_on voters states said j (r.0, ballot_told r.1))
          (λ _ states' others mine. stay voters states states' said j ok others mine)
          (λ _ states' others mine. try_taken voters states states' said j ok others small mine)

  -- the command seal
  pub keeps_seal : (d : List ℕ) → Keeps_on voters states said j (seal (states j) d, None)
  unfolding seal
  keeps_seal d = by (states j).candidate refl
    where
      by : (o : Option (List ℕ)) → (states j).candidate ≡ o → Keeps_on voters states said j (seal_of o (states j) d, None)
      by None e = λ states' others mine. seal_taken voters states states' said j ok others d e mine
      by (Some c) e = λ states' others mine. stay voters states states' said j ok others mine

  -- the command tell
  pub keeps_tell : Keeps_on voters states said j (states j, held_told (states j).held)
  keeps_tell = by (states j).held refl
    where
      by : (o : Option (List ℕ)) → (states j).held ≡ o → Keeps_on voters states said j (states j, held_told o)
      by None e = λ states' others mine. stay voters states states' said j ok others mine
      by (Some d) e = λ states' others mine. tell_taken voters states states' said j ok others d e mine

  -- a restart
  pub keeps_restart : Keeps_on voters states said j (restarted (states j), None)
  keeps_restart states' others mine = restart_taken voters states states' said j ok others mine

-- at the start
pub holds_first : (voters : List ℕ) (states : ℕ → VoteState) → ((j : ℕ) → states j ≡ fresh_vote j voters) → Holds voters states []
unfolding fresh_vote
holds_first voters states fresh = record {
  state = λ j. subst (λ s. IsVoteState voters [] j s) (sym (fresh j)) (record {
    voters_are = refl;
    me_is = refl;
    owner = λ lt. absurd (omega arith);
    cast = λ v e. absurd (cc e);
    voted = λ c has. elim (nothing has) [ ];
    told = λ l has. elim (nothing has) [ ];
    begun = λ b d has. elim (nothing has) [ ];
    in_hand = λ h e. absurd (cc e);
    held = λ d e. absurd (cc e);
  });
  message = λ x has. elim (nothing has) [ ];
}
  where
    nothing : {x : Said} → Has [] x → ⊥
    nothing h = elim h [ ]
