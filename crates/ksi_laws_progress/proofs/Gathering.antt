-- The answers of some cores, delivered to the core whose ballot it is.
use Rattle.std.proofs.Common.{◌+◌, ◌≡◌, ◌≢◌, ℕ, suc, ◌<◌, Bool, true, false, not, ◌&&◌, ◌||◌, List, [], ◌∷◌, ◌++◌, length, refl, sym, ap, subst, ◌∙◌, length-set, arith, inl, inr, Option, Some, None}
use Rattle.std.specs.Prelude.{unwrap_or}
use Rattle.std.proofs.lemmas.Bool.{cases_eq, cond-true, cond-false, cond_both}
use Rattle.std.proofs.lemmas.List.{append-nil, length-replicate}
use Rattle.ksi_synod.specs.declared.messages.Vote.{Vote}
use Rattle.ksi_synod.specs.declared.messages.SynodMessage.{SynodMessage}
use Rattle.ksi_synod.specs.declared.messages.SynodMessage.TheVariants as message
use Rattle.ksi_synod.specs.declared.messages.Took.{Took}
use Rattle.ksi_synod.specs.Voters.{is_voter, is_flagged, no_flags, is_majority}
use Rattle.ksi_synod.specs.VoteState.{VoteState, Hand, new_hand}
use Rattle.ksi_synod.specs.Rows.{greater_vote, with_last, decree_of, decree_now, begun_with, with_voted, voted_added, completes, decree_begun, decree_told, receive}
use Rattle.ksi_laws_progress.specs.Numbers.{numbers_from}
use Rattle.ksi_laws_progress.specs.Majorities.{AreDistinct, IsLeast, greatest_from, root_by}
use Rattle.ksi_laws_progress.proofs.Lists.{here, there, not_here, other_than, AreMost, is_most, stays_majority, no_majority, no_flag, set_flag, all_done, or_moves, or_none}
use Rattle.ksi_laws_progress.proofs.Rows.{counts, counts_no_more, counts_voted}
use Rattle.ksi_laws_progress.proofs.Machine.{sent, Stepped, Takes, deliver_all, AtFrom, at_more}

-- what is so of each vote's imprint
abbrev pub OfVote : (List ℕ → Type 0) → Option Vote → Type 0
OfVote Good None = Unit {0}
OfVote Good (Some vote) = Good vote.imprint

of_greater : (Good : List ℕ → Type 0) (old new : Option Vote) → OfVote Good old → OfVote Good new → OfVote Good (greater_vote old new)
of_greater Good None new is is' = is'
of_greater Good (Some old) None is is' = is
of_greater Good (Some old) (Some new) is is' = cond_both _ (Some new) (Some old) (OfVote Good) (λ _. is') (λ _. is)

module _ (M Msg : Type 0) (votes : M → ℕ → VoteState) (wire : M → List Msg) (letter : (from to : ℕ) → SynodMessage → Msg) (deliver : M → ℕ → M) (voters : List ℕ) (cores : ℕ) where
  abbrev pub Step : (m m' : M) (core answered : ℕ) (r : VoteState × Option SynodMessage) → Type 0
  Step = Stepped M Msg votes wire letter deliver voters cores

  abbrev pub Sent : (by answered : ℕ) → Option SynodMessage → List Msg
  Sent = sent M Msg votes wire letter deliver voters cores

  abbrev pub Run : M → List ℕ → M
  Run = deliver_all M Msg votes wire letter deliver voters cores

  module _ (takes : Takes M Msg votes wire letter deliver voters cores) (small : (q : ℕ) → is_voter voters q ≡ true → q < 9) (j b : ℕ) where
    abbrev pub At : (what : ℕ → SynodMessage) → List Msg → (first : ℕ) → List ℕ → Type 0
    At = AtFrom M Msg votes wire letter deliver voters cores takes j

    -- nothing changed
    pub record Same (m m' : M) : Type 0 where
      pub state : (k : ℕ) → votes m' k ≡ votes m k
      pub posted : wire m' ≡ wire m

    stood : (m m' : M) (answered : ℕ) (r : VoteState × Option SynodMessage) → Step m m' j answered r → r ≡ (votes m j, None) → Same m m'
    stood m m' answered r one is = record {
      state = λ k. elim (cases_eq k j) [
        | inl same ↦ subst (λ k. votes m' k ≡ votes m k) (sym same) (one.mine ∙ ap (λ r. r.0) is)
        | inr other ↦ one.others k other
      ];
      posted = one.posted ∙ ap (λ (r : VoteState × Option SynodMessage). wire m ++ Sent j answered r.1) is ∙ append-nil (wire m);
    }

    -- LASTVOTES that come when the decree is begun
    module _ (vote : ℕ → Option Vote) where
      abbrev pub last_vote : ℕ → SynodMessage
      last_vote q = message.LastVote (record { ballot = b; vote = vote q })

      late : (qs : List ℕ) (m : M) (first : ℕ) (h : Hand) (d : List ℕ) → (votes m j).hand ≡ Some h → h.decree ≡ Some d → At last_vote (wire m) first qs →
          Same m (Run m (numbers_from first (length qs)))
      late [] m first h d hand begun at = record { state = λ k. refl; posted = refl }
      late (q ∷ qs) m first h d hand begun at =
          let m1 = deliver m first in
          let one = stood m m1 q _ (takes m first q j (last_vote q) at.0) (counts_no_more (votes m j) q h hand b (vote q) d begun) in
          let rest = late qs m1 (suc first) h d (ap (λ s. s.hand) (one.state j) ∙ hand) begun (subst (λ w. At last_vote w (suc first) qs) (sym one.posted) at.1) in
          record { state = λ k. rest.state k ∙ one.state k; posted = rest.posted ∙ one.posted }

      module _ (Good : List ℕ → Type 0) (c : List ℕ) (good : Good c) (Q : List ℕ) (most : AreMost voters Q) where
        -- the ballot with the LastVotes of these, before a decree is begun
        pub record IsOpen (done : List ℕ) (h : Hand) : Type 0 where
          pub ballot_is : h.ballot ≡ b
          pub unbegun : h.decree ≡ None
          pub nine : length h.last ≡ 9
          pub last_is : (k : ℕ) → is_flagged h.last k ≡ is_voter done k
          pub few : is_majority voters h.last ≡ false
          pub likes : OfVote Good h.greatest
          pub none_yet : h.voted ≡ no_flags

        pub open_first : IsOpen [] (new_hand b)
        open_first = record { ballot_is = refl; unbegun = refl; nine = length-replicate 9 false; last_is = no_flag; few = no_majority voters; likes = tt; none_yet = refl }

        -- a decree is begun
        pub record Begun (m m' : M) : Type 0 where
          pub decree : List ℕ
          pub is_good : Good decree
          pub hand : Hand
          pub ballot_is : hand.ballot ≡ b
          pub decree_is : hand.decree ≡ Some decree
          pub none_yet : hand.voted ≡ no_flags
          pub mine : votes m' j ≡ record (votes m j) { hand = Some hand }
          pub others : (k : ℕ) → k ≢ j → votes m' k ≡ votes m k
          pub posted : wire m' ≡ wire m ++ Sent j j (Some (message.BeginBallot b decree))
          pub exact : AreDistinct voters → IsLeast voters Q → decree ≡ root_by (greatest_from vote None Q) c

        -- the decree that a majority's LastVotes make
        decree_is : (g : Option Vote) → OfVote Good g → (d : List ℕ) × (Good d) × (decree_of g (Some c) ≡ Some d) × (d ≡ root_by g c)
        decree_is None is = (c, good, refl, refl)
        decree_is (Some v) is = (v.imprint, is, refl, refl)

        pub record IsMine (done qs : List ℕ) (m : M) (h : Hand) : Type 0 where
          pub told : greatest_from vote h.greatest qs ≡ greatest_from vote None Q
          pub long : length done + length qs ≡ length Q
          pub hand : (votes m j).hand ≡ Some h
          pub voters_are : (votes m j).voters ≡ voters
          pub candidate : (votes m j).candidate ≡ Some c
          pub is_open : IsOpen done h

        pub record AreTheirs (done qs : List ℕ) (m : M) (first : ℕ) : Type 0 where
          pub distinct : AreDistinct qs
          pub fresh : (q : ℕ) → is_voter qs q ≡ true → is_voter done q ≡ false
          pub vote_too : (q : ℕ) → is_voter qs q ≡ true → is_voter voters q ≡ true
          pub likes : (q : ℕ) → is_voter qs q ≡ true → OfVote Good (vote q)
          pub all : (k : ℕ) → is_voter Q k ≡ true → (is_voter done k || is_voter qs k) ≡ true
          pub at : At last_vote (wire m) first qs

        pub early : (qs done : List ℕ) (m : M) (first : ℕ) (h : Hand) → IsMine done qs m h → AreTheirs done qs m first → Begun m (Run m (numbers_from first (length qs)))
        early [] done m first h mine theirs =
            absurd (cc (sym mine.is_open.few ∙ is_most voters Q h.last most (λ k is. mine.is_open.last_is k ∙ or_none (is_voter done k) (theirs.all k is))))
        early (q ∷ qs) done m first h mine theirs = by (λ h' mine' theirs'. early qs (q ∷ done) (deliver m first) (suc first) h' mine' theirs') (is_majority voters counted.last) refl
          where
            m1 : M
            m1 = deliver m first

            s : VoteState
            s = votes m j

            counted : Hand
            counted = with_last h q (vote q)

            now : Option (List ℕ) → VoteState × Option SynodMessage
            now d = ((begun_with s counted d).0, decree_begun b (begun_with s counted d).1)

            now_is : receive s q (last_vote q) ≡ now (decree_now s.voters s.candidate counted)
            now_is =
                let D = decree_now s.voters s.candidate counted in
                subst (λ x. receive s q (message.LastVote (record { ballot = x; vote = vote q })) ≡ ((begun_with s counted D).0, decree_begun x (begun_with s counted D).1)) mine.is_open.ballot_is
                (counts s q h mine.hand (vote q) mine.is_open.unbegun
                (ap (λ (v : List ℕ). is_voter v q) mine.voters_are ∙ theirs.vote_too q (here q qs))
                (mine.is_open.last_is q ∙ theirs.fresh q (here q qs)))

            decree_by : decree_now s.voters s.candidate counted ≡ decree_now voters (Some c) counted
            decree_by = ap (λ (v : List ℕ). decree_now v s.candidate counted) mine.voters_are ∙ ap (λ o. decree_now voters o counted) mine.candidate

            likes : OfVote Good counted.greatest
            likes = of_greater Good h.greatest (vote q) mine.is_open.likes (theirs.likes q (here q qs))

            step : (d : Option (List ℕ)) → decree_now voters (Some c) counted ≡ d → Step m m1 j q (now d)
            step d is = subst (Step m m1 j q) (now_is ∙ ap now (decree_by ∙ is)) (takes m first q j (last_vote q) theirs.at.0)

            set_now : (k : ℕ) → is_flagged counted.last k ≡ is_voter (q ∷ done) k
            set_now = set_flag h.last done q (omega (arith, small q (theirs.vote_too q (here q qs)), mine.is_open.nine)) mine.is_open.last_is

            at_next : (more : List Msg) → wire m1 ≡ wire m ++ more → At last_vote (wire m1) (suc first) qs
            at_next more is = subst (λ w. At last_vote w (suc first) qs) (sym is) (at_more M Msg votes wire letter deliver voters cores takes j last_vote (wire m) more (suc first) qs theirs.at.1)

            by : ((h' : Hand) → IsMine (q ∷ done) qs m1 h' → AreTheirs (q ∷ done) qs m1 (suc first) → Begun m1 (Run m1 (numbers_from (suc first) (length qs)))) →
                (most : Bool) → is_majority voters counted.last ≡ most → Begun m (Run m1 (numbers_from (suc first) (length qs)))
            by again true is =
                let d = decree_is counted.greatest likes in
                let one = step (Some d.0) (cond-true (is_majority voters counted.last) (decree_of counted.greatest (Some c)) None is ∙ d.2) in
                let h' : Hand = record counted { decree = Some d.0 } in
                let rest = late qs m1 (suc first) h' d.0 (ap (λ s. s.hand) one.mine) refl (at_next _ one.posted) in
                record {
                  decree = d.0;
                  is_good = d.1;
                  hand = h';
                  ballot_is = mine.is_open.ballot_is;
                  decree_is = refl;
                  none_yet = mine.is_open.none_yet;
                  mine = rest.state j ∙ one.mine;
                  others = λ k other. rest.state k ∙ one.others k other;
                  posted = rest.posted ∙ one.posted;
                  exact = λ distinct least.
                      let none = all_done voters (q ∷ done) qs (length Q) counted.last distinct is set_now (omega (arith, mine.long)) least in
                      d.3 ∙ ap (λ g. root_by g c) (sym (ap (greatest_from vote counted.greatest) none) ∙ mine.told);
                }
            by again false is =
                let one = step None (cond-false (is_majority voters counted.last) (decree_of counted.greatest (Some c)) None is) in
                let h' : Hand = record counted { decree = None } in
                let rest = again h'
                (record {
                  told = mine.told;
                  long = omega (arith, mine.long);
                  hand = ap (λ s. s.hand) one.mine;
                  voters_are = ap (λ s. s.voters) one.mine ∙ mine.voters_are;
                  candidate = ap (λ s. s.candidate) one.mine ∙ mine.candidate;
                  is_open = record {
                    ballot_is = mine.is_open.ballot_is;
                    unbegun = refl;
                    nine = length-set h.last q true ∙ mine.is_open.nine;
                    last_is = set_now;
                    few = is;
                    likes = likes;
                    none_yet = mine.is_open.none_yet;
                  };
                })
                (record {
                  distinct = theirs.distinct.1;
                  fresh = λ k is. not_here q k done (other_than q k qs theirs.distinct.0 is) ∙ theirs.fresh k (there q k qs is);
                  vote_too = λ k is. theirs.vote_too k (there q k qs is);
                  likes = λ k is. theirs.likes k (there q k qs is);
                  all = λ k is. or_moves (is_voter done k) _ (is_voter qs k) (theirs.all k is);
                  at = at_next _ one.posted;
                }) in
                record {
                  decree = rest.decree;
                  is_good = rest.is_good;
                  hand = rest.hand;
                  ballot_is = rest.ballot_is;
                  decree_is = rest.decree_is;
                  none_yet = rest.none_yet;
                  mine = rest.mine ∙ ap (λ (s : VoteState). record s { hand = Some rest.hand }) one.mine;
                  others = λ k other. rest.others k other ∙ one.others k other;
                  posted = rest.posted ∙ ap (λ w. w ++ Sent j j (Some (message.BeginBallot b rest.decree))) (one.posted ∙ append-nil (wire m));
                  exact = rest.exact;
                }

    -- VOTES, told by Voted
    abbrev pub voted_now : ℕ → SynodMessage
    voted_now q = message.Voted b

    module _ (d : List ℕ) where
      -- the ballot with the votes of these
      pub record IsVoting (done : List ℕ) (m : M) (h : Hand) : Type 0 where
        pub hand : (votes m j).hand ≡ Some h
        pub voters_are : (votes m j).voters ≡ voters
        pub ballot_is : h.ballot ≡ b
        pub decree_is : h.decree ≡ Some d
        pub nine : length h.voted ≡ 9
        pub voted_is : (k : ℕ) → is_flagged h.voted k ≡ is_voter done k

      pub record TheyVoted (done qs : List ℕ) (m : M) (first : ℕ) : Type 0 where
        pub distinct : AreDistinct qs
        pub fresh : (q : ℕ) → is_voter qs q ≡ true → is_voter done q ≡ false
        pub vote_too : (q : ℕ) → is_voter qs q ≡ true → is_voter voters q ≡ true
        pub at : At voted_now (wire m) first qs

      -- the core's state with this ballot in hand, and that it holds the decree
      abbrev pub counted_in : VoteState → Hand → VoteState
      counted_in s h = record s { hand = Some h }

      abbrev pub completed_in : VoteState → Hand → VoteState
      completed_in s h = record s { held = Some (unwrap_or s.held d); hand = Some h }

      abbrev pub told_by : VoteState × Took → VoteState × Option SynodMessage
      told_by r = (r.0, decree_told r.1)

      -- one of them more
      module _ (q : ℕ) (qs done : List ℕ) (m : M) (first : ℕ) (h : Hand) (mine : IsVoting done m h) (theirs : TheyVoted done (q ∷ qs) m first) where
        votes_too : is_voter (votes m j).voters q ≡ true
        votes_too = ap (λ (v : List ℕ). is_voter v q) mine.voters_are ∙ theirs.vote_too q (here q qs)

        row_is : receive (votes m j) q (message.Voted b) ≡ told_by (voted_added (votes m j) h (with_voted h q) d)
        row_is = subst (λ x. receive (votes m j) q (message.Voted x) ≡ told_by (voted_added (votes m j) h (with_voted h q) d)) mine.ballot_is
            (counts_voted (votes m j) q h mine.hand d mine.decree_is votes_too (mine.voted_is q ∙ theirs.fresh q (here q qs)))

        voted_step : Step m (deliver m first) j q (told_by (voted_added (votes m j) h (with_voted h q) d))
        voted_step = subst (Step m (deliver m first) j q) row_is (takes m first q j voted_now-q theirs.at.0)
          where
            voted_now-q : SynodMessage
            voted_now-q = message.Voted b

        completes_is : completes (votes m j).voters h (with_voted h q) ≡ completes voters h (with_voted h q)
        completes_is = ap (λ (v : List ℕ). completes v h (with_voted h q)) mine.voters_are

        added_step : completes voters h (with_voted h q) ≡ false → Step m (deliver m first) j q (counted_in (votes m j) (with_voted h q), None)
        added_step is = subst (λ r. Step m (deliver m first) j q (told_by r)) (cond-false (completes (votes m j).voters h (with_voted h q)) _ _ (completes_is ∙ is)) voted_step

        completed_step : completes voters h (with_voted h q) ≡ true → Step m (deliver m first) j q (completed_in (votes m j) (with_voted h q), Some (message.Success d))
        completed_step is = subst (λ r. Step m (deliver m first) j q (told_by r)) (cond-true (completes (votes m j).voters h (with_voted h q)) _ _ (completes_is ∙ is)) voted_step

        they_next : (more : List Msg) → wire (deliver m first) ≡ wire m ++ more → TheyVoted (q ∷ done) qs (deliver m first) (suc first)
        they_next more is = record {
          distinct = theirs.distinct.1;
          fresh = λ k there_too. not_here q k done (other_than q k qs theirs.distinct.0 there_too) ∙ theirs.fresh k (there q k qs there_too);
          vote_too = λ k there_too. theirs.vote_too k (there q k qs there_too);
          at = subst (λ w. At voted_now w (suc first) qs) (sym is) (at_more M Msg votes wire letter deliver voters cores takes j voted_now (wire m) more (suc first) qs theirs.at.1);
        }

        mine_next : (s : VoteState) → votes (deliver m first) j ≡ s → s.hand ≡ Some (with_voted h q) → s.voters ≡ (votes m j).voters → IsVoting (q ∷ done) (deliver m first) (with_voted h q)
        mine_next s is hand same_voters = record {
          hand = ap (λ s. s.hand) is ∙ hand;
          voters_are = ap (λ s. s.voters) is ∙ same_voters ∙ mine.voters_are;
          ballot_is = mine.ballot_is;
          decree_is = mine.decree_is;
          nine = length-set h.voted q true ∙ mine.nine;
          voted_is = set_flag h.voted done q (omega (arith, small q (theirs.vote_too q (here q qs)), mine.nine)) mine.voted_is;
        }

      and_not : (a b : Bool) → b ≡ true → (a && not b) ≡ false
      and_not true true is = refl
      and_not false true is = refl
      and_not a false is = absurd (cc is)

      and_so : (a b : Bool) → a ≡ true → b ≡ false → (a && not b) ≡ true
      and_so true false is none = refl
      and_so true true is none = absurd (cc none)
      and_so false b is none = absurd (cc is)

      and_first : (a b : Bool) → a ≡ false → (a && b) ≡ false
      and_first false b is = refl
      and_first true b is = absurd (cc is)

      -- what is held stays, and nothing is sent
      pub record Stays (m m' : M) : Type 0 where
        pub held : (votes m' j).held ≡ (votes m j).held
        pub others : (k : ℕ) → k ≢ j → votes m' k ≡ votes m k
        pub posted : wire m' ≡ wire m

      -- those that come when it is decided
      past : (qs done : List ℕ) (m : M) (first : ℕ) (h : Hand) → is_majority voters h.voted ≡ true → IsVoting done m h → TheyVoted done qs m first → Stays m (Run m (numbers_from first (length qs)))
      past [] done m first h most mine theirs = record { held = refl; others = λ k other. refl; posted = refl }
      past (q ∷ qs) done m first h most mine theirs =
          let one = added_step q qs done m first h mine theirs (and_not _ _ most) in
          let next = mine_next q qs done m first h mine theirs _ one.mine refl refl in
          let set_more : (k : ℕ) → is_flagged h.voted k ≡ true → is_flagged (with_voted h q).voted k ≡ true = λ k is. next.voted_is k ∙ there q k done (sym (mine.voted_is k) ∙ is) in
          let rest = past qs (q ∷ done) (deliver m first) (suc first) (with_voted h q) (stays_majority voters h.voted (with_voted h q).voted set_more most) next (they_next q qs done m first h mine theirs [] one.posted) in
          record {
            held = rest.held ∙ ap (λ s. s.held) one.mine;
            others = λ k other. rest.others k other ∙ one.others k other;
            posted = rest.posted ∙ one.posted ∙ append-nil (wire m);
          }

      -- the core holds the decree, and Success is sent
      pub record Decided (m m' : M) : Type 0 where
        pub held : (votes m' j).held ≡ Some (unwrap_or (votes m j).held d)
        pub others : (k : ℕ) → k ≢ j → votes m' k ≡ votes m k
        pub posted : wire m' ≡ wire m ++ Sent j j (Some (message.Success d))

      module _ (Q : List ℕ) (most : AreMost voters Q) where
        pub decides : (qs done : List ℕ) (m : M) (first : ℕ) (h : Hand) → is_majority voters h.voted ≡ false → ((k : ℕ) → is_voter Q k ≡ true → (is_voter done k || is_voter qs k) ≡ true) →
            IsVoting done m h → TheyVoted done qs m first → Decided m (Run m (numbers_from first (length qs)))
        decides [] done m first h few all mine theirs = absurd (cc (sym few ∙ is_most voters Q h.voted most (λ k is. mine.voted_is k ∙ or_none (is_voter done k) (all k is))))
        decides (q ∷ qs) done m first h few all mine theirs = by (decides qs (q ∷ done) (deliver m first) (suc first) (with_voted h q)) (is_majority voters (with_voted h q).voted) refl
          where
            Next : Type 0
            Next = is_majority voters (with_voted h q).voted ≡ false → ((k : ℕ) → is_voter Q k ≡ true → (is_voter (q ∷ done) k || is_voter qs k) ≡ true) →
                IsVoting (q ∷ done) (deliver m first) (with_voted h q) → TheyVoted (q ∷ done) qs (deliver m first) (suc first) → Decided (deliver m first) (Run (deliver m first) (numbers_from (suc first) (length qs)))

            by : Next → (now : Bool) → is_majority voters (with_voted h q).voted ≡ now → Decided m (Run (deliver m first) (numbers_from (suc first) (length qs)))
            by again true is =
                let one = completed_step q qs done m first h mine theirs (and_so _ _ is few) in
                let next = mine_next q qs done m first h mine theirs _ one.mine refl refl in
                let rest = past qs (q ∷ done) (deliver m first) (suc first) (with_voted h q) is next (they_next q qs done m first h mine theirs _ one.posted) in
                record {
                  held = rest.held ∙ ap (λ s. s.held) one.mine;
                  others = λ k other. rest.others k other ∙ one.others k other;
                  posted = rest.posted ∙ one.posted;
                }
            by again false is =
                let one = added_step q qs done m first h mine theirs (and_first _ _ is) in
                let next = mine_next q qs done m first h mine theirs _ one.mine refl refl in
                let rest = again is (λ k is. or_moves (is_voter done k) _ (is_voter qs k) (all k is)) next (they_next q qs done m first h mine theirs [] one.posted) in
                record {
                  held = rest.held ∙ ap (λ (s : VoteState). Some (unwrap_or s.held d)) one.mine;
                  others = λ k other. rest.others k other ∙ one.others k other;
                  posted = rest.posted ∙ ap (λ w. w ++ Sent j j (Some (message.Success d))) (one.posted ∙ append-nil (wire m));
                }
