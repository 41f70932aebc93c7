-- A core seals and tries a ballot that is beyond the promises of a majority: it is ready.
use Rattle.std.proofs.Common.{◌≡◌, ◌≢◌, ℕ, ◌+◌, ◌/◌, ◌<◌, ◌≤◌, true, List, ◌++◌, length, map, refl, sym, ap, subst, ◌∙◌, arith, inl, inr, Option, Some}
use Rattle.std.specs.Prelude.{max, unwrap_or}
use Rattle.std.proofs.lemmas.Bool.{cases_eq}
use Rattle.ksi_synod.specs.declared.messages.SynodMessage.{SynodMessage}
use Rattle.ksi_synod.specs.declared.messages.SynodMessage.TheVariants as message
use Rattle.ksi_synod.specs.declared.messages.Begun.{Begun}
use Rattle.ksi_synod.specs.declared.messages.Begun.TheVariants.{Next}
use Rattle.ksi_synod.specs.Voters.{is_voter}
use Rattle.ksi_synod.specs.Ballots.{ballot_number, last_round}
use Rattle.ksi_synod.specs.VoteState.{VoteState, Hand, new_hand, IsVoteStateOf}
use Rattle.ksi_synod.specs.Rows.{greater_round, next_ballot, try_ballot, ballot_told, is_older}
use Rattle.ksi_laws_progress.specs.Numbers.{ballot_numbers}
use Rattle.ksi_synod.specs.declared.messages.Vote.{Vote}
use Rattle.ksi_synod.specs.Rows.{greater_vote}
use Rattle.std.specs.Prelude.{[], ◌∷◌, None}
use Rattle.ksi_laws_progress.specs.Majorities.{IsMajority, greatest_from, root_by}
use Rattle.ksi_laws_progress.proofs.Lists.{majority_most}
use Rattle.ksi_laws_progress.proofs.Machine.{Stepped, Takes, deliver_all}
use Rattle.ksi_laws_progress.proofs.Gathering.{OfVote}
use Rattle.ksi_laws_progress.proofs.Balloting.{IsReady, AllHold, ballot_decides}
use Rattle.ksi_laws_progress.proofs.Rows.{is_older_vote, tries}

-- but for the candidate and the ballot in hand it is the same
pub record SameVote (s s' : VoteState) : Type 0 where
  pub me : s'.me ≡ s.me
  pub voters : s'.voters ≡ s.voters
  pub tried : s'.tried ≡ s.tried
  pub promised : s'.promised ≡ s.promised
  pub vote : s'.vote ≡ s.vote
  pub held : s'.held ≡ s.held

pub same_vote : (s : VoteState) → SameVote s s
same_vote s = record { me = refl; voters = refl; tried = refl; promised = refl; vote = refl; held = refl }

next_same : (s s' : VoteState) → SameVote s s' → next_ballot s' ≡ next_ballot s
next_same s s' is =
    let round_with : ℕ → ℕ → ℕ → ℕ = λ t p me. ballot_number (max (t / 16) (p / 16) + 1) me in
    ap (λ t. round_with t s'.promised s'.me) is.tried ∙ ap (λ p. round_with s.tried p s'.me) is.promised ∙ ap (λ me. round_with s.tried s.promised me) is.me

round_same : (s s' : VoteState) → SameVote s s' → greater_round s' ≡ greater_round s
round_same s s' is =
    let round_with : ℕ → ℕ → ℕ = λ t p. max (t / 16) (p / 16) in
    ap (λ t. round_with t s'.promised) is.tried ∙ ap (λ p. round_with s.tried p) is.promised

greatest_same : (f g : ℕ → Option Vote) → ((k : ℕ) → f k ≡ g k) → (o : Option Vote) (ks : List ℕ) → greatest_from f o ks ≡ greatest_from g o ks
greatest_same f g same o [] = refl
greatest_same f g same o (k ∷ ks) = ap (λ v. greatest_from f (greater_vote o v) ks) (same k) ∙ greatest_same f g same (greater_vote o (g k)) ks

-- the voter with the greatest promise among some is beyond all of them
pub beyond : (s : VoteState) (p : ℕ) → p ≤ s.promised → p < next_ballot s
beyond s p le = let m = greater_round s in omega arith

module _ (M Msg : Type 0) (votes : M → ℕ → VoteState) (wire : M → List Msg) (letter : (from to : ℕ) → SynodMessage → Msg) (deliver : M → ℕ → M) (voters : List ℕ) (cores : ℕ)
    (takes : Takes M Msg votes wire letter deliver voters cores) (small : (q : ℕ) → is_voter voters q ≡ true → q < 9) (j : ℕ) where
  -- the core is sealed now
  pub record Sealing (m m1 : M) : Type 0 where
    pub candidate : List ℕ
    pub sealed : (votes m1 j).candidate ≡ Some candidate
    pub state : (k : ℕ) → SameVote (votes m k) (votes m1 k)
    pub posted : wire m1 ≡ wire m

  module _ (Good : List ℕ → Type 0) (Q : List ℕ) (majority : IsMajority voters Q) (m m1 m2 : M) (states : (k : ℕ) → IsVoteStateOf voters k (votes m k)) (sealing : Sealing m m1)
      (is_good : Good sealing.candidate) (likes : (q : ℕ) → is_voter Q q ≡ true → OfVote Good (votes m q).vote)
      (more : greater_round (votes m j) ≢ last_round) (ahead : (q : ℕ) → is_voter Q q ≡ true → (votes m q).promised < next_ballot (votes m j))
      (one : Stepped M Msg votes wire letter deliver voters cores m1 m2 j j ((try_ballot (votes m1 j)).0, ballot_told (try_ballot (votes m1 j)).1)) where
    abbrev pub b : ℕ
    b = next_ballot (votes m j)

    abbrev s1 : VoteState
    s1 = votes m1 j

    b_is : next_ballot s1 ≡ b
    b_is = next_same (votes m j) s1 (sealing.state j)

    tried_is : try_ballot s1 ≡ (record s1 { tried = b; hand = Some (new_hand b) }, Next b)
    tried_is = subst (λ x. try_ballot s1 ≡ (record s1 { tried = x; hand = Some (new_hand x) }, Next x)) b_is
        (tries s1 sealing.candidate sealing.sealed (λ last. more (sym (round_same (votes m j) s1 (sealing.state j)) ∙ last)))

    abbrev told_of : VoteState × Begun → VoteState × Option SynodMessage
    told_of r = (r.0, ballot_told r.1)

    two : Stepped M Msg votes wire letter deliver voters cores m1 m2 j j (record s1 { tried = b; hand = Some (new_hand b) }, Some (message.NextBallot b))
    two = subst (λ r. Stepped M Msg votes wire letter deliver voters cores m1 m2 j j (told_of r)) tried_is one

    keeps : {X : Type 0} (f : VoteState → X) → ((s : VoteState) (t : ℕ) (h : Option Hand) → f (record s { tried = t; hand = h }) ≡ f s) → (k : ℕ) → f (votes m2 k) ≡ f (votes m1 k)
    keeps f so k = elim (cases_eq k j) [
      | inl same ↦ subst (λ k. f (votes m2 k) ≡ f (votes m1 k)) (sym same) (ap f two.mine ∙ so s1 b (Some (new_hand b)))
      | inr other ↦ ap f (two.others k other)
    ]

    promised_is : (k : ℕ) → (votes m2 k).promised ≡ (votes m k).promised
    promised_is k = keeps (λ s. s.promised) (λ s t h. refl) k ∙ (sealing.state k).promised

    vote_is : (k : ℕ) → (votes m2 k).vote ≡ (votes m k).vote
    vote_is k = keeps (λ s. s.vote) (λ s t h. refl) k ∙ (sealing.state k).vote

    held_is : (k : ℕ) → (votes m2 k).held ≡ (votes m k).held
    held_is k = keeps (λ s. s.held) (λ s t h. refl) k ∙ (sealing.state k).held

    ready : IsReady M Msg votes wire letter deliver voters cores takes small j b Good Q m2 (length (wire m))
    ready = record {
      most = majority_most voters Q majority;
      distinct = majority.distinct;
      vote_too = majority.vote;
      candidate = sealing.candidate;
      is_good = is_good;
      sealed = keeps (λ s. s.candidate) (λ s t h. refl) j ∙ sealing.sealed;
      hand = ap (λ s. s.hand) two.mine;
      voters_are = keeps (λ s. s.voters) (λ s t h. refl) j ∙ (sealing.state j).voters ∙ (states j).voters_are;
      behind = λ q is. omega (arith, promised_is q, ahead q is);
      older = λ q is. ap (λ v. is_older v b) (vote_is q) ∙ is_older_vote voters q (votes m q) (states q) b (ahead q is);
      likes = λ q is. subst (OfVote Good) (sym (vote_is q)) (likes q is);
      before = wire m;
      posted = two.posted ∙ ap (λ w. w ++ map (λ to. letter j to (message.NextBallot b)) voters) sealing.posted;
      first_is = refl;
    }

    abbrev pub m3 : M
    m3 = deliver_all M Msg votes wire letter deliver voters cores m2 (ballot_numbers (length (wire m)) voters Q cores)

    -- each core holds what it held, or else a good decree
    pub holds : AllHold M Msg votes wire letter deliver voters cores takes small j b Good Q sealing.candidate (length (wire m)) m m3
    unfolding ready
    holds =
        let h = ballot_decides M Msg votes wire letter deliver voters cores takes small j b Good Q m2 (length (wire m)) ready in
        record {
          decree = h.decree;
          is_good = h.is_good;
          each = λ k lt. h.each k lt ∙ ap (λ o. Some (unwrap_or o h.decree)) (held_is k);
          sent = h.sent;
          exact = λ distinct least. h.exact distinct least ∙ ap (λ g. root_by g sealing.candidate) (greatest_same (λ q. (votes m2 q).vote) (λ q. (votes m q).vote) vote_is None Q);
        }
