-- Messages of the vote on one second that are delivered, whatever else there is.
use Rattle.std.proofs.Common.{◌≡◌, ◌≢◌, ℕ, suc, ◌+◌, true, cond, List, [], ◌∷◌, ◌++◌, length, map, refl, sym, ap, subst, ◌∙◌, append_assoc, length-append, arith, inl, inr, Option, Some, None}
use Rattle.std.specs.Prelude.{slice_get, if◌then◌else◌}
use Rattle.std.proofs.lemmas.Bool.{cases_eq, cond-true, cond-false}
use Rattle.std.proofs.lemmas.List.{append-nil}
use Rattle.ksi_synod.specs.declared.messages.SynodMessage.{SynodMessage}
use Rattle.ksi_synod.specs.declared.messages.SynodMessage.TheVariants as message
use Rattle.ksi_synod.specs.Voters.{cores_below, is_voter}
use Rattle.ksi_synod.specs.VoteState.{VoteState}
use Rattle.ksi_synod.specs.Rows.{receive}
use Rattle.ksi_laws_progress.specs.Majorities.{AreDistinct}
use Rattle.ksi_laws_progress.proofs.Lists.{here, there, not_here, other_than, get_append, get_behind}

-- whom a message goes to
abbrev pub addressed : (voters : List ℕ) (cores answered : ℕ) → SynodMessage → List ℕ
addressed voters cores answered (message.NextBallot b) = voters
addressed voters cores answered (message.LastVote l) = answered ∷ []
addressed voters cores answered (message.BeginBallot b d) = voters
addressed voters cores answered (message.Voted b) = answered ∷ []
addressed voters cores answered (message.Success d) = cores_below cores

module _ (M Msg : Type 0) (votes : M → ℕ → VoteState) (wire : M → List Msg) (letter : (from to : ℕ) → SynodMessage → Msg) (deliver : M → ℕ → M) (voters : List ℕ) (cores : ℕ) where
  abbrev pub sent : (by answered : ℕ) → Option SynodMessage → List Msg
  sent by answered None = []
  sent by answered (Some what) = map (λ to. letter by to what) (addressed voters cores answered what)

  -- the core's state is this one, all others are as they were, and this was sent
  pub record Stepped (m m' : M) (core answered : ℕ) (r : VoteState × Option SynodMessage) : Type 0 where
    pub mine : votes m' core ≡ r.0
    pub others : (k : ℕ) → k ≢ core → votes m' k ≡ votes m k
    pub posted : wire m' ≡ wire m ++ sent core answered r.1

  -- a message is taken by its row
  abbrev pub Takes : Type 0
  Takes = (m : M) (number from to : ℕ) (what : SynodMessage) → slice_get (wire m) number ≡ Some (letter from to what) →
      Stepped m (deliver m number) to from (receive (votes m to) from what)

  abbrev pub deliver_all : M → List ℕ → M
  deliver_all m [] = m
  deliver_all m (n ∷ ns) = deliver_all (deliver m n) ns

  pub deliver_append : (m : M) (xs ys : List ℕ) → deliver_all m (xs ++ ys) ≡ deliver_all (deliver_all m xs) ys
  deliver_append m [] ys = refl
  deliver_append m (x ∷ xs) ys = deliver_append (deliver m x) xs ys

  module _ (takes : Takes) where
    -- ONE MESSAGE TO EACH OF SOME CORES, who make the same of it
    module _ (from : ℕ) (what : SynodMessage) (number : ℕ → ℕ) (next : VoteState → VoteState) (reply : VoteState → Option SynodMessage) (May : VoteState → Type 0)
        (row : (s : VoteState) → May s → receive s from what ≡ (next s, reply s)) where
      abbrev pub replies : M → List ℕ → List Msg
      replies m [] = []
      replies m (q ∷ qs) = sent q from (reply (votes m q)) ++ replies m qs

      replies_same : (m m' : M) (qs : List ℕ) → ((q : ℕ) → is_voter qs q ≡ true → votes m' q ≡ votes m q) → replies m' qs ≡ replies m qs
      replies_same m m' [] same = refl
      replies_same m m' (q ∷ qs) same =
          ap (λ s. sent q from (reply s) ++ replies m' qs) (same q (here q qs))
          ∙ ap (λ more. sent q from (reply (votes m q)) ++ more) (replies_same m m' qs (λ k is. same k (there q k qs is)))

      pub record Told (m m' : M) (qs : List ℕ) : Type 0 where
        pub state : (k : ℕ) → votes m' k ≡ (if is_voter qs k then next (votes m k) else votes m k)
        pub posted : wire m' ≡ wire m ++ replies m qs

      pub all_told : (qs : List ℕ) (m : M) → AreDistinct qs → ((q : ℕ) → is_voter qs q ≡ true → May (votes m q)) →
          ((q : ℕ) → is_voter qs q ≡ true → slice_get (wire m) (number q) ≡ Some (letter from q what)) → Told m (deliver_all m (map number qs)) qs
      all_told [] m distinct may at = record { state = λ k. refl; posted = sym (append-nil (wire m)) }
      all_told (q ∷ qs) m distinct may at =
          let m1 = deliver m (number q) in
          let is_row = row (votes m q) (may q (here q qs)) in
          let one = takes m (number q) from q what (at q (here q qs)) in
          let rest : Told m1 (deliver_all m1 (map number qs)) qs = all_told qs m1 distinct.1
          (λ k is. subst May (sym (one.others k (other_than q k qs distinct.0 is))) (may k (there q k qs is)))
          (λ k is. subst (λ w. slice_get w (number k) ≡ Some (letter from k what)) (sym one.posted) (get_append (wire m) _ (number k) _ (at k (there q k qs is)))) in
          record {
            state = λ k. elim (cases_eq k q) [
              | inl same ↦ subst (λ k. votes (deliver_all m1 (map number qs)) k ≡ cond (is_voter (q ∷ qs) k) (next (votes m k)) (votes m k)) (sym same)
                  (rest.state q ∙ cond-false (is_voter qs q) _ _ distinct.0 ∙ one.mine ∙ ap (λ r. r.0) is_row
                  ∙ sym (cond-true (is_voter (q ∷ qs) q) (next (votes m q)) (votes m q) (here q qs)))
              | inr other ↦ rest.state k ∙ ap (λ s. cond (is_voter qs k) (next s) s) (one.others k other)
                  ∙ ap (λ b. cond b (next (votes m k)) (votes m k)) (sym (not_here q k qs other))
            ];
            posted = rest.posted
                ∙ ap (λ w. w ++ replies m1 qs) (one.posted ∙ ap (λ (r : VoteState × Option SynodMessage). wire m ++ sent q from r.1) is_row)
                ∙ ap (λ more. (wire m ++ sent q from (reply (votes m q))) ++ more) (replies_same m m1 qs (λ k is. one.others k (other_than q k qs distinct.0 is)))
                ∙ append_assoc (wire m) (sent q from (reply (votes m q))) (replies m qs);
          }

    -- MESSAGES OF SOME CORES TO ONE, each behind the other
    abbrev pub AtFrom : (to : ℕ) (what : ℕ → SynodMessage) → List Msg → (first : ℕ) → List ℕ → Type 0
    AtFrom to what w first [] = Unit {0}
    AtFrom to what w first (q ∷ qs) = (slice_get w first ≡ Some (letter q to (what q))) × AtFrom to what w (suc first) qs

    pub at_more : (to : ℕ) (what : ℕ → SynodMessage) (w more : List Msg) (first : ℕ) (qs : List ℕ) → AtFrom to what w first qs → AtFrom to what (w ++ more) first qs
    at_more to what w more first [] at = tt
    at_more to what w more first (q ∷ qs) at = (get_append w more first _ at.0, at_more to what w more (suc first) qs at.1)

    pub at_behind : (to : ℕ) (what : ℕ → SynodMessage) (w : List Msg) (first : ℕ) (qs : List ℕ) → length w ≡ first → AtFrom to what (w ++ map (λ q. letter q to (what q)) qs) first qs
    at_behind to what w first [] is = tt
    at_behind to what w first (q ∷ qs) is =
        let x = letter q to (what q) in
        let later : List Msg = map (λ q. letter q to (what q)) qs in
        let at : first ≡ first + 0 = omega arith in (
          ap (slice_get (w ++ x ∷ later)) at ∙ get_behind w (x ∷ later) first 0 is,
          subst (λ u. AtFrom to what u (suc first) qs) (append_assoc w (x ∷ []) later) (at_behind to what (w ++ x ∷ []) (suc first) qs (omega (arith, length-append w (x ∷ []), is))),
        )
