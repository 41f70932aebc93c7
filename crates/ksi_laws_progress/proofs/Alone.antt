-- The vote on one second by itself: a ballot that a majority answers decides.
use Rattle.std.proofs.Common.{◌≡◌, ◌≢◌, ℕ, ◌+◌, ◌*◌, ◌<◌, Bool, true, false, ◌&&◌, ltb, eqb, List, [], ◌∷◌, ◌++◌, length, map, refl, sym, ap, subst, ◌∙◌, arith, inl, inr, Option, Some, None}
use Rattle.std.specs.Prelude.{unwrap_or}
use Rattle.std.specs.List.{list_all}
use Rattle.std.proofs.lemmas.Bool.{lt-ltb, cases_eq, cond-true, cond-false, eq-eqb, ne_eqb}
use Rattle.ksi_synod.specs.declared.messages.SynodMessage.{SynodMessage}
use Rattle.ksi_synod.specs.declared.messages.SynodMessage.TheVariants as message
use Rattle.ksi_synod.specs.Voters.{is_voter}
use Rattle.ksi_synod.specs.Ballots.{last_round}
use Rattle.ksi_synod.specs.CorePlans.{AreVoters}
use Rattle.ksi_synod.specs.VoteState.{VoteState, IsVoteStateOf}
use Rattle.ksi_synod.specs.Rows.{greater_round, try_ballot, ballot_told, receive, seal}
use Rattle.ksi_synod.specs.History.{SetUp, Event, Seal, Ballot, Deliver, Message, Moment, IsHistory, is_event, held_by, sends_of, stepped, delivered, happens, first_moment, run, after}
use Rattle.ksi_laws_progress.specs.Numbers.{ballot_numbers}
use Rattle.ksi_laws_progress.specs.Majorities.{IsMajority}
use Rattle.ksi_laws_progress.specs.Vote.{IsAhead, ballot_events, Decides}
use Rattle.ksi_laws_progress.proofs.Lists.{all_at, greatest, many_numbers}
use Rattle.ksi_laws_progress.proofs.Machine.{sent, Stepped, Takes, deliver_all}
use Rattle.ksi_laws_progress.proofs.Gathering.{OfVote}
use Rattle.ksi_laws_progress.proofs.Rows.{sealed_after, seal_leaves}
use Rattle.ksi_laws_progress.proofs.Starting.{SameVote, same_vote, Sealing, holds, beyond}
use Rattle.std.proofs.lemmas.List.{append-nil, length-map}
use Rattle.ksi_synod.specs.declared.messages.Vote.{Vote}

module _ (set_up : SetUp) where
  abbrev votes : Moment → ℕ → VoteState
  votes m k = m.states k

  abbrev wire : Moment → List Message
  wire m = m.wire

  abbrev letter : (from to : ℕ) → SynodMessage → Message
  letter from to what = record { sender = from; addressee = to; what = what }

  abbrev deliver : Moment → ℕ → Moment
  deliver m n = happens set_up m (Deliver n)

  abbrev Step : Moment → Moment → (core answered : ℕ) → VoteState × Option SynodMessage → Type 0
  Step = Stepped Moment Message votes wire letter deliver set_up.voters set_up.cores

  sends : (by answered : ℕ) (o : Option SynodMessage) → sends_of set_up by answered o ≡ sent Moment Message votes wire letter deliver set_up.voters set_up.cores by answered o
  sends by answered None = refl
  sends by answered (Some (message.NextBallot b)) = refl
  sends by answered (Some (message.LastVote l)) = refl
  sends by answered (Some (message.BeginBallot b d)) = refl
  sends by answered (Some (message.Voted b)) = refl
  sends by answered (Some (message.Success d)) = refl

  step_is : (m : Moment) (core answered : ℕ) (r : VoteState × Option SynodMessage) → Step m (stepped set_up m core answered r) core answered r
  step_is m core answered r = record {
    mine = cond-true (eqb core core) r.0 (m.states core) (eq-eqb core core refl);
    others = λ k other. cond-false (eqb k core) r.0 (m.states k) (ne_eqb k core other);
    posted = ap (λ more. m.wire ++ more) (sends core answered r.1);
  }

  takes : Takes Moment Message votes wire letter deliver set_up.voters set_up.cores
  unfolding happens
  takes m number from to what at =
      subst (λ o. Step m (delivered set_up m o) to from (receive (m.states to) from what)) (sym at) (step_is m to from (receive (m.states to) from what))

  -- RUNS
  run-append : (events later : List Event) (m : Moment) → run set_up m (events ++ later) ≡ run set_up (run set_up m events) later
  run-append [] later m = refl
  run-append (e ∷ es) later m = run-append es later (happens set_up m e)

  run_deliver : (ns : List ℕ) (m : Moment) → run set_up m (map Deliver ns) ≡ deliver_all Moment Message votes wire letter deliver set_up.voters set_up.cores m ns
  run_deliver [] m = refl
  run_deliver (n ∷ ns) m = run_deliver ns (happens set_up m (Deliver n))

  -- THE BALLOT
  module _ (small : (q : ℕ) → is_voter set_up.voters q ≡ true → q < 9) (m : Moment) (states : (k : ℕ) → IsVoteStateOf set_up.voters k (m.states k)) (j : ℕ) (c : List ℕ) (Q : List ℕ) (majority : IsMajority set_up.voters Q)
      (more : greater_round (m.states j) ≢ last_round) (ahead : IsAhead m j Q) where
    abbrev m1 : Moment
    m1 = happens set_up m (Seal j c)

    abbrev m2 : Moment
    m2 = happens set_up m1 (Ballot j)

    sealing : Step m m1 j j (seal (m.states j) c, None)
    unfolding happens
    sealing = step_is m j j (seal (m.states j) c, None)

    balloting : Step m1 m2 j j ((try_ballot (m1.states j)).0, ballot_told (try_ballot (m1.states j)).1)
    unfolding happens
    balloting = step_is m1 j j ((try_ballot (m1.states j)).0, ballot_told (try_ballot (m1.states j)).1)

    seal_same : (s : VoteState) → SameVote s (seal s c)
    seal_same s = record {
      me = seal_leaves (λ s. s.me) (λ s o. refl) s c;
      voters = seal_leaves (λ s. s.voters) (λ s o. refl) s c;
      tried = seal_leaves (λ s. s.tried) (λ s o. refl) s c;
      promised = seal_leaves (λ s. s.promised) (λ s o. refl) s c;
      vote = seal_leaves (λ s. s.vote) (λ s o. refl) s c;
      held = seal_leaves (λ s. s.held) (λ s o. refl) s c;
    }

    sealed : Sealing Moment Message votes wire letter deliver set_up.voters set_up.cores takes small j m m1
    sealed =
        let d = sealed_after (m.states j) c in
        record {
          candidate = d.0;
          sealed = ap (λ (s : VoteState). s.candidate) sealing.mine ∙ d.1;
          state = λ k. elim (cases_eq k j) [
            | inl same ↦ subst (λ k. SameVote (m.states k) (m1.states k)) (sym same) (subst (SameVote (m.states j)) (sym sealing.mine) (seal_same (m.states j)))
            | inr other ↦ subst (SameVote (m.states k)) (sym (sealing.others k other)) (same_vote (m.states k))
          ];
          posted = sealing.posted ∙ append-nil m.wire;
        }

    none_likes : (o : Option Vote) → OfVote (λ d. Unit {0}) o
    none_likes None = tt
    none_likes (Some v) = tt

    pub decided : (k : ℕ) → k < set_up.cores → (root : List ℕ) × (((run set_up m (ballot_events set_up m j c Q)).states k).held ≡ Some root)
    decided k lt =
        let h = holds Moment Message votes wire letter deliver set_up.voters set_up.cores takes small j (λ d. Unit {0}) Q majority m m1 m2 states sealed tt (λ q is. none_likes (m.states q).vote) more ahead balloting in (
          unwrap_or (m.states k).held h.decree,
          ap (λ (w : Moment). (w.states k).held) (run_deliver (ballot_numbers (length m.wire) set_up.voters Q set_up.cores) m2) ∙ h.each k lt,
        )

  -- THE LAW
  abbrev pub Agreement : Type 0
  Agreement = (set_up : SetUp) (events : List Event) → IsHistory set_up events → (one other : ℕ) (d e : List ℕ) →
      held_by (after set_up events) one ≡ Some d → held_by (after set_up events) other ≡ Some e → d ≡ e

  all_delivers : (ns : List ℕ) → list_all (is_event set_up.cores) (map Deliver ns) ≡ true
  all_delivers [] = refl
  all_delivers (n ∷ ns) = all_delivers ns

  all_both : (xs ys : List Event) → list_all (is_event set_up.cores) xs ≡ true → list_all (is_event set_up.cores) ys ≡ true → list_all (is_event set_up.cores) (xs ++ ys) ≡ true
  all_both [] ys is is' = is'
  all_both (x ∷ xs) ys is is' = both (is_event set_up.cores x) _ _ is (λ rest. all_both xs ys rest is')
    where
      both : (a b c : Bool) → (a && b) ≡ true → (b ≡ true → c ≡ true) → (a && c) ≡ true
      both true b c is so = so is
      both false b c is so = is

  ballot_all : (j : ℕ) (c : List ℕ) (ns : List ℕ) → j < set_up.cores → list_all (is_event set_up.cores) (Seal j c ∷ Ballot j ∷ map Deliver ns) ≡ true
  ballot_all j c ns lt =
      let is = lt-ltb j set_up.cores lt in
      let so : Bool → Bool → Bool = λ a b. a && (b && list_all (is_event set_up.cores) (map Deliver ns)) in
      ap (λ a. so a (ltb j set_up.cores)) is ∙ ap (λ b. so true b) is ∙ all_delivers ns

  abbrev pub StatesKept : Type 0
  StatesKept = (set_up : SetUp) (events : List Event) → IsHistory set_up events → (core : ℕ) → IsVoteStateOf set_up.voters core ((after set_up events).states core)

  pub ballot_law : Agreement → StatesKept → (events : List Event) → IsHistory set_up events → AreVoters set_up.cores set_up.voters →
      (j : ℕ) (c some : List ℕ) → j < set_up.cores → IsMajority set_up.voters some →
      greater_round ((after set_up events).states j) ≢ last_round → IsAhead (after set_up events) j some →
      Decides set_up events (ballot_events set_up (after set_up events) j c some)
  ballot_law agree kept events is voters j c some lt majority more ahead =
      let m = after set_up events in
      let later = ballot_events set_up m j c some in
      let small : (q : ℕ) → is_voter set_up.voters q ≡ true → q < 9 = λ q there. omega (arith, all_at (λ core. core < set_up.cores) set_up.voters voters.there q there, is.few) in
      let held : (k : ℕ) → k < set_up.cores → (root : List ℕ) × (held_by (after set_up (events ++ later)) k ≡ Some root) = λ k lt.
      let d = decided small m (kept set_up events is) j c some majority more ahead k lt in
      (d.0, ap (λ (m : Moment). held_by m k) (run-append events later (first_moment set_up)) ∙ d.1) in
      let may : IsHistory set_up (events ++ later) = record { few = is.few; theirs = all_both events later is.theirs (ballot_all j c (ballot_numbers (length m.wire) set_up.voters some set_up.cores) lt) } in
      record {
        may = may;
        root = (held j lt).0;
        held = λ k below. (held k below).1 ∙ ap Some (agree set_up (events ++ later) may k j _ _ (held k below).1 (held j lt).1);
      }

pub ahead_of : (m : Moment) (core : ℕ) (cores : List ℕ) → (one : ℕ) × (is_voter (core ∷ cores) one ≡ true) × IsAhead m one (core ∷ cores)
ahead_of m core cores =
    let g = greatest (λ k. (m.states k).promised) core cores in
    (g.0, g.1, λ k is. beyond (m.states g.0) (m.states k).promised (g.2 k is))

pub many_events : (set_up : SetUp) (m : Moment) (j : ℕ) (c some : List ℕ) → length (ballot_events set_up m j c some) ≡ 2 + 4 * length some + set_up.cores
many_events set_up m j c some =
    let ns = ballot_numbers (length m.wire) set_up.voters some set_up.cores in
    omega (arith, length-map ns Deliver, many_numbers (length m.wire) set_up.voters some set_up.cores)
