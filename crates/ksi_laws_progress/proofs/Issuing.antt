-- A request that waits is issued by events that may follow, or its second is missed.
use Rattle.std.proofs.Common.{◌≡◌, ◌≢◌, ℕ, zero, suc, ◌+◌, ◌-◌, ◌*◌, ◌^◌, ◌<◌, ◌≤◌, Bool, true, false, List, [], ◌∷◌, ◌++◌, length, map, refl, sym, ap, subst, ◌∙◌, append_assoc, length-append, arith, inl, inr, Option, Some, None}
use Rattle.std.specs.Prelude.{slice_get, unwrap_or, IsSome, IfSome, replicate}
use Rattle.std.specs.Str.{bytes_eq}
use Rattle.std.proofs.lemmas.Bool.{cases_eq}
use Rattle.std.proofs.lemmas.Slice.Eq.{bytes_eq-Decides}
use Rattle.ksi_imprint.specs.Imprints.{zero_imprint}
use Rattle.ksi_aggtree.specs.declared.entries.Entry.{Entry}
use Rattle.ksi_aggtree.specs.Entries.{candidate_of}
use Rattle.ksi_synod.specs.declared.messages.Vote.{Vote}
use Rattle.ksi_synod.specs.Rows.{greater_round}
use Rattle.ksi_calendar.specs.Covered.{first_missing}
use Rattle.ksi_corenode.specs.SecondState.{SecondState}
use Rattle.ksi_aggregator.specs.Rows.{RoundState}
use Rattle.ksi_schedule.specs.declared.actor.Actor.{Actor}
use Rattle.ksi_schedule.specs.declared.actor.Actor.TheVariants as actors
use Rattle.ksi_schedule.specs.declared.event.Event.{Event}
use Rattle.ksi_schedule.specs.declared.event.Event.TheVariants as events
use Rattle.ksi_schedule.specs.Plans.{PlanState, IsPlan, parent_of, core_plan_of}
use Rattle.ksi_schedule.specs.Events.{AreEvents}
use Rattle.ksi_world.specs.declared.outcome.Asked.{Asked}
use Rattle.ksi_world.specs.Histories.{WorldState, held_in, after}
use Rattle.ksi_world.specs.Records.{issued_of}
use Rattle.ksi_world.specs.Lasting.{IsAskedOf}
use Rattle.ksi_laws_progress.specs.Deciding.{voters_on, vote_in, own_candidate, ballot_events, tries, ballot_length, HoldAll, HoldSeconds}
use Rattle.ksi_laws_progress.specs.Issuing.{has_request, HasItemOf, IsJoinedAbove, IsWaiting, IsJoinedTo, HasWon, IsUndecided, CanBeIssuedOrMissed, CanBeJoined, CanBeIssued}
use Rattle.ksi_laws_progress.specs.Numbers.{ballot_numbers}
use Rattle.ksi_laws_progress.proofs.Lists.{majority_few, many_numbers}
use Rattle.std.proofs.lemmas.List.{length-map, length-replicate}
use Rattle.ksi_laws_progress.proofs.Rounds.{greater_within}
use Rattle.ksi_laws_progress.proofs.Below.{SecondsKeep, VoteLaws, NoneMissing, ClosedSubmitted, RequestsOfPlan}
use Rattle.ksi_laws_progress.proofs.Bounds.{after_bounded}
use Rattle.ksi_laws_progress.proofs.Deciding.{are_both, after-append}
use Rattle.ksi_laws_progress.proofs.Framing.{IsFrame, frame_both, ballot_frame, tries_frame}
use Rattle.ksi_laws_progress.proofs.Unstuck.{any_wins, Covers, covers, IsLeft}
use Rattle.ksi_laws_progress.proofs.Answering.{StandsIn, issues}
use Rattle.ksi_aggregator.specs.Rounds.{items_in}
use Rattle.ksi_laws_progress.proofs.Closing.{Up, IsUp, goes_up}

module _ (plan : PlanState) (j t : ℕ) where
  -- what a core above has sealed
  top_sealed : (w : WorldState) (n k : ℕ) (parent : Actor) → IsJoinedAbove plan w j t n k parent → (entries : List Entry) × ((w.seconds j t).sealed ≡ Some entries)
  top_sealed w n k (actors.Core i) joined = (joined.1.entries, joined.1.sealed)
  top_sealed w zero k (actors.Aggregator p) joined = absurd joined
  top_sealed w (suc n) k (actors.Aggregator p) joined = top_sealed w n p (parent_of plan p) joined.1

  joined_stays : (w w' : WorldState) → ((u : ℕ) → w'.rounds u t ≡ w.rounds u t) → ((entries : List Entry) → (w.seconds j t).sealed ≡ Some entries → (w'.seconds j t).sealed ≡ Some entries) →
      (n k : ℕ) (parent : Actor) → IsJoinedAbove plan w j t n k parent → IsJoinedAbove plan w' j t n k parent
  joined_stays w w' rounds sealed n k (actors.Core i) joined = (joined.0, record { entries = joined.1.entries; sealed = sealed joined.1.entries joined.1.sealed; there = joined.1.there })
  joined_stays w w' rounds sealed zero k (actors.Aggregator p) joined = absurd joined
  joined_stays w w' rounds sealed (suc n) k (actors.Aggregator p) joined = (subst (HasItemOf k) (sym (rounds p)) joined.0, joined_stays w w' rounds sealed n p (parent_of plan p) joined.1)

module _ (laws : VoteLaws) (closed_sent : ClosedSubmitted) (of_plan_are : RequestsOfPlan) (missing : NoneMissing) (image : List ℕ → List ℕ) (plan : PlanState) (is : IsPlan plan)
    (es : List Event) (are : AreEvents plan es) (j steps number : ℕ) (asked : Asked) (below : j < plan.cores) (low : steps ≤ 8) (some : List ℕ)
    (waits : IsWaiting plan (after image plan es) j steps number asked) (undecided : IsUndecided plan (after image plan es) j asked.second some) (short : length es < 2 ^ 30) where
  abbrev k : ℕ
  k = asked.aggregator

  abbrev t : ℕ
  t = asked.second

  abbrev w : WorldState
  w = after image plan es

  of_plan : IsAskedOf plan asked
  of_plan = of_plan_are image plan es are number asked waits.accepted

  has_items : (entries : List Entry) → has_request number entries ≡ true → 0 < length entries
  has_items [] there = absurd (cc there)
  has_items (entry ∷ entries) there = omega arith

  -- UP
  up : Up laws.own closed_sent image plan is t j of_plan.1 below steps k w
  up = goes_up laws.own closed_sent image plan is t j of_plan.1 below steps k (parent_of plan k) refl w (laws.own.history image plan es) (closed_sent.history image plan es) of_plan.0
      (record { unanswered = waits.unanswered; some = has_items (items_in (w.rounds k t)) waits.there }) waits.above

  abbrev es1 : List Event
  es1 = es ++ up.0

  abbrev w1 : WorldState
  w1 = after image plan es1

  is_up : IsUp laws.own closed_sent image plan is t j of_plan.1 below steps k w w1
  is_up = subst (IsUp laws.own closed_sent image plan is t j of_plan.1 below steps k w) (sym (after-append image plan es up.0)) up.3

  are1 : AreEvents plan es1
  are1 = are_both plan es up.0 are up.1

  long1 : length es1 ≤ length es + 19
  long1 = omega (arith, length-append es up.0, up.2, low)

  -- THE VOTE
  abbrev n : ℕ
  n = length es1

  bounded : (q : ℕ) → greater_round (vote_in w1 q t) ≤ n
  bounded q = greater_within n (vote_in w1 q t) ((after_bounded laws.own image plan is es1 are1).votes q t)

  none_for : (c : List ℕ) (o : Option Vote) → o ≡ None → IfSome o (λ vote. vote.imprint ≡ c)
  none_for c None none = tt
  none_for c (Some v) none = absurd (cc none)

  abbrev later2 : List Event
  later2 = tries j t n ++ ballot_events plan (after image plan (es1 ++ tries j t n)) j t some

  wins : HoldAll image plan es1 later2 t (own_candidate image w1 j t)
  wins = any_wins laws image plan is t of_plan.1 es1 are1 j below n some undecided.majority
      (λ q there. omega (arith, ((after_bounded laws.own image plan is es1 are1).votes q t).promised))
      (omega (arith, bounded j, long1, short))
      ((is_up.votes j t).held ∙ undecided.unheld)
      (λ q there. none_for (own_candidate image w1 j t) (vote_in w1 q t).vote ((is_up.votes q t).vote ∙ undecided.unvoted q there))

  abbrev es2 : List Event
  es2 = es1 ++ later2

  abbrev w2 : WorldState
  w2 = after image plan es2

  frame : IsFrame t w1 w2
  frame =
      let mid = es1 ++ tries j t n in
      let last = ballot_events plan (after image plan mid) j t some in
      let one : IsFrame t w1 (after image plan mid) = subst (IsFrame t w1) (sym (after-append image plan es1 (tries j t n))) (tries_frame image plan t w1 j n) in
      let two : IsFrame t (after image plan mid) (after image plan (mid ++ last)) = subst (IsFrame t (after image plan mid)) (sym (after-append image plan mid last)) (ballot_frame image plan t (after image plan mid) j some) in
      subst (λ es. IsFrame t w1 (after image plan es)) (append_assoc es1 (tries j t n) last) (frame_both t w1 (after image plan mid) (after image plan (mid ++ last)) one two)

  are2 : AreEvents plan es2
  are2 = are_both plan es1 later2 are1 wins.may

  few_some : length some ≤ plan.cores
  few_some =
      let there = laws.are_there (core_plan_of plan) t is.core_plan in
      omega (arith, majority_few (voters_on plan t) some undecided.majority, laws.are_few plan.cores (voters_on plan t) there)

  long2 : length es2 ≤ 2 * length es1 + 48
  long2 =
      let mid = after image plan (es1 ++ tries j t n) in
      let last = ballot_events plan mid j t some in
      let ns = ballot_numbers (length mid.wire) (voters_on plan t) some plan.cores in
      let a = length-append es1 later2 in
      let b = length-append (tries j t n) last in
      let c = length-replicate n (events.Ballot j t) in
      let d = length-map ns events.Deliver in
      let e = many_numbers (length mid.wire) (voters_on plan t) some plan.cores in
      let few = is.core_plan.few in
      sum (length es1) (length es2) (length later2) (length (tries j t n)) (length (replicate n (events.Ballot j t))) (length last) (length (map events.Deliver ns)) (length ns) (length some) plan.cores a b refl c refl d e few_some few
    where
      sum : (e1 e2 l2 tr re la ma nu so co : ℕ) → e2 ≡ e1 + l2 → l2 ≡ tr + la → tr ≡ suc re → re ≡ e1 → la ≡ suc (suc ma) → ma ≡ nu → nu ≡ 4 * so + co → so ≤ co → co ≤ 9 → e2 ≤ 2 * e1 + 48
      sum e1 e2 l2 tr re la ma nu so co a b c d e f g h i = omega arith

  -- ALL SECONDS BEFORE
  abbrev before : ℕ
  before = t - plan.start

  to_t : plan.start + before ≡ t
  to_t = omega (arith, of_plan.1.0)

  small_product : (a b : ℕ) → a ≤ 2 ^ 24 → b ≤ 47 → a * b ≤ 2 ^ 24 * 47
  small_product a b le le' = grind arith

  covered : Covers laws image plan is es2 plan.start before
  covered = covers laws image plan is before plan.start (omega arith) (omega (arith, to_t, of_plan.1.1)) es2 are2
      (omega (arith, long2, long1, short, small_product before (ballot_length plan) (omega (arith, to_t, of_plan.1.1)) (omega (arith, is.core_plan.few))))

  abbrev later3 : List Event
  later3 = covered.0

  abbrev es3 : List Event
  es3 = es2 ++ later3

  abbrev w3 : WorldState
  w3 = after image plan es3

  seconds : HoldSeconds image plan es2 later3 plan.start (plan.start + before)
  seconds = covered.2

  left : IsLeft laws image plan is (plan.start + before) w2 w3
  left = covered.3

  rounds_stay : (u : ℕ) → w3.rounds u t ≡ w1.rounds u t
  rounds_stay u = left.rounds u t ∙ frame.rounds u t

  now_t : w3.seconds j t ≡ w2.seconds j t
  now_t = left.seconds j t (omega (arith, to_t))

  seals_stay : (entries : List Entry) → (w1.seconds j t).sealed ≡ Some entries → (w3.seconds j t).sealed ≡ Some entries
  seals_stay entries at = ap (λ (s : SecondState). s.sealed) now_t ∙ frame.sealed j entries at

  sealed1 : (entries : List Entry) × ((w1.seconds j t).sealed ≡ Some entries)
  sealed1 = top_sealed plan j t w1 steps k (parent_of plan k) is_up.joined

  abbrev entries : List Entry
  entries = sealed1.0

  held3 : held_in w3 j t ≡ Some (candidate_of image entries)
  held3 = laws.stays image plan es2 later3 j t (candidate_of image entries)
      (wins.held j below ∙ ap (λ o. Some (candidate_of image (unwrap_or o (w1.seconds j t).open_items))) sealed1.1)

  is_some : (o : Option (List ℕ)) (root : List ℕ) → o ≡ Some root → IsSome o
  is_some None root at = absurd (cc at)
  is_some (Some x) root at = refl

  none_missing : first_missing (held_in w3 j) plan.start t ≡ None
  none_missing = (missing (held_in w3 j) plan.start t).1 (λ u le le'. elim (cases_eq u t) [
    | inl same ↦ is_some (held_in w3 j u) (candidate_of image entries) (ap (held_in w3 j) same ∙ held3)
    | inr other ↦ seconds.held j u below le (omega (arith, to_t))
  ])

  abbrev Stands : candidate_of image entries ≢ zero_imprint → Type 0
  Stands real = StandsIn image plan is t w3 j entries (seals_stay entries sealed1.1) held3 real none_missing number asked

  stands : (real : candidate_of image entries ≢ zero_imprint) → Stands real
  stands real =
      let requests : w3.requests ≡ w.requests = left.requests ∙ frame.requests ∙ is_up.requests in
      record {
        accepted = ap (λ requests. slice_get requests number) requests ∙ waits.accepted;
        second = refl;
        items = items_in (w.rounds k t);
        closed = ap (λ (r : RoundState). r.closed) (rounds_stay k) ∙ is_up.closed;
        unanswered = ap (λ (r : RoundState). r.answered) (rounds_stay k) ∙ is_up.unanswered;
        there = waits.there;
      }

  joined3 : IsJoinedAbove plan w3 j t steps k (parent_of plan k)
  joined3 = joined_stays plan j t w1 w3 rounds_stay seals_stay steps k (parent_of plan k) is_up.joined

  deliveries_may : (ns : List ℕ) → AreEvents plan (map events.Deliver ns)
  deliveries_may [] = tt
  deliveries_may (n ∷ ns) = (tt, deliveries_may ns)

  abbrev later : List Event → List Event
  later later4 = up.0 ++ (later2 ++ (later3 ++ later4))

  joined_events : (later4 : List Event) → es3 ++ later4 ≡ es ++ later later4
  joined_events later4 = append_assoc es2 later3 later4 ∙ append_assoc es1 later2 (later3 ++ later4) ∙ append_assoc es up.0 (later2 ++ (later3 ++ later4))

  all_may : (later4 : List Event) → AreEvents plan later4 → AreEvents plan (later later4)
  all_may later4 may4 = are_both plan up.0 _ up.1 (are_both plan later2 _ wins.may (are_both plan later3 later4 seconds.may may4))

  pub settles : (more : List Event) × CanBeIssuedOrMissed image plan es more j t number
  settles = by (bytes_eq (candidate_of image entries) zero_imprint) refl
    where
      unlike : bytes_eq (candidate_of image entries) zero_imprint ≡ false → candidate_of image entries ≢ zero_imprint
      unlike differs same = absurd (cc (sym differs ∙ (bytes_eq-Decides (candidate_of image entries) zero_imprint).1 same))

      by : (b : Bool) → bytes_eq (candidate_of image entries) zero_imprint ≡ b → (more : List Event) × CanBeIssuedOrMissed image plan es more j t number
      by true missed = (
        later [],
        record {
          may = all_may [] tt;
          issued_or_missed = inr (subst (λ es. held_in (after image plan es) j t ≡ Some zero_imprint) (joined_events [])
              (laws.stays image plan es3 [] j t zero_imprint (held3 ∙ ap Some ((bytes_eq-Decides (candidate_of image entries) zero_imprint).0 missed))));
        },
      )
      by false differs =
          let real = unlike differs in
          let i = issues image plan is t w3 j entries (seals_stay entries sealed1.1) held3 real none_missing steps number asked (stands real) joined3 in
          let later4 = events.Respond j t ∷ map events.Deliver i.0 in (
            later later4,
            record {
              may = all_may later4 ((below, of_plan.1), deliveries_may i.0);
              issued_or_missed = inl (
                i.2.0,
                subst (λ es. issued_of image (after image plan es) number ≡ Some i.2.0) (joined_events later4)
                    (ap (λ w. issued_of image w number) (after-append image plan es3 later4) ∙ i.2.1),
              );
            },
          )

-- THE TWO HALVES

module _ (keep : SecondsKeep) (closed_sent : ClosedSubmitted) (of_plan_are : RequestsOfPlan) (image : List ℕ → List ℕ) (plan : PlanState) (is : IsPlan plan) (es : List Event) (are : AreEvents plan es) (j steps number : ℕ) (asked : Asked) (below : j < plan.cores) where
  pub joins : IsWaiting plan (after image plan es) j steps number asked → (later : List Event) × (length later ≤ 3 + 2 * steps) × CanBeJoined image plan es later j steps number asked
  joins waits =
      let w = after image plan es in
      let k = asked.aggregator in
      let t = asked.second in
      let of_plan = of_plan_are image plan es are number asked waits.accepted in
      let up = goes_up keep closed_sent image plan is t j of_plan.1 below steps k (parent_of plan k) refl w (keep.history image plan es) (closed_sent.history image plan es) of_plan.0
      (record { unanswered = waits.unanswered; some = some_items (items_in (w.rounds k t)) waits.there }) waits.above in
      let is_up = subst (IsUp keep closed_sent image plan is t j of_plan.1 below steps k w) (sym (after-append image plan es up.0)) up.3 in (
        up.0,
        up.2,
        record {
          may = up.1;
          joined = record {
            accepted = ap (λ requests. slice_get requests number) is_up.requests ∙ waits.accepted;
            items = items_in (w.rounds k t);
            closed = is_up.closed;
            unanswered = is_up.unanswered;
            there = waits.there;
            above = is_up.joined;
          };
          votes = record {
            tried = λ q u. (is_up.votes q u).tried;
            promised = λ q u. (is_up.votes q u).promised;
            vote = λ q u. (is_up.votes q u).vote;
            held = λ q u. (is_up.votes q u).held;
          };
        },
      )
    where
      some_items : (entries : List Entry) → has_request number entries ≡ true → 0 < length entries
      some_items [] there = absurd (cc there)
      some_items (entry ∷ entries) there = omega arith

module _ (of_plan_are : RequestsOfPlan) (image : List ℕ → List ℕ) (plan : PlanState) (is : IsPlan plan) (es : List Event) (are : AreEvents plan es) (j steps number : ℕ) (asked : Asked) (below : j < plan.cores) where
  deliveries_are : (ns : List ℕ) → AreEvents plan (map events.Deliver ns)
  deliveries_are [] = tt
  deliveries_are (n ∷ ns) = (tt, deliveries_are ns)

  pub issues_joined : NoneMissing → IsJoinedTo plan (after image plan es) j steps number asked → HasWon image plan (after image plan es) j asked.second →
      (later : List Event) × (length later ≤ 2 + steps) × CanBeIssued image plan es later number
  issues_joined missing joined won =
      let w = after image plan es in
      let t = asked.second in
      let of_plan = of_plan_are image plan es are number asked joined.accepted in
      let sealed = top_sealed plan j t w steps asked.aggregator (parent_of plan asked.aggregator) joined.above in
      let own : own_candidate image w j t ≡ candidate_of image sealed.0 = ap (λ o. candidate_of image (unwrap_or o (w.seconds j t).open_items)) sealed.1 in
      let i = issues image plan is t w j sealed.0 sealed.1 (won.own ∙ ap Some own) (λ zero. won.real (own ∙ zero)) ((missing (held_in w j) plan.start t).1 won.covered.each) steps number asked
      (record { accepted = joined.accepted; second = refl; items = joined.items; closed = joined.closed; unanswered = joined.unanswered; there = joined.there }) joined.above in (
        events.Respond j t ∷ map events.Deliver i.0,
        omega (arith, length-map i.0 events.Deliver, i.1),
        record {
          may = ((below, of_plan.1), deliveries_are i.0);
          text = i.2.0;
          issued = ap (λ w. issued_of image w number) (after-append image plan es (events.Respond j t ∷ map events.Deliver i.0)) ∙ i.2.1;
        },
      )
