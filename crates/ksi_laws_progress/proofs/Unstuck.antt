-- No history is stuck: from each one events may follow after which all cores hold a root.
use Rattle.std.proofs.Common.{◌≡◌, ◌≢◌, ℕ, zero, suc, ◌+◌, ◌*◌, ◌/◌, ◌^◌, ◌<◌, ◌≤◌, true, false, ◌||◌, List, [], ◌∷◌, ◌++◌, length, map, refl, sym, ap, subst, ◌∙◌, append_assoc, length-append, arith, inl, inr, Option, Some, None}
use Rattle.std.specs.Prelude.{unwrap_or, IsSome, IfSome, replicate}
use Rattle.std.specs.List.{AllByRecursion}
use Rattle.std.proofs.lemmas.Bool.{cases_eq, ne_eqb}
use Rattle.std.proofs.lemmas.List.{append-nil, length-map}
use Rattle.ksi_synod.specs.Ballots.{last_round}
use Rattle.ksi_synod.specs.declared.messages.Vote.{Vote}
use Rattle.ksi_synod.specs.Voters.{is_voter}
use Rattle.ksi_synod.specs.CorePlans.{AreVoters, AreRising}
use Rattle.ksi_synod.specs.VoteState.{VoteState}
use Rattle.ksi_synod.specs.Rows.{greater_round, next_ballot}
use Rattle.ksi_schedule.specs.declared.event.Event.{Event}
use Rattle.ksi_schedule.specs.declared.event.Event.TheVariants as events
use Rattle.ksi_schedule.specs.Plans.{PlanState, IsPlan, InRange, core_plan_of}
use Rattle.ksi_schedule.specs.Events.{AreEvents}
use Rattle.ksi_world.specs.Histories.{WorldState, held_in, run, after}
use Rattle.ksi_laws_progress.specs.Numbers.{ballot_numbers}
use Rattle.ksi_laws_progress.specs.Majorities.{AreDistinct, IsMajority, IsLeast, greatest_from, root_by}
use Rattle.ksi_laws_progress.specs.Deciding.{voters_on, vote_in, own_candidate, IsAhead, VotedFor, ballot_events, tries, ballot_length, HoldAll, HoldSeconds}
use Rattle.ksi_laws_progress.proofs.Lists.{all_at, greatest, many_numbers}
use Rattle.ksi_laws_progress.proofs.Gathering.{OfVote}
use Rattle.ksi_laws_progress.proofs.Starting.{beyond}
use Rattle.ksi_laws_progress.proofs.Rounds.{greater_within}
use Rattle.ksi_laws_progress.proofs.Below.{VoteLaws}
use Rattle.ksi_laws_progress.proofs.Trying.{IsTried, all_tried}
use Rattle.ksi_laws_progress.proofs.Bounds.{after_bounded}
use Rattle.ksi_laws_progress.proofs.Framing.{IsFrame, ballot_frame}
use Rattle.ksi_laws_progress.proofs.Deciding.{are_both, after-append, all_hold}

-- VOTERS

not_among : (x : ℕ) (xs : List ℕ) → AllByRecursion (λ y. x < y) xs → is_voter xs x ≡ false
not_among x [] above = refl
not_among x (y ∷ ys) above = ap (λ b. b || is_voter ys x) (ne_eqb y x (λ same. omega (arith, above.0, same))) ∙ not_among x ys above.1

rising_distinct : (xs : List ℕ) → AreRising xs → AreDistinct xs
rising_distinct [] rising = tt
rising_distinct (x ∷ xs) rising = (not_among x xs rising.0, rising_distinct xs rising.1)

pub all_majority : (cores : ℕ) (voters : List ℕ) → AreVoters cores voters → IsMajority voters voters
all_majority cores voters are = record { distinct = rising_distinct voters are.rising; vote = λ k is. is; most = omega (arith, are.some) }

-- one of some cores is beyond all of them
module _ (w : WorldState) (t : ℕ) where
  abbrev IsFirst : List ℕ → Type 0
  IsFirst some = (one : ℕ) × (is_voter some one ≡ true) × (greater_round (vote_in w one t) ≢ last_round → IsAhead w one t some)

  pub first_of : (some : List ℕ) → 0 < length some → IsFirst some
  first_of [] none = absurd (omega arith)
  first_of (x ∷ xs) there =
      let g = greatest (λ k. (vote_in w k t).promised) x xs in
      (g.0, g.1, λ more. record { more = more; beyond = λ k is. beyond (vote_in w g.0 t) (vote_in w k t).promised (g.2 k is) })

module _ (laws : VoteLaws) (image : List ℕ → List ℕ) (plan : PlanState) (is : IsPlan plan) where
  module _ (t : ℕ) where
    voters_are : AreVoters plan.cores (voters_on plan t)
    voters_are = laws.are_there (core_plan_of plan) t is.core_plan

    voter_below : (q : ℕ) → is_voter (voters_on plan t) q ≡ true → q < plan.cores
    voter_below q there = all_at (λ core. core < plan.cores) (voters_on plan t) voters_are.there q there

    small : (q : ℕ) → is_voter (voters_on plan t) q ≡ true → q < 9
    small q there = omega (arith, voter_below q there, is.core_plan.few)

    deliveries_may : (ns : List ℕ) → AreEvents plan (map events.Deliver ns)
    deliveries_may [] = tt
    deliveries_may (n ∷ ns) = (tt, deliveries_may ns)

    module _ (range : InRange plan t) (es : List Event) (are : AreEvents plan es) where
      abbrev w : WorldState
      w = after image plan es

      pub ballot_may : (j : ℕ) (some : List ℕ) → j < plan.cores → AreEvents plan (ballot_events plan w j t some)
      ballot_may j some lt = ((lt, range), ((lt, range), deliveries_may (ballot_numbers (length w.wire) (voters_on plan t) some plan.cores)))

      none_likes : (o : Option Vote) → OfVote (λ d. Unit {0}) o
      none_likes None = tt
      none_likes (Some v) = tt

      -- A BALLOT DECIDES
      decided_by : (Good : List ℕ → Type 0) (j : ℕ) (some : List ℕ) → j < plan.cores → IsMajority (voters_on plan t) some → IsAhead w j t some →
          Good (own_candidate image w j t) → ((q : ℕ) → is_voter some q ≡ true → OfVote Good (vote_in w q t).vote) →
          (d : List ℕ) × (Good d) × HoldAll image plan es (ballot_events plan w j t some) t (unwrap_or (held_in w j t) d)
      decided_by Good j some lt majority ahead good likes =
          let later = ballot_events plan w j t some in
          let all = all_hold image plan t small w (laws.own.history image plan es) j Good some majority ahead good likes in
          let held : (k : ℕ) → k < plan.cores → held_in (after image plan (es ++ later)) k t ≡ Some (unwrap_or (held_in w k t) all.decree) = λ k below.
          ap (λ (w : WorldState). held_in w k t) (after-append image plan es later) ∙ all.held k below in
          let may = are_both plan es later are (ballot_may j some lt) in (
            all.decree,
            all.is_good,
            record {
              may = ballot_may j some lt;
              held = λ k below. held k below ∙ ap Some (laws.agree image (record { plan = plan; events = es ++ later }) is may k j t _ _ (held k below) (held j lt));
            },
          )

      pub decided : (j : ℕ) (some : List ℕ) → j < plan.cores → IsMajority (voters_on plan t) some → IsAhead w j t some →
          (root : List ℕ) × HoldAll image plan es (ballot_events plan w j t some) t root
      decided j some lt majority ahead =
          let d = decided_by (λ d. Unit {0}) j some lt majority ahead tt (λ q there. none_likes (vote_in w q t).vote) in
          (unwrap_or (held_in w j t) d.0, d.2)

      -- so many messages are sent
      pub messages : (j : ℕ) (some : List ℕ) → j < plan.cores → IsMajority (voters_on plan t) some → IsAhead w j t some →
          length (after image plan (es ++ ballot_events plan w j t some)).wire ≡ length w.wire + (2 * length (voters_on plan t) + 2 * length some + plan.cores)
      messages j some lt majority ahead =
          let later = ballot_events plan w j t some in
          let all = all_hold image plan t small w (laws.own.history image plan es) j (λ d. Unit {0}) some majority ahead tt (λ q there. none_likes (vote_in w q t).vote) in
          ap (λ (w : WorldState). length w.wire) (after-append image plan es later) ∙ all.sent ∙ omega arith

      -- it is what the votes say
      pub root_is : (j : ℕ) (some : List ℕ) → j < plan.cores → IsMajority (voters_on plan t) some → IsLeast (voters_on plan t) some → IsAhead w j t some → held_in w j t ≡ None →
          HoldAll image plan es (ballot_events plan w j t some) t (root_by (greatest_from (λ q. (vote_in w q t).vote) None some) (own_candidate image w j t))
      root_is j some lt majority least ahead none =
          let later = ballot_events plan w j t some in
          let all = all_hold image plan t small w (laws.own.history image plan es) j (λ d. Unit {0}) some majority ahead tt (λ q there. none_likes (vote_in w q t).vote) in
          let held : (k : ℕ) → k < plan.cores → held_in (after image plan (es ++ later)) k t ≡ Some (unwrap_or (held_in w k t) all.decree) = λ k below.
          ap (λ (w : WorldState). held_in w k t) (after-append image plan es later) ∙ all.held k below in
          let may = are_both plan es later are (ballot_may j some lt) in
          let exact = all.exact (all_majority plan.cores (voters_on plan t) voters_are).distinct least in
          record {
            may = ballot_may j some lt;
            held = λ k below. held k below ∙ ap Some (laws.agree image (record { plan = plan; events = es ++ later }) is may k j t _ _ (held k below) (held j lt)
                ∙ ap (λ o. unwrap_or o all.decree) none ∙ exact);
          }

      -- where nobody voted for another one, the candidate wins
      for_it : (c : List ℕ) (o : Option Vote) → IfSome o (λ vote. vote.imprint ≡ c) → OfVote (λ d. d ≡ c) o
      for_it c None is = tt
      for_it c (Some v) is = is

      pub won : (j : ℕ) (some : List ℕ) → j < plan.cores → IsMajority (voters_on plan t) some → IsAhead w j t some → held_in w j t ≡ None →
          VotedFor w t some (own_candidate image w j t) → HoldAll image plan es (ballot_events plan w j t some) t (own_candidate image w j t)
      won j some lt majority ahead none votes =
          let c = own_candidate image w j t in
          let d = decided_by (λ d. d ≡ c) j some lt majority ahead refl (λ q there. for_it c (vote_in w q t).vote (votes q there)) in
          subst (HoldAll image plan es (ballot_events plan w j t some) t) (ap (λ o. unwrap_or o d.0) none ∙ d.1) d.2

      -- NO SECOND IS STUCK
      pub unstuck : length es < last_round → (some : List ℕ) → IsMajority (voters_on plan t) some →
          (j : ℕ) × (is_voter some j ≡ true) × ((root : List ℕ) × HoldAll image plan es (ballot_events plan w j t some) t root)
      unstuck short some majority =
          let first = first_of w t some (omega (arith, majority.most)) in
          let bounded = greater_within (length es) (vote_in w first.0 t) ((after_bounded laws.own image plan is es are).votes first.0 t) in
          let ahead = first.2 (λ last. omega (arith, bounded, last, short)) in
          (first.0, first.1, decided first.0 some (voter_below first.0 (majority.vote first.0 first.1)) majority ahead)

      pub many_events : (j : ℕ) (some : List ℕ) → length (ballot_events plan w j t some) ≡ 2 + 4 * length some + plan.cores
      many_events j some =
          let ns = ballot_numbers (length w.wire) (voters_on plan t) some plan.cores in
          omega (arith, length-map ns events.Deliver, many_numbers (length w.wire) (voters_on plan t) some plan.cores)

  -- ANY CORE, by trying again
  module _ (t : ℕ) (range : InRange plan t) (es : List Event) (are : AreEvents plan es) (j : ℕ) (lt : j < plan.cores) (n : ℕ) where
    abbrev pub before_it : List Event
    before_it = es ++ tries j t n

    replicate_may : (n : ℕ) → AreEvents plan (replicate n (events.Ballot j t))
    replicate_may zero = tt
    replicate_may (suc n) = ((lt, range), replicate_may n)

    tries_may : AreEvents plan (tries j t n)
    tries_may = ((lt, range), replicate_may n)

    before_may : AreEvents plan before_it
    before_may = are_both plan es (tries j t n) are tries_may

    tried : greater_round (vote_in (after image plan es) j t) + n ≤ last_round → IsTried laws.own image plan t j (after image plan es) (after image plan before_it) n
    tried short = subst (λ w'. IsTried laws.own image plan t j (after image plan es) w' n) (sym (after-append image plan es (tries j t n)))
        (all_tried laws.own image plan t j (small t) (after image plan es) (laws.own.history image plan es) n (omega (arith, lt, is.core_plan.few)) short)

    module _ (some : List ℕ) (majority : IsMajority (voters_on plan t) some)
        (reached : (q : ℕ) → is_voter some q ≡ true → (vote_in (after image plan es) q t).promised / 16 ≤ greater_round (vote_in (after image plan es) j t) + n)
        (short : greater_round (vote_in (after image plan es) j t) + n < last_round) where
      ahead_now : IsAhead (after image plan before_it) j t some
      ahead_now =
          let is = tried (omega (arith, short)) in
          record {
            more = λ last. omega (arith, is.rounds, last, short);
            beyond = λ q there. past_all (vote_in (after image plan before_it) j t) _ _ _ is.rounds (is.promised q) (reached q there);
          }
        where
          past_all : (v : VoteState) (p p' r : ℕ) → greater_round v ≡ r → p' ≡ p → p / 16 ≤ r → p' < next_ballot v
          past_all v p p' r is same le = let g = greater_round v in omega arith

      abbrev last_events : List Event
      last_events = ballot_events plan (after image plan before_it) j t some

      joined : (root : List ℕ) → HoldAll image plan before_it last_events t root → HoldAll image plan es (tries j t n ++ last_events) t root
      joined root all = record {
        may = are_both plan (tries j t n) last_events tries_may all.may;
        held = λ k below. subst (λ events. held_in (after image plan events) k t ≡ Some root) (append_assoc es (tries j t n) last_events) (all.held k below);
      }

      pub any_decides : (root : List ℕ) × HoldAll image plan es (tries j t n ++ last_events) t root
      any_decides = let d = decided t range before_it before_may j some lt majority ahead_now in (d.0, joined d.0 d.1)

      pub any_wins : held_in (after image plan es) j t ≡ None → VotedFor (after image plan es) t some (own_candidate image (after image plan es) j t) →
          HoldAll image plan es (tries j t n ++ last_events) t (own_candidate image (after image plan es) j t)
      any_wins none votes =
          let is = tried (omega (arith, short)) in
          let c = own_candidate image (after image plan es) j t in
          subst (HoldAll image plan es (tries j t n ++ last_events) t) is.own
          (joined (own_candidate image (after image plan before_it) j t) (won t range before_it before_may j some lt majority ahead_now (is.held j ∙ none)
          (λ q there. subst (λ c. IfSome (vote_in (after image plan before_it) q t).vote (λ vote. vote.imprint ≡ c)) (sym is.own)
          (subst (λ o. IfSome o (λ vote. vote.imprint ≡ c)) (sym (is.vote q)) (votes q there)))))

  -- ALL SECONDS
  is_some : (o : Option (List ℕ)) (root : List ℕ) → o ≡ Some root → IsSome o
  is_some None root at = absurd (cc at)
  is_some (Some x) root at = refl

  still_some : (es later : List Event) (k t : ℕ) → IsSome (held_in (after image plan es) k t) → IsSome (held_in (after image plan (es ++ later)) k t)
  still_some es later k t some = by (held_in (after image plan es) k t) refl some
    where
      by : (o : Option (List ℕ)) → held_in (after image plan es) k t ≡ o → IsSome o → IsSome (held_in (after image plan (es ++ later)) k t)
      by None at none = absurd (cc none)
      by (Some root) at there = is_some _ root (laws.stays image plan es later k t root at)

  -- rounds, requests and all seconds from one on are as they were
  pub record IsLeft (from : ℕ) (w w' : WorldState) : Type 0 where
    pub rounds : (k u : ℕ) → w'.rounds k u ≡ w.rounds k u
    pub requests : w'.requests ≡ w.requests
    pub seconds : (k u : ℕ) → from ≤ u → w'.seconds k u ≡ w.seconds k u

  abbrev pub Covers : (es : List Event) (from n : ℕ) → Type 0
  Covers es from n = (later : List Event) × (length later ≤ n * ballot_length plan) × HoldSeconds image plan es later from (from + n) × IsLeft (from + n) (after image plan es) (after image plan (es ++ later))

  pub covers : (n from : ℕ) → plan.start ≤ from → from + n ≤ plan.start + 2 ^ 24 → (es : List Event) → AreEvents plan es → length es + n * ballot_length plan < last_round → Covers es from n
  covers zero from early late es are short = (
    [],
    omega arith,
    record { may = tt; held = λ k t below le lt. absurd (omega arith) },
    subst (λ es'. IsLeft (from + 0) (after image plan es) (after image plan es')) (sym (append-nil es)) (record { rounds = λ k u. refl; requests = refl; seconds = λ k u le. refl }),
  )
  covers (suc n) from early late es are short =
      let range : InRange plan from = (early, omega (arith, late)) in
      let voters = voters_on plan from in
      let there = voters_are from in
      let one = unstuck from range es are (omega (arith, short)) voters (all_majority plan.cores voters there) in
      let first = ballot_events plan (after image plan es) one.0 from voters in
      let held = one.2.1 in
      let long : length first ≤ ballot_length plan = omega (arith, many_events from range es are one.0 voters, laws.are_few plan.cores voters there) in
      let longer = length-append es first in
      let rest = covers n (suc from) (omega (arith, early)) (omega (arith, late)) (es ++ first) (are_both plan es first are held.may) (times n (length es) (length first) (length (es ++ first)) (ballot_length plan) longer long short) in
      let frame = ballot_frame image plan from (after image plan es) one.0 voters in
      let now : (es' : List Event) → es' ≡ (es ++ first) ++ rest.0 → Left es es' from n =
      λ es' same. subst (λ es'. Left es es' from n) (sym same) (left es first rest.0 from n frame rest.3) in (
        first ++ rest.0,
        many (length first) (length rest.0) (length (first ++ rest.0)) n (ballot_length plan) (length-append first rest.0) long rest.1,
        record {
          may = are_both plan first rest.0 held.may rest.2.may;
          held = λ k t below le lt. elim (cases_eq t from) [
            | inl same ↦ subst (λ t. IsSome (held_in (after image plan (es ++ (first ++ rest.0))) k t)) (sym same)
                (subst (λ events. IsSome (held_in (after image plan events) k from)) (append_assoc es first rest.0)
                (still_some (es ++ first) rest.0 k from (is_some _ one.2.0 (held.held k below))))
            | inr other ↦ subst (λ events. IsSome (held_in (after image plan events) k t)) (append_assoc es first rest.0) (rest.2.held k t below (omega arith) (omega arith))
          ];
        },
        now (es ++ (first ++ rest.0)) (sym (append_assoc es first rest.0)),
      )
    where
      times : (n l f b c : ℕ) → b ≡ l + f → f ≤ c → l + suc n * c < last_round → b + n * c < last_round
      times n l f b c same le lt = omega arith

      many : (a b c n d : ℕ) → c ≡ a + b → a ≤ d → b ≤ n * d → c ≤ suc n * d
      many a b c n d same le le' = omega arith

      Left : (es es' : List Event) (from n : ℕ) → Type 0
      Left es es' from n = IsLeft (from + suc n) (after image plan es) (after image plan es')

      left : (es first rest : List Event) (from n : ℕ) → IsFrame from (after image plan es) (run image plan (after image plan es) first) →
          IsLeft (suc from + n) (after image plan (es ++ first)) (after image plan ((es ++ first) ++ rest)) → Left es ((es ++ first) ++ rest) from n
      left es first rest from n frame is =
          let same = after-append image plan es first in
          record {
            rounds = λ k u. is.rounds k u ∙ ap (λ (w : WorldState). w.rounds k u) same ∙ frame.rounds k u;
            requests = is.requests ∙ ap (λ (w : WorldState). w.requests) same ∙ frame.requests;
            seconds = λ k u le. is.seconds k u (omega arith) ∙ ap (λ (w : WorldState). w.seconds k u) same ∙ frame.others k u (λ same. omega arith);
          }
