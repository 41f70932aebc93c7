-- Rounds that are closed one after the other, from a request's up to a core that then seals.
use Rattle.std.proofs.Common.{◌≡◌, ◌≢◌, ℕ, zero, suc, ◌+◌, ◌*◌, ◌<◌, ◌≤◌, Bool, true, false, ◌||◌, cond, eqb, List, [], ◌∷◌, ◌++◌, length, refl, sym, ap, subst, ◌∙◌, length-append, arith, inl, inr, Some, None}
use Rattle.std.specs.Prelude.{Option, is_some, slice_get, unwrap_or}
use Rattle.std.proofs.lemmas.Bool.{cases_eq, cond-true, cond-false, eq-eqb, or_right, or_left}
use Rattle.std.proofs.lemmas.List.Folds.{list_any-append}
use Rattle.ksi_aggtree.specs.declared.item.Item.{Item}
use Rattle.ksi_aggtree.specs.declared.entries.Entry.{Entry}
use Rattle.ksi_aggtree.specs.declared.entries.Origin.TheVariants as origins
use Rattle.ksi_aggtree.specs.Entries.{has_from, is_from, is_full}
use Rattle.ksi_signature.specs.declared.answer.Answer.{Answer}
use Rattle.ksi_signature.specs.declared.answer.Answer.TheVariants as answers
use Rattle.ksi_synod.specs.VoteState.{VoteState}
use Rattle.ksi_corenode.specs.SecondState.{SecondState}
use Rattle.ksi_corenode.specs.Turns.{Turn, still}
use Rattle.ksi_corenode.specs.Rows.{submission_row, submitted, item_taken, seal_row, sealed_now}
use Rattle.ksi_corenode.specs.Rows as core_rows
use Rattle.ksi_aggregator.specs.Rows.{RoundState, RoundTurn, round_still, round_added, submitted_entry, round_submission, round_close, closed_now}
use Rattle.ksi_schedule.specs.declared.actor.Actor.{Actor}
use Rattle.ksi_schedule.specs.declared.actor.Actor.TheVariants as actors
use Rattle.ksi_schedule.specs.declared.event.Event.{Event}
use Rattle.ksi_schedule.specs.declared.event.Event.TheVariants as events
use Rattle.ksi_schedule.specs.Plans.{PlanState, IsPlan, InRange, parent_of}
use Rattle.ksi_schedule.specs.Events.{AreEvents}
use Rattle.ksi_world.specs.declared.message.Content.TheVariants as contents
use Rattle.ksi_world.specs.Histories.{WorldState, message_of, at_core, at_round, delivered, happens, run}
use Rattle.ksi_world.specs.Lasting.{AreSecondsOf, IsSubmitted, AreSubmitted}
use Rattle.ksi_laws_progress.specs.Deciding.{voters_on, vote_in}
use Rattle.ksi_laws_progress.specs.Issuing.{WouldTake, CoreWouldTake, MayHave, CoreMayHave, items_at, IsOpenAbove, CoreHasItemOf, IsJoinedAbove}
use Rattle.ksi_laws_progress.proofs.Starting.{SameVote, same_vote}
use Rattle.ksi_laws_progress.proofs.Worlds.{put_mine, put_other, put_second}
use Rattle.ksi_laws_progress.proofs.Below.{SecondsKeep, ClosedSubmitted, run_own, run_submitted}
use Rattle.ksi_laws_progress.proofs.Deciding.{are_both, run-append, sealing_turn}
use Rattle.ksi_laws_progress.proofs.Answering.{parent_less}
use Rattle.ksi_aggregator.specs.Rounds.{items_in}

-- VOTES STAY

-- but for candidates and ballots in hand all votes are as they were
abbrev pub SameVotes : (w w' : WorldState) → Type 0
SameVotes w w' = (q u : ℕ) → SameVote (vote_in w q u) (vote_in w' q u)

both_same : (a b c : VoteState) → SameVote a b → SameVote b c → SameVote a c
both_same a b c one two = record {
  me = two.me ∙ one.me;
  voters = two.voters ∙ one.voters;
  tried = two.tried ∙ one.tried;
  promised = two.promised ∙ one.promised;
  vote = two.vote ∙ one.vote;
  held = two.held ∙ one.held;
}

pub both_votes : (a b c : WorldState) → SameVotes a b → SameVotes b c → SameVotes a c
both_votes a b c one two q u = both_same (vote_in a q u) (vote_in b q u) (vote_in c q u) (one q u) (two q u)

core_votes : (w : WorldState) (j t : ℕ) (turn : Turn) → SameVote (vote_in w j t) turn.after.vote → SameVotes w (at_core w j t turn).world
core_votes w j t turn same q u = elim (cases_eq u t) [
  | inr other ↦ subst (λ (s : SecondState). SameVote (vote_in w q u) s.vote) (sym (put_second w.seconds j t turn.after q u other)) (same_vote (vote_in w q u))
  | inl now ↦ elim (cases_eq q j) [
    | inr other ↦ subst (λ (s : SecondState). SameVote (vote_in w q u) s.vote) (sym (put_other w.seconds j t turn.after q u other)) (same_vote (vote_in w q u))
    | inl mine ↦ subst (λ u. SameVote (vote_in w q u) (vote_in (at_core w j t turn).world q u)) (sym now)
        (subst (λ q. SameVote (vote_in w q t) (vote_in (at_core w j t turn).world q t)) (sym mine)
        (subst (λ (s : SecondState). SameVote (vote_in w j t) s.vote) (sym (put_mine w.seconds j t turn.after)) same))
  ]
]

-- AN ITEM COMES

from_last : (k : ℕ) (entries : List Entry) (item : Item) → has_from k (entries ++ record { origin = origins.Aggregator k; item = item } ∷ []) ≡ true
from_last k entries item =
    let p : Entry → Bool = λ entry. is_from k entry.origin in
    list_any-append p entries (record { origin = origins.Aggregator k; item = item } ∷ [])
    ∙ or_right (has_from k entries) (eqb k k || false) (or_left (eqb k k) false (eq-eqb k k refl))

round_takes : (k : ℕ) (item : Item) (r : RoundState) → WouldTake k r → round_submission k item r ≡ round_added r (submitted_entry k item) answers.Done
unfolding round_submission
round_takes k item r may =
    let full = cond (is_full r.open_items) (round_still r answers.Full) (round_added r (submitted_entry k item) answers.Done) in
    let known = cond (has_from k r.open_items) (round_still r answers.Known) full in
    cond-false (is_some r.closed) (round_still r answers.Late) known (ap is_some may.unclosed)
    ∙ cond-false (has_from k r.open_items) (round_still r answers.Known) full may.new
    ∙ cond-false (is_full r.open_items) (round_still r answers.Full) (round_added r (submitted_entry k item) answers.Done) may.room

core_takes : (k : ℕ) (item : Item) (s : SecondState) → CoreWouldTake k s → submission_row k item s ≡ item_taken s (s.open_items ++ submitted k item ∷ [], answers.Done)
unfolding submission_row
core_takes k item s may =
    let new : List Entry × Answer = (s.open_items ++ submitted k item ∷ [], answers.Done) in
    let full = cond (is_full s.open_items) (s.open_items, answers.Full) new in
    cond-false (is_some s.sealed) (still s answers.Late) (item_taken s (core_rows.taken k item s.open_items)) (ap is_some may.unsealed)
    ∙ ap (item_taken s) (cond-false (has_from k s.open_items) (s.open_items, answers.Known) full may.new
    ∙ cond-false (is_full s.open_items) (s.open_items, answers.Full) new may.room)

abbrev pub HasItems : RoundState → Type 0
HasItems r = 0 < length (items_in r)

from_some : (k : ℕ) (entries : List Entry) → has_from k entries ≡ true → 0 < length entries
from_some k [] there = absurd (cc there)
from_some k (entry ∷ entries) there = omega arith

module _ (keep : SecondsKeep) (closed_sent : ClosedSubmitted) (image : List ℕ → List ℕ) (plan : PlanState) (is : IsPlan plan) (t j : ℕ) (range : InRange plan t) (below : j < plan.cores) where
  -- events that may follow, at most so many, and what is so after them
  abbrev May : (most : ℕ) → WorldState → (WorldState → Type 0) → Type 0
  May most w So = (later : List Event) × (AreEvents plan later) × (length later ≤ most) × So (run image plan w later)

  -- A ROUND IS CLOSED, and its item is on its way
  record IsClosed (k : ℕ) (w w' : WorldState) : Type 0 where
    closed : (w'.rounds k t).closed ≡ Some (items_in (w.rounds k t))
    unanswered : (w'.rounds k t).answered ≡ (w.rounds k t).answered
    sent : IsSubmitted plan k t w'.wire
    others : (u : ℕ) → u ≢ k → w'.rounds u t ≡ w.rounds u t
    seconds : (q u : ℕ) → w'.seconds q u ≡ w.seconds q u
    requests : w'.requests ≡ w.requests

  closes_now : (w : WorldState) (k : ℕ) → AreSubmitted plan (happens image plan w (events.Close k t)).world → (w.rounds k t).closed ≡ None → HasItems (w.rounds k t) → IsClosed k w (happens image plan w (events.Close k t)).world
  unfolding happens round_close
  closes_now w k sent unclosed some =
      let r = w.rounds k t in
      let turn : round_close image r ≡ closed_now image r = cond-false (is_some r.closed) (round_still r answers.Closed) (closed_now image r) (ap is_some unclosed) in
      let same : items_in r ≡ r.open_items = ap (λ o. unwrap_or o r.open_items) unclosed in
      let is_closed : ((at_round plan w k t (closed_now image r)).world.rounds k t).closed ≡ Some r.open_items = ap (λ (r : RoundState). r.closed) (put_mine w.rounds k t (closed_now image r).after) in
      let sent_now : AreSubmitted plan (at_round plan w k t (closed_now image r)).world = subst (λ (turn : RoundTurn). AreSubmitted plan (at_round plan w k t turn).world) turn sent in
      subst (λ (turn : RoundTurn). IsClosed k w (at_round plan w k t turn).world) (sym turn)
      (record {
        closed = is_closed ∙ ap Some (sym same);
        unanswered = ap (λ (r : RoundState). r.answered) (put_mine w.rounds k t (closed_now image r).after);
        sent = sent_now k t r.open_items is_closed (subst (λ (entries : List Entry). 0 < length entries) same some);
        others = λ u other. put_other w.rounds k t (closed_now image r).after u t other;
        seconds = λ q u. refl;
        requests = refl;
      })

  closes : (w : WorldState) (k : ℕ) → AreSubmitted plan w → k < length plan.parents → HasItems (w.rounds k t) → May 1 w (IsClosed k w)
  closes w k sent there some = by (w.rounds k t).closed refl
    where
      by : (o : Option (List Entry)) → (w.rounds k t).closed ≡ o → May 1 w (IsClosed k w)
      by None at = (events.Close k t ∷ [], ((there, range), tt), omega arith, closes_now w k (closed_sent.event image plan w (events.Close k t) sent) at some)
      by (Some entries) at =
          let same : items_in (w.rounds k t) ≡ entries = ap (λ o. unwrap_or o (w.rounds k t).open_items) at in (
            [],
            tt,
            omega arith,
            record {
              closed = at ∙ ap Some (sym same);
              unanswered = refl;
              sent = sent k t entries at (subst (λ (entries : List Entry). 0 < length entries) same some);
              others = λ u other. refl;
              seconds = λ q u. refl;
              requests = refl;
            },
          )

  -- IT IS DELIVERED to a round above
  record IsGiven (k p : ℕ) (w w' : WorldState) : Type 0 where
    there : has_from k (items_in (w'.rounds p t)) ≡ true
    unanswered : (w'.rounds p t).answered ≡ (w.rounds p t).answered
    others : (u : ℕ) → u ≢ p → w'.rounds u t ≡ w.rounds u t
    seconds : (q u : ℕ) → w'.seconds q u ≡ w.seconds q u
    requests : w'.requests ≡ w.requests

  gives_now : (w : WorldState) (k p number : ℕ) (item : Item) → slice_get w.wire number ≡ Some (message_of (actors.Aggregator k) (actors.Aggregator p) t (contents.Submission item)) → WouldTake k (w.rounds p t) →
      IsGiven k p w (happens image plan w (events.Deliver number)).world
  unfolding happens
  gives_now w k p number item at may =
      let turn = round_added (w.rounds p t) (submitted_entry k item) answers.Done in
      let mine = put_mine w.rounds p t turn.after in
      subst (λ o. IsGiven k p w (delivered image plan w o).world) (sym at)
      (subst (λ (turn : RoundTurn). IsGiven k p w (at_round plan w p t turn).world) (sym (round_takes k item (w.rounds p t) may))
      (record {
        there = ap (λ (r : RoundState). has_from k (items_in r)) mine ∙ ap (λ o. has_from k (unwrap_or o turn.after.open_items)) may.unclosed ∙ from_last k (w.rounds p t).open_items item;
        unanswered = ap (λ (r : RoundState). r.answered) mine;
        others = λ u other. put_other w.rounds p t turn.after u t other;
        seconds = λ q u. refl;
        requests = refl;
      }))

  gives : (w : WorldState) (k p : ℕ) → parent_of plan k ≡ actors.Aggregator p → IsSubmitted plan k t w.wire → MayHave k (w.rounds p t) → May 1 w (IsGiven k p w)
  gives w k p parent sent may = elim may.here_or_taken [
    | inl there ↦ ([], tt, omega arith, record { there = there; unanswered = refl; others = λ u other. refl; seconds = λ q u. refl; requests = refl })
    | inr take ↦ (
      events.Deliver sent.number ∷ [],
      (tt, tt),
      omega arith,
      gives_now w k p sent.number sent.item (subst (λ (a : Actor). slice_get w.wire sent.number ≡ Some (message_of (actors.Aggregator k) a t (contents.Submission sent.item))) parent sent.at) take,
    )
  ]

  -- to the core
  record IsGivenCore (k : ℕ) (w w' : WorldState) : Type 0 where
    there : has_from k (items_at (w'.seconds j t)) ≡ true
    rounds : (u : ℕ) → w'.rounds u t ≡ w.rounds u t
    votes : SameVotes w w'
    requests : w'.requests ≡ w.requests

  core_gives_now : (w : WorldState) (k number : ℕ) (item : Item) → slice_get w.wire number ≡ Some (message_of (actors.Aggregator k) (actors.Core j) t (contents.Submission item)) → CoreWouldTake k (w.seconds j t) →
      IsGivenCore k w (happens image plan w (events.Deliver number)).world
  unfolding happens
  core_gives_now w k number item at may =
      let s = w.seconds j t in
      let added = s.open_items ++ submitted k item ∷ [] in
      let turn = item_taken s (added, answers.Done) in
      subst (λ o. IsGivenCore k w (delivered image plan w o).world) (sym at)
      (subst (λ (turn : Turn). IsGivenCore k w (at_core w j t turn).world) (sym (core_takes k item s may))
      (record {
        there = ap (λ (s : SecondState). has_from k (items_at s)) (put_mine w.seconds j t turn.after) ∙ ap (λ o. has_from k (unwrap_or o added)) may.unsealed ∙ from_last k s.open_items item;
        rounds = λ u. refl;
        votes = core_votes w j t turn (same_vote s.vote);
        requests = refl;
      }))

  core_gives : (w : WorldState) (k : ℕ) → parent_of plan k ≡ actors.Core j → IsSubmitted plan k t w.wire → CoreMayHave k (w.seconds j t) → May 1 w (IsGivenCore k w)
  core_gives w k parent sent may = elim may [
    | inl there ↦ ([], tt, omega arith, record { there = there; rounds = λ u. refl; votes = λ q u. same_vote (vote_in w q u); requests = refl })
    | inr take ↦ (
      events.Deliver sent.number ∷ [],
      (tt, tt),
      omega arith,
      core_gives_now w k sent.number sent.item (subst (λ (a : Actor). slice_get w.wire sent.number ≡ Some (message_of (actors.Aggregator k) a t (contents.Submission sent.item))) parent sent.at) take,
    )
  ]

  -- which then seals
  record IsSealedWith (k : ℕ) (w w' : WorldState) : Type 0 where
    has : CoreHasItemOf k (w'.seconds j t)
    rounds : (u : ℕ) → w'.rounds u t ≡ w.rounds u t
    votes : SameVotes w w'
    requests : w'.requests ≡ w.requests

  seals_items : (s : SecondState) → (seal_row image s).after.sealed ≡ Some (items_at s)
  unfolding seal_row
  seals_items s = by s.sealed refl
    where
      Of : Turn → Type 0
      Of turn = turn.after.sealed ≡ Some (items_at s)

      by : (o : Option (List Entry)) → s.sealed ≡ o → Of (seal_row image s)
      by None at = subst Of (sym (cond-false (is_some s.sealed) (still s answers.Sealed) (sealed_now image s) (ap is_some at))) (ap (λ o. Some (unwrap_or o s.open_items)) (sym at))
      by (Some entries) at = subst Of (sym (cond-true (is_some s.sealed) (still s answers.Sealed) (sealed_now image s) (ap is_some at))) (at ∙ ap (λ o. Some (unwrap_or o s.open_items)) (sym at))

  seals : (w : WorldState) (k : ℕ) → AreSecondsOf image plan w.seconds → has_from k (items_at (w.seconds j t)) ≡ true → IsSealedWith k w (happens image plan w (events.Seal j t)).world
  unfolding happens
  seals w k own there =
      let s = w.seconds j t in
      let turn = seal_row image s in
      record {
        has = record {
          entries = items_at s;
          sealed = ap (λ (s : SecondState). s.sealed) (put_mine w.seconds j t turn.after) ∙ seals_items s;
          there = there;
        };
        rounds = λ u. refl;
        votes = core_votes w j t turn (sealing_turn image plan (voters_on plan t) j s (own j t)).same;
        requests = refl;
      }

  -- UP TO THE CORE
  pub record IsUp (n k : ℕ) (w w' : WorldState) : Type 0 where
    pub closed : (w'.rounds k t).closed ≡ Some (items_in (w.rounds k t))
    pub unanswered : (w'.rounds k t).answered ≡ None
    pub joined : IsJoinedAbove plan w' j t n k (parent_of plan k)
    pub rounds : (u : ℕ) → k < u → w'.rounds u t ≡ w.rounds u t
    pub votes : SameVotes w w'
    pub requests : w'.requests ≡ w.requests

  abbrev pub Up : (n k : ℕ) → WorldState → Type 0
  Up n k w = May (3 + 2 * n) w (IsUp n k w)

  -- the round has items, and no response
  pub record IsOpenRound (r : RoundState) : Type 0 where
    pub unanswered : r.answered ≡ None
    pub some : HasItems r

  open_stays : (n p : ℕ) (parent : Actor) (w w2 : WorldState) → parent_of plan p ≡ parent → ((u : ℕ) → u < p → w2.rounds u t ≡ w.rounds u t) → w2.seconds j t ≡ w.seconds j t →
      IsOpenAbove plan w j t n p parent → IsOpenAbove plan w2 j t n p parent
  open_stays n p (actors.Core i) w w2 at rounds seconds above = (above.0, subst (CoreMayHave p) (sym seconds) above.1)
  open_stays zero p (actors.Aggregator q) w w2 at rounds seconds above = absurd above
  open_stays (suc n) p (actors.Aggregator q) w w2 at rounds seconds above =
      let less = parent_less plan is p q at in (
        subst (MayHave p) (sym (rounds q less)) above.0,
        open_stays n q (parent_of plan q) w w2 refl (λ u lt. rounds u (omega arith)) seconds above.1,
      )

  same_seconds : (w w' : WorldState) → ((q u : ℕ) → w'.seconds q u ≡ w.seconds q u) → SameVotes w w'
  same_seconds w w' same q u = subst (λ (x : SecondState). SameVote (vote_in w q u) x.vote) (sym (same q u)) (same_vote (vote_in w q u))

  run_both : (w : WorldState) (a b c : List Event) → run image plan w (a ++ (b ++ c)) ≡ run image plan (run image plan (run image plan w a) b) c
  run_both w a b c = run-append image plan a (b ++ c) w ∙ run-append image plan b c (run image plan w a)

  core_up : (n k i : ℕ) (w : WorldState) → parent_of plan k ≡ actors.Core i → AreSecondsOf image plan w.seconds → AreSubmitted plan w → k < length plan.parents → IsOpenRound (w.rounds k t) →
      IsOpenAbove plan w j t n k (actors.Core i) → Up n k w
  core_up n k i w at own sent there round above =
      let c = closes w k sent there round.some in
      let w1 = run image plan w c.0 in
      let closed = c.3 in
      let g = core_gives w1 k (at ∙ ap actors.Core above.0) closed.sent (subst (CoreMayHave k) (sym (closed.seconds j t)) above.1) in
      let w2 = run image plan w1 g.0 in
      let given = g.3 in
      let s = seals w2 k (run_own keep image plan g.0 w1 (run_own keep image plan c.0 w own)) given.there in
      let w3 = (happens image plan w2 (events.Seal j t)).world in
      let later = c.0 ++ (g.0 ++ events.Seal j t ∷ []) in
      let b = length-append g.0 (events.Seal j t ∷ []) in
      let a = length-append c.0 (g.0 ++ events.Seal j t ∷ []) in (
        later,
        are_both plan c.0 _ c.1 (are_both plan g.0 _ g.1 ((below, range), tt)),
        omega (arith, a, b, c.2, g.2),
        subst (IsUp n k w) (sym (run_both w c.0 g.0 (events.Seal j t ∷ []))) (record {
          closed = ap (λ (r : RoundState). r.closed) (s.rounds k ∙ given.rounds k) ∙ closed.closed;
          unanswered = ap (λ (r : RoundState). r.answered) (s.rounds k ∙ given.rounds k) ∙ closed.unanswered ∙ round.unanswered;
          joined = subst (IsJoinedAbove plan w3 j t n k) (sym at) (above.0, s.has);
          rounds = λ u lt. s.rounds u ∙ given.rounds u ∙ closed.others u (λ same. omega arith);
          votes = both_votes w w1 w3 (same_seconds w w1 closed.seconds) (both_votes w1 w2 w3 given.votes s.votes);
          requests = s.requests ∙ given.requests ∙ closed.requests;
        }),
      )

  one_up : (n k p : ℕ) (w : WorldState) → parent_of plan k ≡ actors.Aggregator p → k < length plan.parents → p < k → IsOpenRound (w.rounds k t) →
      MayHave k (w.rounds p t) → IsOpenAbove plan w j t n p (parent_of plan p) → AreSecondsOf image plan w.seconds → AreSubmitted plan w →
      ((w2 : WorldState) → AreSecondsOf image plan w2.seconds → AreSubmitted plan w2 → IsOpenRound (w2.rounds p t) → IsOpenAbove plan w2 j t n p (parent_of plan p) → Up n p w2) → Up (suc n) k w
  one_up n k p w at there less round may above own sent again =
      let c = closes w k sent there round.some in
      let w1 = run image plan w c.0 in
      let closed = c.3 in
      let below_k : w1.rounds p t ≡ w.rounds p t = closed.others p (λ same. omega arith) in
      let g = gives w1 k p at closed.sent (subst (MayHave k) (sym below_k) may) in
      let w2 = run image plan w1 g.0 in
      let given = g.3 in
      let opened : IsOpenRound (w2.rounds p t) = record {
        unanswered = given.unanswered ∙ ap (λ (r : RoundState). r.answered) below_k ∙ may.unanswered;
        some = from_some k (items_in (w2.rounds p t)) given.there;
      } in
      let rest = again w2 (run_own keep image plan g.0 w1 (run_own keep image plan c.0 w own)) (run_submitted closed_sent image plan g.0 w1 (run_submitted closed_sent image plan c.0 w sent)) opened
      (open_stays n p (parent_of plan p) w w2 refl (λ u lt. given.others u (λ same. omega arith) ∙ closed.others u (λ same. omega arith)) (given.seconds j t ∙ closed.seconds j t) above) in
      let w' = run image plan w2 rest.0 in
      let up = rest.3 in
      let at_k : w'.rounds k t ≡ w1.rounds k t = up.rounds k less ∙ given.others k (λ same. omega arith) in
      let b = length-append g.0 rest.0 in
      let a = length-append c.0 (g.0 ++ rest.0) in (
        c.0 ++ (g.0 ++ rest.0),
        are_both plan c.0 _ c.1 (are_both plan g.0 _ g.1 rest.1),
        omega (arith, a, b, c.2, g.2, rest.2),
        subst (IsUp (suc n) k w) (sym (run_both w c.0 g.0 rest.0)) (record {
          closed = ap (λ (r : RoundState). r.closed) at_k ∙ closed.closed;
          unanswered = ap (λ (r : RoundState). r.answered) at_k ∙ closed.unanswered ∙ round.unanswered;
          joined = subst (IsJoinedAbove plan w' j t (suc n) k) (sym at)
              (record { entries = items_in (w2.rounds p t); closed = up.closed; unanswered = up.unanswered; there = given.there }, up.joined);
          rounds = λ u lt. up.rounds u (omega arith) ∙ given.others u (λ same. omega arith) ∙ closed.others u (λ same. omega arith);
          votes = both_votes w w2 w' (same_seconds w w2 (λ q u. given.seconds q u ∙ closed.seconds q u)) up.votes;
          requests = up.requests ∙ given.requests ∙ closed.requests;
        }),
      )

  pub goes_up : (n k : ℕ) (parent : Actor) → parent_of plan k ≡ parent → (w : WorldState) → AreSecondsOf image plan w.seconds → AreSubmitted plan w → k < length plan.parents → IsOpenRound (w.rounds k t) →
      IsOpenAbove plan w j t n k parent → Up n k w
  goes_up n k (actors.Core i) at w own sent there round above = core_up n k i w at own sent there round above
  goes_up zero k (actors.Aggregator p) at w own sent there round above = absurd above
  goes_up (suc n) k (actors.Aggregator p) at w own sent there round above =
      let less = parent_less plan is k p at in
      one_up n k p w at there less round above.0 above.1 own sent
      (λ w2 own2 sent2 round2 above2. goes_up n p (parent_of plan p) refl w2 own2 sent2 (omega arith) round2 above2)
