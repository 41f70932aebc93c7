-- The ballot that an event makes a core store is of one of its plan's cores.
use Rattle.std.proofs.Common.{◌≡◌, refl, ℕ, ◌+◌, ◌*◌, ◌<◌, Bool, true, false, eqb, List, Option, Some, None, arith}
use Rattle.std.specs.Prelude.{is_some, IfSome}
use Rattle.std.proofs.lemmas.Bool.{cond_both}
use Rattle.ksi_aggtree.specs.declared.item.Item.{Item}
use Rattle.ksi_aggtree.specs.declared.entries.Entry.{Entry}
use Rattle.ksi_calendar.specs.Covered.{Roots, first_missing}
use Rattle.ksi_synod.specs.CorePlans.{CorePlanState}
use Rattle.ksi_synod.specs.declared.messages.SynodMessage.{SynodMessage}
use Rattle.ksi_synod.specs.declared.messages.SynodMessage.TheVariants as message
use Rattle.ksi_synod.specs.declared.messages.Begun.{Begun}
use Rattle.ksi_synod.specs.declared.messages.Took.{Took}
use Rattle.ksi_synod.specs.declared.messages.Took.TheVariants as took
use Rattle.ksi_synod.specs.VoteState.{VoteState}
use Rattle.ksi_synod.specs.Ballots.{last_round}
use Rattle.ksi_synod.specs.Rows.{greater_round, try_ballot, try_ballot_of, on_next, on_begin, on_voted, on_success}
use Rattle.ksi_corenode.specs.declared.event.CoreEvent.{CoreEvent}
use Rattle.ksi_corenode.specs.declared.event.CoreEvent.TheVariants as events
use Rattle.ksi_corenode.specs.declared.fact.What.{What}
use Rattle.ksi_corenode.specs.declared.fact.What.TheVariants as what
use Rattle.ksi_corenode.specs.SecondState.{SecondState}
use Rattle.ksi_corenode.specs.Stored.{second_of}
use Rattle.ksi_corenode.specs.Turns.{Turn}
use Rattle.ksi_corenode.specs.Owners.{BringsOwned, IsOwned, NamesOwned, StoresOwned}
use Rattle.ksi_corenode.specs.Rows.{submission_row, seal_row, ballot_fact, ballot_row, where_news, decided_fact, receive_fact, receive_row, tell_row, is_mine, respond_where, respond_row}
use Rattle.ksi_corenode.specs.Events.{event_second, core_row}
use Rattle.ksi_corenode.specs.CoreState.{CoreState, state_of}

next_owned : (cores round me : ℕ) → me < 9 → me < cores → IsOwned cores (16 * round + me)
next_owned cores round me mine there = omega arith

module _ (cores : ℕ) where
  abbrev Owned : Option What → Type 0
  Owned o = IfSome o (StoresOwned cores)

  tried_owned : (v : VoteState) → v.me < 9 → v.me < cores → Owned (ballot_fact (try_ballot v).1)
  unfolding try_ballot
  tried_owned v mine there = by v.candidate
    where
      by : (o : Option (List ℕ)) → Owned (ballot_fact (try_ballot_of o v).1)
      by None = tt
      by (Some c) = cond_both (eqb (greater_round v) last_round) _ _ (λ (r : VoteState × Begun). Owned (ballot_fact r.1)) (λ _. tt) (λ _. next_owned cores (greater_round v + 1) v.me mine there)

  news_owned : (news : Bool) (fact : What) → StoresOwned cores fact → Owned (where_news news fact)
  news_owned true fact is = is
  news_owned false fact is = tt

  decided_owned : (held : Option (List ℕ)) (took : Took) → Owned (decided_fact held took)
  decided_owned None took.Nothing = tt
  decided_owned None took.Added = tt
  decided_owned None (took.Decree d) = tt
  decided_owned (Some root) took.Nothing = tt
  decided_owned (Some root) took.Added = tt
  decided_owned (Some root) (took.Decree d) = tt

  message_owned : (v : VoteState) (from : ℕ) (m : SynodMessage) → NamesOwned cores m → Owned (receive_fact v from m)
  message_owned v from (message.NextBallot b) is = news_owned (is_some (on_next v b).1) (what.Promised b) is
  message_owned v from (message.LastVote l) is = tt
  message_owned v from (message.BeginBallot b d) is = news_owned (on_begin v b d).1 (what.Cast (record { ballot = b; imprint = d })) is
  message_owned v from (message.Voted b) is = decided_owned v.held (on_voted v from b).1
  message_owned v from (message.Success d) is = news_owned (on_success v d).1 (what.Holds d) tt

  submission_owned : (from : ℕ) (item : Item) (s : SecondState) → Owned (submission_row from item s).fact
  unfolding submission_row
  submission_owned from item s = cond_both (is_some s.sealed) _ _ (λ (turn : Turn). Owned turn.fact) (λ _. tt) (λ _. tt)

  seal_owned : (image : List ℕ → List ℕ) (s : SecondState) → Owned (seal_row image s).fact
  unfolding seal_row
  seal_owned image s = cond_both (is_some s.sealed) _ _ (λ (turn : Turn). Owned turn.fact) (λ _. tt) (λ _. tt)

  ballot_owned : (plan : CorePlanState) (second me : ℕ) (s : SecondState) → s.vote.me < 9 → s.vote.me < cores → Owned (ballot_row plan second me s).fact
  unfolding ballot_row
  ballot_owned plan second me s mine there = tried_owned s.vote mine there

  receive_owned : (plan : CorePlanState) (second from : ℕ) (m : SynodMessage) (s : SecondState) → NamesOwned cores m → Owned (receive_row plan second from m s).fact
  unfolding receive_row
  receive_owned plan second from m s is = message_owned s.vote from m is

  tell_owned : (plan : CorePlanState) (second me : ℕ) (s : SecondState) → Owned (tell_row plan second me s).fact
  unfolding tell_row
  tell_owned plan second me s = tt

  respond_owned : (image : List ℕ → List ℕ) (held : Roots) (start second : ℕ) (s : SecondState) → Owned (respond_row image held start second s).fact
  unfolding respond_row
  respond_owned image held start second s = by s.sealed (first_missing held start second) (held second)
    where
      by : (sealed : Option (List Entry)) (missing : Option ℕ) (root : Option (List ℕ)) → Owned (respond_where image held start second sealed missing root s).fact
      by None missing root = tt
      by (Some entries) (Some missing) root = tt
      by (Some entries) None None = tt
      by (Some entries) None (Some root) = cond_both (is_mine image entries root) _ _ (λ (turn : Turn). Owned turn.fact) (λ _. tt) (λ _. tt)

-- a core's seconds have its number
own_number : (core : CoreState) (t : ℕ) → (state_of core t).vote.me ≡ core.me
unfolding state_of second_of
own_number core t = refl

pub event_owned : (image : List ℕ → List ℕ) (core : CoreState) (event : CoreEvent) → BringsOwned core.plan.cores event → core.me < core.plan.cores → (state_of core (event_second event)).vote.me < 9
    → IfSome (core_row image core event).fact (StoresOwned core.plan.cores)
event_owned image core (events.Submission from second item) owned there mine = submission_owned core.plan.cores from item (state_of core second)
event_owned image core (events.Seal second) owned there mine = seal_owned core.plan.cores image (state_of core second)
event_owned image core (events.Ballot second) owned there mine = ballot_owned core.plan.cores core.plan second core.me (state_of core second) mine (omega (arith, there, own_number core second))
event_owned image core (events.Receive from second m) owned there mine = receive_owned core.plan.cores core.plan second from m (state_of core second) owned
event_owned image core (events.Tell second) owned there mine = tell_owned core.plan.cores core.plan second core.me (state_of core second)
event_owned image core (events.Respond second) owned there mine = respond_owned core.plan.cores image (λ t. (state_of core t).vote.held) core.start second (state_of core second)
event_owned image core (events.Publish second) owned there mine = tt
