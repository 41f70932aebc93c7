-- What a ballot on a second leaves: all rounds and requests, all other seconds, and what was sealed.
use Rattle.std.proofs.Common.{◌≡◌, ◌≢◌, ℕ, zero, suc, ◌+◌, ◌≤◌, List, [], ◌∷◌, ◌++◌, length, map, refl, sym, ap, subst, ◌∙◌, arith, ◌⊎◌, inl, inr, Option, Some, None}
use Rattle.std.specs.Prelude.{slice_get, is_some, replicate}
use Rattle.std.specs.List.{AllByRecursion}
use Rattle.std.proofs.lemmas.Bool.{cases_eq, cond-true, cond_both}
use Rattle.std.proofs.lemmas.Option.{slice_get_within}
use Rattle.ksi_aggtree.specs.declared.entries.Entry.{Entry}
use Rattle.ksi_signature.specs.declared.answer.Answer.TheVariants as answers
use Rattle.ksi_synod.specs.declared.messages.SynodMessage.{SynodMessage}
use Rattle.ksi_synod.specs.declared.messages.SynodMessage.TheVariants as message
use Rattle.ksi_synod.specs.Voters.{cores_below}
use Rattle.ksi_synod.specs.CorePlans.{CorePlanState, voters_of}
use Rattle.ksi_synod.specs.Rows.{try_ballot, ballot_told, receive}
use Rattle.ksi_corenode.specs.declared.step.Send.{Send}
use Rattle.ksi_corenode.specs.declared.step.Send.TheVariants as sends
use Rattle.ksi_corenode.specs.SecondState.{SecondState}
use Rattle.ksi_corenode.specs.Turns.{Turn, still, to_each, told}
use Rattle.ksi_corenode.specs.Rows.{seal_row, sealed_now, ballot_row, receive_row}
use Rattle.ksi_schedule.specs.declared.actor.Actor.TheVariants as actors
use Rattle.ksi_schedule.specs.declared.event.Event.TheVariants as events
use Rattle.ksi_schedule.specs.Plans.{PlanState, core_plan_of}
use Rattle.ksi_world.specs.declared.message.Content.TheVariants as contents
use Rattle.ksi_world.specs.declared.message.Message.{Message}
use Rattle.ksi_world.specs.Histories.{WorldState, message_of, core_message, at_core, delivered, happens, run}
use Rattle.ksi_laws_progress.specs.Numbers.{numbers_from, numbers_to, ballot_numbers}
use Rattle.ksi_laws_progress.specs.Deciding.{voters_on, ballot_events, tries}
use Rattle.ksi_laws_progress.proofs.Bounds.{all_append}
use Rattle.ksi_laws_progress.proofs.Worlds.{put_mine, put_other, put_second}

-- but for the vote on a second, the world is as it was
pub record IsFrame (s : ℕ) (w w' : WorldState) : Type 0 where
  pub rounds : (k u : ℕ) → w'.rounds k u ≡ w.rounds k u
  pub requests : w'.requests ≡ w.requests
  pub others : (k u : ℕ) → u ≢ s → w'.seconds k u ≡ w.seconds k u
  pub sealed : (k : ℕ) (entries : List Entry) → (w.seconds k s).sealed ≡ Some entries → (w'.seconds k s).sealed ≡ Some entries

pub frame_same : (s : ℕ) (w : WorldState) → IsFrame s w w
frame_same s w = record { rounds = λ k u. refl; requests = refl; others = λ k u other. refl; sealed = λ k entries is. is }

pub frame_both : (s : ℕ) (a b c : WorldState) → IsFrame s a b → IsFrame s b c → IsFrame s a c
frame_both s a b c one two = record {
  rounds = λ k u. two.rounds k u ∙ one.rounds k u;
  requests = two.requests ∙ one.requests;
  others = λ k u other. two.others k u other ∙ one.others k u other;
  sealed = λ k entries is. two.sealed k entries (one.sealed k entries is);
}

-- a message of the vote on the second
abbrev IsVote : (s : ℕ) → Message → Type 0
IsVote s m = (from : ℕ) × (to : ℕ) × (what : SynodMessage) × (m ≡ message_of (actors.Core from) (actors.Core to) s (contents.Synod what))

-- from this number on all messages are such
pub record OnlyVotes (first s : ℕ) (w : WorldState) : Type 0 where
  pub each : (n : ℕ) (m : Message) → first ≤ n → slice_get w.wire n ≡ Some m → IsVote s m

get_either : {A : Type 0} (xs ys : List A) (n : ℕ) (x : A) → slice_get (xs ++ ys) n ≡ Some x → (slice_get xs n ≡ Some x) ⊎ ((k : ℕ) × (slice_get ys k ≡ Some x))
get_either [] ys n x at = inr (n, at)
get_either (y ∷ xs) ys zero x at = inl at
get_either (y ∷ xs) ys (suc n) x at = get_either xs ys n x at

abbrev IsSynod : Send → Type 0
IsSynod (sends.Synod to m) = Unit {0}
IsSynod (sends.Response to above) = ⊥

each_synod : (to : List ℕ) (m : SynodMessage) → AllByRecursion IsSynod (to_each to m)
each_synod [] m = tt
each_synod (k ∷ to) m = (tt, each_synod to m)

told_synod : (cp : CorePlanState) (t from : ℕ) (o : Option SynodMessage) → AllByRecursion IsSynod (told cp t from o)
told_synod cp t from None = tt
told_synod cp t from (Some (message.NextBallot b)) = each_synod (voters_of cp t) (message.NextBallot b)
told_synod cp t from (Some (message.LastVote l)) = (tt, tt)
told_synod cp t from (Some (message.BeginBallot b d)) = each_synod (voters_of cp t) (message.BeginBallot b d)
told_synod cp t from (Some (message.Voted b)) = (tt, tt)
told_synod cp t from (Some (message.Success d)) = each_synod (cores_below cp.cores) (message.Success d)

sent_votes : (j s : ℕ) (xs : List Send) → AllByRecursion IsSynod xs → (k : ℕ) (m : Message) → slice_get (map (core_message j s) xs) k ≡ Some m → IsVote s m
sent_votes j s [] are k m at = absurd (cc at)
sent_votes j s (sends.Synod to what ∷ xs) are zero m at = (j, to, what, sym (cc at))
sent_votes j s (sends.Response to above ∷ xs) are zero m at = absurd are.0
sent_votes j s (x ∷ xs) are (suc k) m at = sent_votes j s xs are.1 k m at

module _ (image : List ℕ → List ℕ) (plan : PlanState) (s first : ℕ) where
  -- a vote on the second is taken, or tried
  record IsFramed (w w' : WorldState) : Type 0 where
    frame : IsFrame s w w'
    only : OnlyVotes first s w'

  core_framed : (w : WorldState) (j : ℕ) (turn : Turn) → OnlyVotes first s w → AllByRecursion IsSynod turn.sends →
      ((entries : List Entry) → (w.seconds j s).sealed ≡ Some entries → turn.after.sealed ≡ Some entries) → IsFramed w (at_core w j s turn).world
  core_framed w j turn only are sealed = record {
    frame = record {
      rounds = λ k u. refl;
      requests = refl;
      others = λ k u other. put_second w.seconds j s turn.after k u other;
      sealed = λ k entries is. elim (cases_eq k j) [
        | inl same ↦ subst (λ k. ((at_core w j s turn).world.seconds k s).sealed ≡ Some entries) (sym same)
            (ap (λ (s : SecondState). s.sealed) (put_mine w.seconds j s turn.after) ∙ sealed entries (subst (λ k. (w.seconds k s).sealed ≡ Some entries) same is))
        | inr other ↦ ap (λ (s : SecondState). s.sealed) (put_other w.seconds j s turn.after k s other) ∙ is
      ];
    };
    only = record {
      each = λ n m le at. elim (get_either w.wire (map (core_message j s) turn.sends) n m at) [
        | inl old ↦ only.each n m le old
        | inr new ↦ sent_votes j s turn.sends are new.0 m new.1
      ];
    };
  }

  seal_framed : (w : WorldState) (j : ℕ) → OnlyVotes first s w → IsFramed w (happens image plan w (events.Seal j s)).world
  unfolding happens seal_row
  seal_framed w j only = core_framed w j (seal_row image s') only none keeps
    where
      s' : SecondState
      s' = w.seconds j s

      none : AllByRecursion IsSynod (seal_row image s').sends
      none = cond_both (is_some s'.sealed) (still s' answers.Sealed) (sealed_now image s') (λ (t : Turn). AllByRecursion IsSynod t.sends) (λ _. tt) (λ _. tt)

      keeps : (entries : List Entry) → s'.sealed ≡ Some entries → (seal_row image s').after.sealed ≡ Some entries
      keeps entries is = subst (λ (t : Turn). t.after.sealed ≡ Some entries) (sym (cond-true (is_some s'.sealed) (still s' answers.Sealed) (sealed_now image s') (ap is_some is))) is

  ballot_framed : (w : WorldState) (j : ℕ) → OnlyVotes first s w → IsFramed w (happens image plan w (events.Ballot j s)).world
  unfolding happens ballot_row
  ballot_framed w j only = core_framed w j (ballot_row (core_plan_of plan) s j (w.seconds j s)) only
      (told_synod (core_plan_of plan) s j (ballot_told (try_ballot (w.seconds j s).vote).1)) (λ entries is. is)

  taken_framed : (w : WorldState) (m : Message) → OnlyVotes first s w → IsVote s m → IsFramed w (delivered image plan w (Some m)).world
  unfolding receive_row
  taken_framed w m only is =
      let from = is.0 in
      let to = is.1 in
      let what = is.2 in
      subst (λ m. IsFramed w (delivered image plan w (Some m)).world) (sym is.3)
      (core_framed w to (receive_row (core_plan_of plan) s from what (w.seconds to s)) only
      (told_synod (core_plan_of plan) s from (receive (w.seconds to s).vote from what).1) (λ entries is. is))

  deliver_framed : (w : WorldState) (n : ℕ) → first ≤ n → OnlyVotes first s w → IsFramed w (happens image plan w (events.Deliver n)).world
  unfolding happens
  deliver_framed w n le only = by (slice_get w.wire n) refl
    where
      by : (o : Option Message) → slice_get w.wire n ≡ o → IsFramed w (delivered image plan w o).world
      by None at = record { frame = frame_same s w; only = only }
      by (Some m) at = taken_framed w m only (only.each n m le at)

  deliveries_framed : (ns : List ℕ) (w : WorldState) → AllByRecursion (λ n. first ≤ n) ns → OnlyVotes first s w → IsFramed w (run image plan w (map events.Deliver ns))
  deliveries_framed [] w are only = record { frame = frame_same s w; only = only }
  deliveries_framed (n ∷ ns) w are only =
      let one = deliver_framed w n are.0 only in
      let rest = deliveries_framed ns (happens image plan w (events.Deliver n)).world are.1 one.only in
      record { frame = frame_both s w (happens image plan w (events.Deliver n)).world _ one.frame rest.frame; only = rest.only }

-- all numbers of a ballot are from its first on
from_on : (low first count : ℕ) → low ≤ first → AllByRecursion (λ n. low ≤ n) (numbers_from first count)
from_on low first zero le = tt
from_on low first (suc n) le = (le, from_on low (suc first) n (omega (arith, le)))

to_on : (low first : ℕ) (cores some : List ℕ) → low ≤ first → AllByRecursion (λ n. low ≤ n) (numbers_to first cores some)
to_on low first cores [] le = tt
to_on low first cores (k ∷ some) le = (omega (arith, le), to_on low first cores some le)

numbers_on : (first : ℕ) (voters some : List ℕ) (cores : ℕ) → AllByRecursion (λ n. first ≤ n) (ballot_numbers first voters some cores)
numbers_on first voters some cores =
    let P : ℕ → Type 0 = λ n. first ≤ n in
    let n = length voters in
    let m = length some in
    all_append P _ _ (to_on first first voters some (omega arith))
    (all_append P _ _ (from_on first (first + n) m (omega arith))
    (all_append P _ _ (to_on first (first + n + m) voters some (omega arith))
    (all_append P _ _ (from_on first (first + n + m + n) m (omega arith)) (to_on first (first + n + m + n + m) (cores_below cores) (cores_below cores) (omega arith)))))

module _ (image : List ℕ → List ℕ) (plan : PlanState) (s : ℕ) where
  none_yet : (w : WorldState) → OnlyVotes (length w.wire) s w
  none_yet w = record { each = λ n m le at. let lt = slice_get_within w.wire n m at in absurd (omega arith) }

  pub ballot_frame : (w : WorldState) (j : ℕ) (some : List ℕ) → IsFrame s w (run image plan w (ballot_events plan w j s some))
  ballot_frame w j some =
      let first = length w.wire in
      let w1 = (happens image plan w (events.Seal j s)).world in
      let w2 = (happens image plan w1 (events.Ballot j s)).world in
      let one = seal_framed image plan s first w j (none_yet w) in
      let two = ballot_framed image plan s first w1 j one.only in
      let rest = deliveries_framed image plan s first (ballot_numbers first (voters_on plan s) some plan.cores) w2 (numbers_on first (voters_on plan s) some plan.cores) two.only in
      frame_both s w w1 _ one.frame (frame_both s w1 w2 _ two.frame rest.frame)

  ballots_frame : (n : ℕ) (w : WorldState) (j : ℕ) → IsFrame s w (run image plan w (replicate n (events.Ballot j s)))
  ballots_frame zero w j = frame_same s w
  ballots_frame (suc n) w j =
      let one = ballot_framed image plan s (length w.wire) w j (none_yet w) in
      frame_both s w (happens image plan w (events.Ballot j s)).world _ one.frame (ballots_frame n (happens image plan w (events.Ballot j s)).world j)

  pub tries_frame : (w : WorldState) (j n : ℕ) → IsFrame s w (run image plan w (tries j s n))
  tries_frame w j n =
      let one = seal_framed image plan s (length w.wire) w j (none_yet w) in
      frame_both s w (happens image plan w (events.Seal j s)).world _ one.frame (ballots_frame n (happens image plan w (events.Seal j s)).world j)
