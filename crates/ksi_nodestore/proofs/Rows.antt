-- What the rows of a core store has so many bytes at most.
use Rattle.std.proofs.Common.{◌≡◌, ℕ, ◌+◌, ◌*◌, ◌≤◌, Bool, true, false, if◌then◌else◌, List, length, is_some, Option, Some, None, IfSome, refl, sym, subst, arith}
use Rattle.ksi_aggtree.specs.declared.item.Item.{Item}
use Rattle.ksi_aggtree.specs.declared.entries.Entry.{Entry}
use Rattle.ksi_synod.specs.declared.messages.SynodMessage.{SynodMessage}
use Rattle.ksi_synod.specs.declared.messages.SynodMessage.TheVariants as message
use Rattle.ksi_synod.specs.declared.messages.Begun.{Begun}
use Rattle.ksi_synod.specs.declared.messages.Begun.TheVariants as begun
use Rattle.ksi_synod.specs.declared.messages.Took.{Took}
use Rattle.ksi_synod.specs.declared.messages.Took.TheVariants as took
use Rattle.ksi_synod.specs.CorePlans.{CorePlanState}
use Rattle.ksi_synod.specs.VoteState.{VoteState}
use Rattle.ksi_synod.specs.Rows.{try_ballot, on_next, on_begin, on_voted, on_success}
use Rattle.ksi_calendar.specs.Covered.{Roots, first_missing}
use Rattle.ksi_corenode.specs.declared.fact.What.{What}
use Rattle.ksi_corenode.specs.declared.fact.What.TheVariants as what
use Rattle.ksi_corenode.specs.SecondState.{SecondState}
use Rattle.ksi_corenode.specs.Turns.{Turn, still}
use Rattle.ksi_corenode.specs.Rows.{taken, item_taken, submission_row, sealed_now, seal_row, ballot_fact, ballot_row, where_news, decided_fact, receive_fact, receive_row, tell_row, is_mine, responded, respond_where, respond_row}
use Rattle.ksi_nodestore.specs.Writing.{most_bytes}

either_none : (b : Bool) (one other : Turn) → one.fact ≡ None → other.fact ≡ None → (if b then one else other).fact ≡ None
either_none true one other first second = first
either_none false one other first second = second

pub submission_none : (from : ℕ) (item : Item) (s : SecondState) → (submission_row from item s).fact ≡ None
unfolding submission_row
submission_none from item s = either_none (is_some s.sealed) (still s _) (item_taken s (taken from item s.open_items)) refl refl

seal_either : (image : List ℕ → List ℕ) (s : SecondState) (b : Bool) (one : Turn) → one.fact ≡ None → IfSome (if b then one else sealed_now image s).fact (λ what. most_bytes what ≤ 13 + 103 * length s.open_items)
seal_either image s true one none = subst (λ (f : Option What). IfSome f (λ what. most_bytes what ≤ 13 + 103 * length s.open_items)) (sym none) tt
seal_either image s false one none = omega arith

pub seal_room : (image : List ℕ → List ℕ) (s : SecondState) → IfSome (seal_row image s).fact (λ what. most_bytes what ≤ 13 + 103 * length s.open_items)
unfolding seal_row
seal_room image s = seal_either image s (is_some s.sealed) (still s _) refl

begun_room : (b : Begun) → IfSome (ballot_fact b) (λ what. most_bytes what ≤ 50)
begun_room begun.Unsealed = tt
begun_room begun.Last = tt
begun_room (begun.Next b) = omega arith

pub ballot_room : (plan : CorePlanState) (second me : ℕ) (s : SecondState) → IfSome (ballot_row plan second me s).fact (λ what. most_bytes what ≤ 50)
unfolding ballot_row
ballot_room plan second me s = begun_room (try_ballot s.vote).1

where_room : (b : Bool) (what : What) → most_bytes what ≤ 50 → IfSome (where_news b what) (λ what. most_bytes what ≤ 50)
where_room true what few = few
where_room false what few = tt

decided_room : (held : Option (List ℕ)) (t : Took) → IfSome (decided_fact held t) (λ what. most_bytes what ≤ 50)
decided_room None took.Nothing = tt
decided_room None took.Added = tt
decided_room None (took.Decree d) = omega arith
decided_room (Some root) took.Nothing = tt
decided_room (Some root) took.Added = tt
decided_room (Some root) (took.Decree d) = tt

receive_fits : (v : VoteState) (from : ℕ) (m : SynodMessage) → IfSome (receive_fact v from m) (λ what. most_bytes what ≤ 50)
receive_fits v from (message.NextBallot b) = where_room (is_some (on_next v b).1) (what.Promised b) (omega arith)
receive_fits v from (message.LastVote l) = tt
receive_fits v from (message.BeginBallot b d) = where_room (on_begin v b d).1 (what.Cast (record { ballot = b; imprint = d })) (omega arith)
receive_fits v from (message.Voted b) = decided_room v.held (on_voted v from b).1
receive_fits v from (message.Success d) = where_room (on_success v d).1 (what.Holds d) (omega arith)

pub receive_room : (plan : CorePlanState) (second from : ℕ) (m : SynodMessage) (s : SecondState) → IfSome (receive_row plan second from m s).fact (λ what. most_bytes what ≤ 50)
unfolding receive_row
receive_room plan second from m s = receive_fits s.vote from m

pub tell_none : (plan : CorePlanState) (second me : ℕ) (s : SecondState) → (tell_row plan second me s).fact ≡ None
unfolding tell_row
tell_none plan second me s = refl

respond_none_where : (image : List ℕ → List ℕ) (held : Roots) (start second : ℕ) (sealed : Option (List Entry)) (missing : Option ℕ) (root : Option (List ℕ)) (s : SecondState) → (respond_where image held start second sealed missing root s).fact ≡ None
respond_none_where image held start second None missing root s = refl
respond_none_where image held start second (Some entries) (Some missing) root s = refl
respond_none_where image held start second (Some entries) None None s = refl
respond_none_where image held start second (Some entries) None (Some root) s = either_none (is_mine image entries root) (responded image held start second entries root s) (still s _) refl refl

pub respond_none : (image : List ℕ → List ℕ) (held : Roots) (start second : ℕ) (s : SecondState) → (respond_row image held start second s).fact ≡ None
unfolding respond_row
respond_none image held start second s = respond_none_where image held start second s.sealed (first_missing held start second) (held second) s
