-- The steps of a core. Each is a function from the state of a second to a turn. If the condition of a step does not hold, the
-- second is unchanged and nothing is sent.
use Rattle.std.specs.Prelude.{◌≡◌, ◌≢◌, ◌⊎◌, ℕ, suc, Bool, true, false, not, ◌&&◌, if◌then◌else◌, List, [], ◌∷◌, ◌++◌, is_some, Option, Some, None}
use Rattle.std.specs.Str.{bytes_eq}
use Rattle.ksi_imprint.specs.Imprints.{zero_imprint}
use Rattle.ksi_aggtree.specs.declared.item.Item.{Item}
use Rattle.ksi_aggtree.specs.declared.entries.Entry.{Entry}
use Rattle.ksi_aggtree.specs.declared.entries.Origin.{Origin}
use Rattle.ksi_aggtree.specs.declared.entries.Origin.TheVariants as origins
use Rattle.ksi_aggtree.specs.Entries.{items_of, has_from, to_sender, is_full, candidate_of}
use Rattle.ksi_aggtree.specs.Rounds.{item_at}
use Rattle.ksi_aggtree.specs.Paths.{chain_of}
use Rattle.ksi_synod.specs.declared.messages.SynodMessage.{SynodMessage}
use Rattle.ksi_synod.specs.declared.messages.SynodMessage.TheVariants as message
use Rattle.ksi_synod.specs.declared.messages.Begun.{Begun}
use Rattle.ksi_synod.specs.declared.messages.Begun.TheVariants as begun
use Rattle.ksi_synod.specs.declared.messages.Took.{Took}
use Rattle.ksi_synod.specs.declared.messages.Took.TheVariants as took
use Rattle.ksi_synod.specs.CorePlans.{CorePlanState}
use Rattle.ksi_synod.specs.VoteState.{VoteState}
use Rattle.ksi_synod.specs.Rows.{seal, try_ballot, ballot_told, held_told, on_next, on_last, on_begin, on_voted, on_success, receive, restarted}
use Rattle.ksi_calendar.specs.Calendar.{Seconds, calendar_path}
use Rattle.ksi_signature.specs.declared.above.Above.{Above}
use Rattle.ksi_signature.specs.declared.answer.Answer.{Answer}
use Rattle.ksi_signature.specs.declared.answer.Answer.TheVariants.{Done, Published, Late, Known, Full, Unsealed, Sealed, Undecided, NotMine, Nothing, Last}
use Rattle.ksi_corenode.specs.declared.fact.What.{What}
use Rattle.ksi_corenode.specs.declared.fact.What.TheVariants as what
use Rattle.ksi_corenode.specs.declared.step.Send.{Send}
use Rattle.ksi_corenode.specs.declared.step.Send.TheVariants as sends
use Rattle.ksi_corenode.specs.SecondState.{SecondState}
use Rattle.ksi_calendar.specs.Covered.{Roots, IsCovered, first_missing, covered_seconds, covered_root}
use Rattle.ksi_corenode.specs.Turns.{Turn, still, voted_with}

-- SUBMISSION of an item by an aggregator: it joins the open items, unless there is one of that aggregator

-- the entry of an item that an aggregator submits
abbrev pub submitted : (from : ℕ) → Item → Entry
submitted from item = record { origin = origins.Aggregator from; item = item }

-- the open items after it, and the answer
abbrev pub taken : (from : ℕ) → Item → List Entry → List Entry × Answer
taken from item entries =
    if has_from from entries then (entries, Known)
    else if is_full entries then (entries, Full)
    else (entries ++ submitted from item ∷ [], Done)

abbrev pub item_taken : SecondState → List Entry × Answer → Turn
item_taken s row = record { after = record s { open_items = row.0 }; answer = row.1; fact = None; sends = [] }

-- Late if the second is sealed; Known if the aggregator has an open item; Full at 65,536 items; else Done
unfoldable pub submission_row : (from : ℕ) → Item → SecondState → Turn
submission_row from item s = if is_some s.sealed then still s Late else item_taken s (taken from item s.open_items)

-- SEAL: the open items become the sealed ones, and the imprint of their tree becomes the core's candidate

-- the second from then on
abbrev pub sealed_now : (List ℕ → List ℕ) → SecondState → Turn
sealed_now image s = record { after = record { vote = seal s.vote (candidate_of image s.open_items); open_items = []; sealed = Some s.open_items }; answer = Done; fact = Some (what.Sealed s.open_items); sends = [] }

-- Sealed if it is sealed already, else Done
unfoldable pub seal_row : (List ℕ → List ℕ) → SecondState → Turn
seal_row image s = if is_some s.sealed then still s Sealed else sealed_now image s

-- BALLOT: try the core's next ballot, and send NextBallot to the voters

abbrev pub ballot_answer : Begun → Answer
ballot_answer begun.Unsealed = Unsealed
ballot_answer begun.Last = Last
ballot_answer (begun.Next b) = Done

-- store the ballot that is tried
abbrev pub ballot_fact : Begun → Option What
ballot_fact begun.Unsealed = None
ballot_fact begun.Last = None
ballot_fact (begun.Next b) = Some (what.Tried b)

-- Unsealed if there is no candidate; Last if no round is left; else Done
unfoldable pub ballot_row : CorePlanState → (second me : ℕ) → SecondState → Turn
ballot_row plan second me s = voted_with plan second me s ((try_ballot s.vote).0, ballot_told (try_ballot s.vote).1) (ballot_answer (try_ballot s.vote).1) (ballot_fact (try_ballot s.vote).1)

-- THE FIVE MESSAGES OF THE VOTE, each by the step of Synod

-- count the sender
abbrev pub counts : Took → Bool
counts took.Nothing = false
counts took.Added = true
counts (took.Decree d) = true

-- the message changes something
abbrev pub is_news : VoteState → (from : ℕ) → SynodMessage → Bool
is_news v from (message.NextBallot b) = is_some (on_next v b).1
is_news v from (message.LastVote l) = counts (on_last v from l.ballot l.vote).1
is_news v from (message.BeginBallot b d) = (on_begin v b d).1
is_news v from (message.Voted b) = counts (on_voted v from b).1
is_news v from (message.Success d) = (on_success v d).1

-- Done if it does, else Nothing
abbrev pub news_answer : Bool → Answer
news_answer true = Done
news_answer false = Nothing

-- the fact to store when a decree is decided, given the root held before
abbrev pub decided_fact : (held : Option (List ℕ)) → Took → Option What
decided_fact None (took.Decree d) = Some (what.Holds d)
decided_fact _ _ = None

-- the fact to store if this holds
abbrev pub where_news : Bool → What → Option What
where_news true fact = Some fact
where_news false fact = None

-- the fact that a core stores for a message: the ballot promised, the vote cast, or the root now held
abbrev pub receive_fact : VoteState → (from : ℕ) → SynodMessage → Option What
receive_fact v from (message.NextBallot b) = where_news (is_some (on_next v b).1) (what.Promised b)
receive_fact v from (message.LastVote l) = None
receive_fact v from (message.BeginBallot b d) = where_news (on_begin v b d).1 (what.Cast (record { ballot = b; imprint = d }))
receive_fact v from (message.Voted b) = decided_fact v.held (on_voted v from b).1
receive_fact v from (message.Success d) = where_news (on_success v d).1 (what.Holds d)

unfoldable pub receive_row : CorePlanState → (second from : ℕ) → SynodMessage → SecondState → Turn
receive_row plan second from m s = voted_with plan second from s (receive s.vote from m) (news_answer (is_news s.vote from m)) (receive_fact s.vote from m)

-- TELL: send Success with the held root to all cores

-- Undecided if no root is held, else Done
abbrev pub tell_answer : (second : ℕ) → (held : Option (List ℕ)) → Answer
tell_answer second None = Undecided second
tell_answer second (Some root) = Done

unfoldable pub tell_row : CorePlanState → (second me : ℕ) → SecondState → Turn
tell_row plan second me s = voted_with plan second me s (s.vote, held_told s.vote.held) (tell_answer second s.vote.held) None

-- RESPOND: send each aggregator whose item was sealed the path from its item to the root of the calendar to this second

-- the held root is the core's own candidate, and not the zero imprint of a missed second
abbrev pub is_mine : (List ℕ → List ℕ) → List Entry → (root : List ℕ) → Bool
is_mine image entries root = bytes_eq (candidate_of image entries) root && not (bytes_eq root zero_imprint)

-- the path from item k of the round to the root in this calendar
abbrev pub above_item : (List ℕ → List ℕ) → Seconds → (second : ℕ) → (root : List ℕ) → List Item → ℕ → Above
above_item image seconds second root items k = record {
  root = root;
  chains = record { input = (item_at items k).imprint; links = chain_of image items k } ∷ [];
  calendar = calendar_path image seconds second second;
}

-- the response is sent to the item's aggregator; the item of a request has none
abbrev pub response_to : Origin → Above → List Send
response_to origin above = to_sender (λ from. sends.Response from above) origin

-- the responses for these entries, the first of which is item k
abbrev pub responses_from : (ℕ → Above) → ℕ → List Entry → List Send
responses_from above k [] = []
responses_from above k (entry ∷ entries) = response_to entry.origin (above k) ++ responses_from above (suc k) entries

-- send all responses
abbrev pub responded : (List ℕ → List ℕ) → Roots → (start second : ℕ) → List Entry → (root : List ℕ) → SecondState → Turn
responded image held start second entries root s = record { after = s; answer = Done; fact = None; sends = responses_from (above_item image (covered_seconds held start second) second root (items_of entries)) 0 entries }

-- Unsealed; Undecided with the first second from the start on that is not held; NotMine; else Done. (The third case cannot
-- occur: if no second is missing, a root is held for this one.)
abbrev pub respond_where : (List ℕ → List ℕ) → Roots → (start second : ℕ) → (sealed : Option (List Entry)) → (missing : Option ℕ) → (root : Option (List ℕ)) → SecondState → Turn
respond_where image held start second None missing root s = still s Unsealed
respond_where image held start second (Some entries) (Some missing) root s = still s (Undecided missing)
respond_where image held start second (Some entries) None None s = still s (Undecided second)
respond_where image held start second (Some entries) None (Some root) s = if is_mine image entries root then responded image held start second entries root s else still s NotMine

unfoldable pub respond_row : (List ℕ → List ℕ) → Roots → (start second : ℕ) → SecondState → Turn
respond_row image held start second s = respond_where image held start second s.sealed (first_missing held start second) (held second) s

-- the condition of NotMine: the second is sealed, all seconds up to it are held, and its root is not the candidate or is the
-- zero imprint
pub record IsNotMine (image : List ℕ → List ℕ) (held : Roots) (start second : ℕ) (s : SecondState) : Type 0 where
  pub entries : List Entry
  pub sealed : s.sealed ≡ Some entries
  pub covered : IsCovered held start second
  pub root : List ℕ
  pub holds : held second ≡ Some root
  pub other : (root ≢ candidate_of image entries) ⊎ (root ≡ zero_imprint)

-- PUBLISH: return the root of the calendar to the second

-- Undecided with the first second from the start on that is not held, else Published
abbrev pub publish_where : (List ℕ → List ℕ) → Roots → (start p : ℕ) → (missing : Option ℕ) → Answer
publish_where image held start p (Some missing) = Undecided missing
publish_where image held start p None = Published (covered_root image held start p)

unfoldable pub publish_answer : (List ℕ → List ℕ) → Roots → (start p : ℕ) → Answer
publish_answer image held start p = publish_where image held start p (first_missing held start p)

-- RESTART: forget the ballot in hand and the open items

abbrev pub restart_row : SecondState → SecondState
restart_row s = record s { vote = restarted s.vote; open_items = [] }
