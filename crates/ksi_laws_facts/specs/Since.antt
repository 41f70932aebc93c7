-- The ballot in hand, which a restart forgets: what was delivered since it was tried. Lists have the latest first.
use Rattle.std.specs.Prelude.{ℕ, ◌*◌, ◌&&◌, ◌==◌, nat_lt, Bool, if◌then◌else◌, List, [], ◌∷◌, length, option_map, option_and_then, unwrap_or, Option, Some, None}
use Rattle.std.specs.List.{list_any, count_by, filter_map}
use Rattle.ksi_synod.specs.declared.messages.Vote.{Vote}
use Rattle.ksi_synod.specs.declared.messages.SynodMessage.{SynodMessage}
use Rattle.ksi_synod.specs.declared.messages.SynodMessage.TheVariants as votes
use Rattle.ksi_synod.specs.Voters.{is_voter}
use Rattle.ksi_synod.specs.Rows.{greater_vote, decree_of}
use Rattle.ksi_laws_facts.specs.Deeds.{Deed, Did, Restarted, Tried, Heard}

-- a LastVote or Voted that was delivered, and the core that it is from
pub record Reply : Type 0 where
  pub from : ℕ
  pub what : SynodMessage

-- a ballot, and what was delivered since it was tried
pub record Since : Type 0 where
  pub ballot : ℕ
  pub heard : List Reply

-- with one reply more
abbrev pub with_reply : Reply → Since → Since
with_reply reply s = record { ballot = s.ballot; heard = reply ∷ s.heard }

-- the last ballot that was tried; none where none was, or the core restarted after it
abbrev pub since : List Deed → Option Since
since [] = None
since (Restarted ∷ older) = None
since (Did t (Tried ballot) ∷ older) = Some (record { ballot = ballot; heard = [] })
since (Did t (Heard from what) ∷ older) = option_map (with_reply (record { from = from; what = what })) (since older)
since (_ ∷ older) = since older

-- WHAT CAME OF IT

-- a LastVote of the ballot from a voter: who sent it, and the vote that it tells
pub record Told : Type 0 where
  pub from : ℕ
  pub vote : Option Vote

module _ (voters : List ℕ) (ballot : ℕ) where
  -- the LastVote that count
  abbrev pub told_by : (from : ℕ) → SynodMessage → Option Told
  told_by from (votes.LastVote l) = if (ballot == l.ballot) && is_voter voters from then Some (record { from = from; vote = l.vote }) else None
  told_by from _ = None

  abbrev pub told : List Reply → List Told
  told hs = filter_map (λ (r : Reply). told_by r.from r.what) hs

  -- the senders of Voted of the ballot that are voters
  abbrev pub voted_by : (from : ℕ) → SynodMessage → Option ℕ
  voted_by from (votes.Voted b) = if (ballot == b) && is_voter voters from then Some from else None
  voted_by from _ = None

  abbrev pub voted : List Reply → List ℕ
  voted hs = filter_map (λ (r : Reply). voted_by r.from r.what) hs

-- whether the core is among the senders
abbrev pub has_told : List Told → (core : ℕ) → Bool
has_told ts core = list_any (λ (t : Told). t.from == core) ts

-- whether these are more than half of the voters
abbrev pub are_most : (voters : List ℕ) → List Told → Bool
are_most voters ts = nat_lt (length voters) (2 * count_by (has_told ts) voters)

-- the greatest vote in the LastVotes; of each sender its first message counts, and of equal ballots the vote that came
-- first
abbrev pub greatest_told : List Told → Option Vote
greatest_told [] = None
greatest_told (t ∷ older) = if has_told older t.from then greatest_told older else greater_vote (greatest_told older) t.vote

-- the first moment at which something holds of all that came by then: that, and what came later
pub record Moment : Type 0 where
  pub by_then : List Reply
  pub later : List Reply

-- the earlier moment, or now where it holds of all that came
abbrev pub or_now : Bool → (all : List Reply) → Reply → Option Moment → Option Moment
or_now holds all h None = if holds then Some (record { by_then = all; later = [] }) else None
or_now holds all h (Some m) = Some (record { by_then = m.by_then; later = h ∷ m.later })

abbrev pub first_moment : (List Reply → Bool) → List Reply → Option Moment
first_moment holds [] = None
first_moment holds (h ∷ older) = or_now (holds (h ∷ older)) (h ∷ older) h (first_moment holds older)

-- the moment at which LastVotes of most voters have come
abbrev pub begun : (voters : List ℕ) → Since → Option Moment
begun voters s = first_moment (λ hs. are_most voters (told voters s.ballot hs)) s.heard

-- the LastVote that count: those by that moment, or all so far. The Voted that count: those after it
abbrev pub told_until : (voters : List ℕ) → Since → List Told
told_until voters s = told voters s.ballot (unwrap_or (option_map (λ (m : Moment). m.by_then) (begun voters s)) s.heard)

abbrev pub voted_after : (voters : List ℕ) → Since → List ℕ
voted_after voters s = voted voters s.ballot (unwrap_or (option_map (λ (m : Moment). m.later) (begun voters s)) [])

-- the decree that is begun: that of the greatest vote that came by then, or the candidate if there was none
abbrev pub decree_begun : (voters : List ℕ) → (candidate : Option (List ℕ)) → Since → Option (List ℕ)
decree_begun voters candidate s = option_and_then (λ (m : Moment). decree_of (greatest_told (told voters s.ballot m.by_then)) candidate) (begun voters s)
