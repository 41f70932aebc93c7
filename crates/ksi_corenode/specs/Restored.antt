-- A core restored from its facts.
use Rattle.std.specs.Prelude.{◌≡◌, ℕ, ◌<◌, ◌^◌, List, [], option_map, Some, None}
use Rattle.ksi_aggtree.specs.declared.entries.Entry.{Entry}
use Rattle.ksi_aggtree.specs.Entries.{items_of, candidate_of}
use Rattle.ksi_aggtree.specs.Rounds.{IsRound}
use Rattle.ksi_synod.specs.CorePlans.{CorePlanState, voters_of}
use Rattle.ksi_synod.specs.VoteState.{VoteState}
use Rattle.ksi_synod.specs.Rows.{sealed_with}
use Rattle.ksi_corenode.specs.declared.fact.What.{What}
use Rattle.ksi_corenode.specs.declared.fact.What.TheVariants.{Sealed, Tried, Promised, Cast, Holds}
use Rattle.ksi_corenode.specs.declared.fact.Fact.{Fact}
use Rattle.ksi_corenode.specs.SecondState.{SecondState}
use Rattle.ksi_corenode.specs.Facts.{StableState, stable_state}
use Rattle.ksi_corenode.specs.Lawful.{stored_by, AreLawful, AreSubmitted}
use Rattle.ksi_corenode.specs.CoreState.{CoreState, state_of}

-- a second restored from its stable part: the candidate is the imprint of the sealed items' tree, there is no ballot in hand,
-- and no item is open
unfoldable pub restored : (List ℕ → List ℕ) → (me : ℕ) → (voters : List ℕ) → StableState → SecondState
restored image me voters s = record {
  vote = record { me = me; voters = voters; candidate = option_map (candidate_of image) s.sealed; tried = s.tried; promised = s.promised; vote = s.vote; held = s.held; hand = None };
  open_items = [];
  sealed = s.sealed;
}

-- core me of the plan, with each second restored from the facts
pub record IsOfFacts (image : List ℕ → List ℕ) (me : ℕ) (plan : CorePlanState) (facts : List Fact) (core : CoreState) : Type 0 where
  pub mine : core.me ≡ me
  pub planned : core.plan ≡ plan
  pub begins : core.start ≡ plan.start
  pub seconds : (t : ℕ) → state_of core t ≡ restored image me (voters_of plan t) (stored_by facts t)

-- a second after a fact is stored: its ballot in hand and its open items are unchanged
abbrev pub vote_with : What → VoteState → VoteState
vote_with (Sealed items) v = v
vote_with (Tried ballot) v = record v { tried = ballot }
vote_with (Promised ballot) v = record v { promised = ballot }
vote_with (Cast vote) v = record v { vote = Some vote }
vote_with (Holds root) v = record v { held = Some root }

abbrev pub sealed_second : (List ℕ → List ℕ) → List Entry → SecondState → SecondState
sealed_second image items s = record s { vote = sealed_with s.vote (candidate_of image items); sealed = Some items }

abbrev pub second_with : (List ℕ → List ℕ) → What → SecondState → SecondState
second_with image (Sealed items) s = sealed_second image items s
second_with image (Tried ballot) s = record s { vote = vote_with (Tried ballot) s.vote }
second_with image (Promised ballot) s = record s { vote = vote_with (Promised ballot) s.vote }
second_with image (Cast vote) s = record s { vote = vote_with (Cast vote) s.vote }
second_with image (Holds root) s = record s { vote = vote_with (Holds root) s.vote }

-- an invariant of each second of a core, whose number is below 9: its open items are a round that aggregators submitted, its
-- candidate is the imprint of its sealed items' tree, and its ballots are in range
pub record IsWell (image : List ℕ → List ℕ) (s : SecondState) : Type 0 where
  pub mine : s.vote.me < 9
  pub round : IsRound (items_of s.open_items)
  pub submitted : AreSubmitted s.open_items
  pub candidate : s.vote.candidate ≡ option_map (candidate_of image) s.sealed
  pub tried : s.vote.tried < 2 ^ 36
  pub promised : s.vote.promised < 2 ^ 36

-- a core of the plan that has stored exactly these facts, in order, each of them valid
pub record HasFacts (image : List ℕ → List ℕ) (plan : CorePlanState) (facts : List Fact) (core : CoreState) : Type 0 where
  pub planned : core.plan ≡ plan
  pub begins : core.start ≡ plan.start
  pub there : core.me < core.plan.cores
  pub lawful : AreLawful plan.cores plan.start facts
  pub stored : (t : ℕ) → stable_state (state_of core t) ≡ stored_by facts t
  pub well : (t : ℕ) → IsWell image (state_of core t)
