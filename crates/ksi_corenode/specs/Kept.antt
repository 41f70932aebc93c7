-- The state that a step of the vote leaves unchanged.
use Rattle.std.specs.Prelude.{◌≡◌, ℕ, ◌==◌, if◌then◌else◌, List, Some, Option}
use Rattle.ksi_calendar.specs.Covered.{Roots}
use Rattle.ksi_synod.specs.VoteState.{VoteState}

-- the roots held, with this one for one second
abbrev pub held_with : Roots → (second : ℕ) → (held : Option (List ℕ)) → Roots
held_with roots second held t = if t == second then held else roots t

-- a step of the vote does not change the core's number, the voters, the candidate, or a root that is held
pub record Keeps (old new : VoteState) : Type 0 where
  pub me : new.me ≡ old.me
  pub voters : new.voters ≡ old.voters
  pub candidate : new.candidate ≡ old.candidate
  pub held : (root : List ℕ) → old.held ≡ Some root → new.held ≡ Some root
