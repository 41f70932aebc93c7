-- The next second with a held root or sealed items.
use Rattle.std.specs.Prelude.{◌≡◌, ℕ, ◌≤◌, ◌<◌, ◌||◌, Bool, false, is_some, IsTrue}
use Rattle.ksi_corenode.specs.declared.stable.StablePart.{StablePart}
use Rattle.ksi_corenode.specs.SecondState.{SecondState}

-- a root is held or items are sealed for a second
abbrev pub held_or_sealed : SecondState → Bool
held_or_sealed s = is_some s.vote.held || is_some s.sealed

-- the second is the least one from `from` on that satisfies the predicate
pub record IsNext (so : ℕ → Bool) (from second : ℕ) : Type 0 where
  pub behind : from ≤ second
  pub this : IsTrue (so second)
  pub before : (t : ℕ) → from ≤ t → t < second → so t ≡ false

-- ---- in the code

-- the same for a second's stable part, in which a candidate shows that items are sealed
abbrev pub part_held_or_sealed : StablePart → Bool
part_held_or_sealed part = is_some part.vote.held || is_some part.vote.candidate
