-- What loading keeps, for its own proof.
use Rattle.std.specs.Prelude.{ℕ, ◌≤◌}
use Rattle.ksi_mirror.specs.Mirrors.{highest_core}

-- a list whose items come is of a core
pub record IsLoading (second core : ℕ) : Type 0 where
  pub few : core ≤ highest_core
