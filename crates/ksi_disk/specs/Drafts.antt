-- A record to be appended.
use Rattle.std.specs.Prelude.{ℕ, List}

-- its content so far, and how many more bytes fit
pub record Draft : Type 0 where
  pub content : List ℕ
  pub room : ℕ
