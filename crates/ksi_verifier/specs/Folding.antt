-- The state while the chains are climbed once.
use Rattle.std.specs.Prelude.{ℕ, List, Option, Some, None, if◌then◌else◌}
use Rattle.std.specs.Str.{bytes_eq}
use Rattle.ksi_verifier.specs.declared.refusal.Refusal.{Refusal}
use Rattle.ksi_verifier.specs.declared.refusal.Refusal.TheVariants.{ChainBreak}

-- the break found so far, or one below chain k
abbrev pub or_break : Option Refusal → ℕ → List ℕ → List ℕ → Option Refusal
or_break (Some refusal) k computed stated = Some refusal
or_break None k computed stated = if bytes_eq stated computed then None else Some (ChainBreak k computed stated)
