-- Which seconds a restart has to look at.
use Rattle.std.specs.Prelude.{◌≡◌, ℕ, ◌==◌, ◌||◌, Bool, false, List, [], ◌∷◌}
use Rattle.ksi_aggregator.specs.Rows.{RoundState, round_restarted}
use Rattle.ksi_aggregator.specs.Rounds.{round_at}

-- it is one of these seconds
abbrev pub is_among : ℕ → List ℕ → Bool
is_among t [] = false
is_among t (second ∷ seconds) = (t == second) || is_among t seconds

-- a restart leaves the round of each second that is not listed
abbrev pub AreListed : List ℕ → List (ℕ × RoundState) → Type 0
AreListed listed kept = (t : ℕ) → is_among t listed ≡ false → round_restarted (round_at kept t) ≡ round_at kept t
