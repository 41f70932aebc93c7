-- The strings of the kept calendar.
use Rattle.std.specs.Prelude.{ℕ, List, [], ◌∷◌, ◌++◌, Option, Some, None}
use Rattle.ksi_split.specs.declared.side.Side.{Side}
use Rattle.ksi_split.specs.declared.side.Side.TheVariants.{Left, Right}
use Rattle.ksi_calendar.specs.Climbing.{calendar_join_text}
use Rattle.ksi_calendar.specs.Calendar as calendars

abbrev pub joined_imprints : Option (List ℕ) → Option (List ℕ) → Option (List ℕ)
joined_imprints None right = None
joined_imprints (Some left) None = None
joined_imprints (Some left) (Some right) = Some (calendar_join_text left right)

-- the string that the node at the sides is made of, in the calendar tree of the seconds to p; none if there is no such
-- node, or if it is a second's root
abbrev pub calendar_text : (List ℕ → List ℕ) → calendars.Seconds → ℕ → List Side → Option (List ℕ)
calendar_text image seconds p sides = joined_imprints (calendars.node_of image seconds p (sides ++ Left ∷ [])) (calendars.node_of image seconds p (sides ++ Right ∷ []))
