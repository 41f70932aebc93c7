-- What a core tells of what it has, as lines.
use Rattle.std.specs.Prelude.{ℕ, zero, suc, List, [], ◌∷◌, ◌++◌, codes, map, Option, Some, None}
use Rattle.std.specs.Fmt.{decimal}
use Rattle.ksi_aggtree.specs.declared.item.Item.{Item}
use Rattle.ksi_aggtree.specs.declared.entries.Entry.{Entry}
use Rattle.ksi_aggtree.specs.Entries.{items_of}
use Rattle.ksi_corenode.specs.CoreState.{CoreState, held_by, state_of}
use Rattle.ksi_schedule.specs.Pieces.{Text}
use Rattle.ksi_schedule.specs.Printed.{hex_of, text_of_lines}
use Rattle.ksi_wire.specs.declared.questions.Span.{Span}
use Rattle.ksi_wire.specs.Lines.{item_words}

abbrev pub root_lines : (second : ℕ) → Option (List ℕ) → List (List Text)
root_lines second None = []
root_lines second (Some root) = (codes "root" ∷ decimal second ∷ hex_of root ∷ []) ∷ []

abbrev pub sealed_words : (second : ℕ) → Item → List Text
sealed_words second item = codes "item" ∷ decimal second ∷ item_words item

abbrev pub sealed_lines : (second : ℕ) → Option (List Entry) → List (List Text)
sealed_lines second None = []
sealed_lines second (Some entries) = map (sealed_words second) (items_of entries)

-- the root that is held for a second, and the items that were sealed for it
abbrev pub second_lines : CoreState → (second : ℕ) → List (List Text)
second_lines core second = root_lines second (held_by core second) ++ sealed_lines second (state_of core second).sealed

-- the same for this many seconds from this one on
abbrev pub held_lines : CoreState → (from count : ℕ) → List (List Text)
held_lines core from zero = []
held_lines core from (suc count) = second_lines core from ++ held_lines core (suc from) count

-- the block that answers the question
abbrev pub held_text : CoreState → Span → Text
held_text core span = text_of_lines (held_lines core span.from span.count) ++ codes ".\n"
