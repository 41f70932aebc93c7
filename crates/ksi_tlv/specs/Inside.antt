-- The elements inside an element, if all of them are complete.
use Rattle.std.specs.Prelude.{ℕ, ◌==◌, List, [], ◌∷◌, Option, Some, None, Ok, Err, if◌then◌else◌}
use Rattle.ksi_tlv.specs.Walking.{PlacedTlv, Items, elements}

-- without one that is cut off
abbrev pub whole : Items → List PlacedTlv
whole [] = []
whole (Ok at ∷ items) = at ∷ whole items
whole (Err cut ∷ items) = whole items

abbrev pub inner_elements : PlacedTlv → List PlacedTlv
inner_elements at = whole (elements at.inside at.element.body)

-- the first element of a kind
abbrev pub first_of : ℕ → List PlacedTlv → Option PlacedTlv
first_of kind [] = None
first_of kind (at ∷ es) = if at.element.kind == kind then Some at else first_of kind es
