-- The name in the metadata of a named item: padding, then the element of the name, which a zero byte ends (docs/FORMATS.md, "Names").
use Rattle.std.specs.Prelude.{ℕ, ◌+◌, ◌-◌, ◌==◌, nat_lt, nat_eq, Bool, ◌&&◌, List, [], ◌∷◌, take, drop, length, slice_index, Option, Some, None, if◌then◌else◌}
use Rattle.std.specs.List.{starts_with}

-- an element's length and body: the body is a name and a zero byte
abbrev pub is_named : List ℕ → Bool
is_named element =
    nat_lt 2 (length element) && (slice_index element 0 + 1 == length element) && (slice_index element (length element - 1) == 0)

abbrev pub name_inside : List ℕ → Option (List ℕ)
name_inside element = if is_named element then Some (take (length element - 2) (drop 1 element)) else None

-- the kind of the name's element follows the padding
abbrev pub name_in : List ℕ → Option (List ℕ)
name_in meta =
    if starts_with nat_eq meta (126 ∷ 1 ∷ 1 ∷ 1 ∷ []) then name_inside (drop 4 meta)
    else if starts_with nat_eq meta (126 ∷ 2 ∷ 1 ∷ 1 ∷ 1 ∷ []) then name_inside (drop 5 meta)
    else None
