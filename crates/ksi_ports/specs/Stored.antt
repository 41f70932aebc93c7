-- Files by their names.
use Rattle.std.specs.Prelude.{ℕ, List, Option, Some, if◌then◌else◌, bytes_eq}

-- what is held under each name, or that nothing is
abbrev pub Held : Type 0
Held = List ℕ → Option (List ℕ)

-- the same, and these bytes under this name
abbrev pub with_file : Held → List ℕ → List ℕ → Held
with_file held name bytes = λ other. if bytes_eq name other then Some bytes else held other
