-- The kinds of the elements of a mirror's file, in their order.
use Rattle.std.specs.Prelude.{ℕ, List, [], ◌∷◌, ◌++◌, map}
use Rattle.ksi_tlv.specs.Kinds.{HasKinds}
use Rattle.ksi_journal.specs.Kinds.{item_kind}
use Rattle.ksi_mirror.specs.declared.sealed_list.SealedList.{SealedList}
use Rattle.ksi_mirror.specs.Mirrors.{MirrorState}
use Rattle.ksi_mirror.specs.File.{magic}

-- each list has kind 9, and its items follow it
abbrev pub lists_kinds : List SealedList → List ℕ
lists_kinds [] = []
lists_kinds (one ∷ others) = 9 ∷ (map item_kind one.items ++ lists_kinds others)

-- the start, then roots, lists with their items, and the end
abbrev pub mirror_kinds : MirrorState → List ℕ
mirror_kinds mirror = 1 ∷ (map (λ root. 2) mirror.roots ++ (lists_kinds mirror.lists ++ 6 ∷ []))

-- after the magic there are whole elements, and their kinds are those of the mirror, one for one
abbrev pub IsInOrder : List ℕ → MirrorState → Type 0
IsInOrder bytes mirror = HasKinds magic (mirror_kinds mirror) bytes
