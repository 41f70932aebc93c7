-- The kinds of a journal's elements, in their order.
use Rattle.std.specs.Prelude.{ℕ, List, [], ◌∷◌, ◌++◌, map, if◌then◌else◌}
use Rattle.std.specs.Option.{is_some}
use Rattle.ksi_tlv.specs.Kinds.{HasKinds}
use Rattle.ksi_aggtree.specs.declared.item.Item.{Item}
use Rattle.ksi_aggtree.specs.declared.second.Second.{Second}
use Rattle.ksi_journal.specs.declared.version.Version.{Version}
use Rattle.ksi_journal.specs.Journal.{Contents}
use Rattle.ksi_journal.specs.File.{magic}

-- an item has kind 3, and one with a name kind 7
abbrev pub item_kind : Item → ℕ
item_kind item = if is_some item.name then 7 else 3

-- each second has kind 2, and its items follow it
abbrev pub seconds_kinds : List Second → List ℕ
seconds_kinds [] = []
seconds_kinds (kept ∷ others) = 2 ∷ (map item_kind kept.items ++ seconds_kinds others)

-- the start, then voters, seconds with their items, issued signatures, publications, and the end
abbrev pub journal_kinds : Contents → List ℕ
journal_kinds journal =
    1 ∷ (map (λ pair. 8) journal.voters
    ++ (seconds_kinds journal.seconds
    ++ (map (λ signature. 4) journal.issued ++ (map (λ publication. 5) journal.publications ++ 6 ∷ []))))

-- after the magic of a version there are whole elements, and their kinds are those of the journal, one for one
pub record IsInOrder (bytes : List ℕ) (journal : Contents) : Type 0 where
  pub version : Version
  pub kinds : HasKinds (magic version) (journal_kinds journal) bytes
