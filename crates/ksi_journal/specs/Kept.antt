-- What loading keeps, for its own proof.
use Rattle.std.specs.Borrow.{Bor}
use Rattle.std.specs.Prelude.{◌≡◌, ℕ, zero, suc, ◌==◌, if◌then◌else◌, ◌∷◌, Option, Some, None, ◌+◌, ◌^◌, ◌<◌, ◌≤◌, List, [], length, Result, Ok, Err}
use Rattle.ksi_tlv.specs.Fields.{Inside}
use Rattle.ksi_tlv.specs.declared.order.fault.OrderFault.{OrderFault}
use Rattle.ksi_aggtree.specs.declared.item.Item.{Item}
use Rattle.ksi_aggtree.specs.declared.second.Second.{Second}
use Rattle.ksi_aggtree.specs.Rounds.{most_items, highest_item, leaf_level, item_at}
use Rattle.ksi_journal.specs.Elements.{rising, numbered, voting, dated}

-- a second whose items come is below 2^63, and those that are there and to come make a round
pub record IsLoading (second : ℕ) (items : List Item) (left : ℕ) : Type 0 where
  pub early : second < 2 ^ 63
  pub few : length items + left ≤ most_items
  pub none : left ≡ 0 → items ≡ []
  pub low : (k : ℕ) → leaf_level (item_at items k) ≤ highest_item

-- what was read of an element, and what is left of it
abbrev pub IsRising : ℕ → Inside → Inside → Result ℕ OrderFault → Type 0
IsRising least old new (Ok found) = rising least old ≡ Ok (found, new)
IsRising least old new (Err fault) = rising least old ≡ Err fault

abbrev pub IsNumbered : ℕ → Inside → Inside → Result ℕ OrderFault → Type 0
IsNumbered least old new (Ok found) = numbered least old ≡ Ok (found, new)
IsNumbered least old new (Err fault) = numbered least old ≡ Err fault

abbrev pub IsVoting : ℕ → Inside → Inside → Result (ℕ × ℕ × ℕ) OrderFault → Type 0
IsVoting least old new (Ok found) = voting least old ≡ Ok (found.0, found.1, found.2, new)
IsVoting least old new (Err fault) = voting least old ≡ Err fault

abbrev pub IsDated : ℕ → Inside → Inside → Result (ℕ × List ℕ) OrderFault → Type 0
IsDated least old new (Ok found) = dated least old ≡ Ok (found.0, found.1, new)
IsDated least old new (Err fault) = dated least old ≡ Err fault

-- a number and bytes, wherever these lie in memory
abbrev pub view_signature : Result (ℕ × Bor (List ℕ)) OrderFault → Result (ℕ × List ℕ) OrderFault
view_signature (Ok found) = Ok (found.0, found.1.now)
view_signature (Err fault) = Err fault

-- the kept part of a second, from the entry at a place
abbrev pub at_place : Option Second → ℕ → Option Second
at_place None t = None
at_place (Some kept) t = if kept.second == t then Some kept else None

-- the entry at a place
abbrev pub place_of : List Second → ℕ → Option Second
place_of [] n = None
place_of (kept ∷ others) zero = Some kept
place_of (kept ∷ others) (suc n) = place_of others n

-- a kept second, wherever it lies in memory
abbrev pub view_kept : Option (Bor Second) → Option Second
view_kept None = None
view_kept (Some kept) = Some kept.now
