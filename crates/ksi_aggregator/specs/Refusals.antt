-- Which rounds refuse what, in words.
use Rattle.std.specs.Prelude.{◌≡◌, ◌<◌, ℕ, true, false, List, length, Some, None}
use Rattle.ksi_aggtree.specs.declared.entries.Entry.{Entry}
use Rattle.ksi_aggtree.specs.Rounds.{most_items}
use Rattle.ksi_aggtree.specs.Entries.{has_from}
use Rattle.ksi_aggregator.specs.Rows.{RoundState}

-- the round is open and has 65,536 items
pub record IsFull (r : RoundState) : Type 0 where
  pub open_yet : r.closed ≡ None
  pub count : length r.open_items ≡ most_items

-- the round is open and has an item of the aggregator
pub record IsKnown (from : ℕ) (r : RoundState) : Type 0 where
  pub open_yet : r.closed ≡ None
  pub there : has_from from r.open_items ≡ true

-- the round is open, and has 65,536 items and none of the aggregator
pub record IsFullFor (from : ℕ) (r : RoundState) : Type 0 where
  pub full : IsFull r
  pub other : has_from from r.open_items ≡ false

-- the round is closed with items and has no response
pub record AwaitsResponse (r : RoundState) : Type 0 where
  pub entries : List Entry
  pub closed : r.closed ≡ Some entries
  pub some : 0 < length entries
  pub answered : r.answered ≡ None
