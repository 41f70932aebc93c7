-- What goes down from a round that has a response.
use Rattle.std.specs.Prelude.{ℕ, suc, Bool, true, false, List, [], ◌∷◌, ◌++◌}
use Rattle.std.specs.List.{list_any}
use Rattle.ksi_aggtree.specs.declared.item.Item.{Item}
use Rattle.ksi_aggtree.specs.declared.entries.Origin.{Origin}
use Rattle.ksi_aggtree.specs.declared.entries.Origin.TheVariants as origins
use Rattle.ksi_aggtree.specs.declared.entries.Entry.{Entry}
use Rattle.ksi_aggtree.specs.Rounds.{item_at}
use Rattle.ksi_aggtree.specs.Paths.{chain_of}
use Rattle.ksi_aggtree.specs.Entries.{items_of, to_sender}
use Rattle.ksi_signature.specs.declared.above.AboveChain.{AboveChain}
use Rattle.ksi_signature.specs.declared.above.Above.{Above}
use Rattle.ksi_aggregator.specs.declared.step.Send.{Send}
use Rattle.ksi_aggregator.specs.declared.step.Send.TheVariants as sends

-- the origin is an aggregator
abbrev pub is_lower : Origin → Bool
is_lower (origins.Request number) = false
is_lower (origins.Aggregator from) = true

-- an item of a lower aggregator is there
abbrev pub has_lower : List Entry → Bool
has_lower entries = list_any (λ (entry : Entry). is_lower entry.origin) entries

-- the response goes to the aggregator that the item is from; a request has none
abbrev pub told_to : Origin → Above → List Send
told_to origin above = to_sender (λ from. sends.Response from above) origin

module _ (image : List ℕ → List ℕ) where
  -- the links of item k of a round, from the item's imprint on
  abbrev pub chain_at : List Item → ℕ → AboveChain
  chain_at items k = record { input = (item_at items k).imprint; links = chain_of image items k }

  -- the path above item k, for its sender, if this is the path above the round
  abbrev pub below : Above → List Item → ℕ → Above
  below above items k = record { root = above.root; chains = chain_at items k ∷ above.chains; calendar = above.calendar }

  -- a response for each item from k on that an aggregator sent, in their order
  abbrev pub responses_from : ℕ → Above → List Item → List Entry → List Send
  responses_from k above items [] = []
  responses_from k above items (entry ∷ entries) = told_to entry.origin (below above items k) ++ responses_from (suc k) above items entries

  unfoldable pub responses : Above → List Entry → List Send
  responses above entries = responses_from 0 above (items_of entries) entries
