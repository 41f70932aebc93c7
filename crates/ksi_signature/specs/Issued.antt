-- The signature that is issued for an item, from a response.
use Rattle.std.specs.Prelude.{ℕ, List, [], ◌∷◌, ◌++◌, map, Some, None}
use Rattle.ksi_aggtree.specs.declared.chains.link.Link.{Link}
use Rattle.ksi_aggtree.specs.Shapes.{shape_of}
use Rattle.ksi_signature.specs.Values.{Aggregation}
use Rattle.ksi_signature.specs.declared.signature.Signature.{Signature}
use Rattle.ksi_signature.specs.declared.above.AboveChain.{AboveChain}
use Rattle.ksi_signature.specs.declared.above.Above.{Above}

abbrev pub shape_along : List Link → ℕ
shape_along links = shape_of (map (λ link. link.side) links)

-- The index of the lowest of chains: their shapes, the shape of the highest first. So the index of the next higher chain
-- is this one without its last part.
abbrev pub index_of : List AboveChain → List ℕ
index_of [] = []
index_of (chain ∷ above) = index_of above ++ (shape_along chain.links ∷ [])

-- the chains of one second, the lowest first
abbrev pub issued_chains : ℕ → List AboveChain → List Aggregation
issued_chains second [] = []
issued_chains second (chain ∷ above) =
    record { time = second; index = index_of (chain ∷ above); input_body = None; input = chain.input; links = chain.links }
    ∷ issued_chains second above

abbrev pub own_chain : List ℕ → List Link → AboveChain
own_chain input links = record { input = input; links = links }

-- the item's own chain, the chains above it, and the calendar chain of the second in the calendar to that second
unfoldable pub issued : ℕ → List ℕ → List Link → Above → Signature
issued second input links above = record {
  chains = issued_chains second (own_chain input links ∷ above.chains);
  calendar = Some (record { publication = second; time = second; input = above.root; links = above.calendar });
  publication = None;
}
