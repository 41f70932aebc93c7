-- Issued chains pass the checks of aggregation chains.
use Rattle.std.proofs.Common.{◌≡◌, ℕ, ◌-◌, ◌<◌, false, List, [], ◌∷◌, ◌++◌, length, take, map, refl, sym, ap, ◌∙◌, arith, length-append}
use Rattle.std.specs.Prelude.{◌↔◌, Ok, slice_index}
use Rattle.std.specs.List.{AllByRecursion}
use Rattle.std.proofs.Math.Seq.{take-append_seam}
use Rattle.ksi_split.specs.declared.side.Side.{Side}
use Rattle.ksi_aggtree.specs.declared.chains.node.Node.{Node}
use Rattle.ksi_aggtree.specs.declared.chains.link.Link.{Link}
use Rattle.ksi_aggtree.specs.Owned.{plain_links}
use Rattle.ksi_aggtree.specs.Shapes.{shape_of}
use Rattle.ksi_signature.specs.declared.above.Above.{Above}
use Rattle.ksi_signature.specs.declared.above.AboveChain.{AboveChain}
use Rattle.ksi_signature.specs.declared.signature.Signature.{Signature}
use Rattle.ksi_signature.specs.Above.{AreRoundLinks}
use Rattle.ksi_signature.specs.Kept.{IsLink}
use Rattle.ksi_signature.specs.Carried.{IsAboveChain, MayBeIssued}
use Rattle.ksi_signature.specs.Issued.{shape_along, index_of, issued_chains, own_chain, issued}
use Rattle.ksi_verifier.specs.declared.aggregated.Aggregated.{Aggregated}
use Rattle.ksi_signature.specs.Heads.{last_part}
use Rattle.ksi_aggtree.specs.Links.{is_bare}
use Rattle.ksi_verifier.specs.ChainChecks.{aggregated}
use Rattle.ksi_verifier.specs.Chains.{plain_chains, first_chain, without_last, chain_shape}
use Rattle.ksi_verifier.specs.Accepted.{AreNested, ChainsLead, IsAggregated}
use Rattle.ksi_world.specs.Joined.{ChainsClimb}
use Rattle.ksi_auditor.specs.Shown.{HasLinks}
use Rattle.ksi_replay.specs.Lasting.{AreNotBare}

-- ---- indexes

one_less : (index : List ℕ) (part : ℕ) → length (index ++ part ∷ []) - 1 ≡ length index
one_less index part = omega (arith, length-append index (part ∷ []))

last_at : (index : List ℕ) (part : ℕ) → slice_index (index ++ part ∷ []) (length index) ≡ part
last_at [] part = refl
last_at (first ∷ index) part = last_at index part

last_is : (index : List ℕ) (part : ℕ) → last_part (index ++ part ∷ []) ≡ part
last_is index part = ap (slice_index (index ++ part ∷ [])) (one_less index part) ∙ last_at index part

front_is : (index : List ℕ) (part : ℕ) → index ≡ without_last (index ++ part ∷ [])
front_is index part = sym (ap (λ (n : ℕ). take n (index ++ part ∷ [])) (one_less index part) ∙ take-append_seam index (part ∷ []))

same_sides : (links : List Link) → map (λ link. link.side) links ≡ map (λ link. link.side) (plain_links links)
same_sides [] = refl
same_sides (link ∷ links) = ap (λ (sides : List Side). link.side ∷ sides) (same_sides links)

-- ---- chains

-- the law of the links of rounds
abbrev pub RoundLaw : Type 0
RoundLaw = (links : List Link) → AreRoundLinks links → AllByRecursion (λ link. is_bare link ≡ false) (plain_links links)

nested : (second : ℕ) (chains : List AboveChain) → AreNested (plain_chains (issued_chains second chains))
nested second [] = tt
nested second (chain ∷ []) = tt
nested second (chain ∷ next ∷ above) = (front_is (index_of (next ∷ above)) (shape_along chain.links), nested second (next ∷ above))

shapes : (second : ℕ) (chains : List AboveChain) → AllByRecursion (λ chain. last_part chain.index ≡ chain_shape chain) (plain_chains (issued_chains second chains))
shapes second [] = tt
shapes second (chain ∷ above) = (last_is (index_of above) (shape_along chain.links) ∙ ap shape_of (same_sides chain.links), shapes second above)

times : (second : ℕ) (chains : List AboveChain) → AllByRecursion (λ chain. chain.time ≡ second) (plain_chains (issued_chains second chains))
times second [] = tt
times second (chain ∷ above) = (refl, times second above)

named : (second : ℕ) (chains : List AboveChain) → AreNotBare chains → AllByRecursion (λ chain. AllByRecursion (λ link. is_bare link ≡ false) chain.links) (plain_chains (issued_chains second chains))
named second [] are = tt
named second (chain ∷ above) are = (are.0, named second above are.1)

above_named : RoundLaw → (chains : List AboveChain) → AllByRecursion IsAboveChain chains → AreNotBare chains
above_named law [] are = tt
above_named law (chain ∷ chains) are = (law chain.links are.0.limits, above_named law chains are.1)

-- what may be issued has no bare link
pub carried_named : RoundLaw → (second : ℕ) (input : List ℕ) (links : List Link) (above : Above) → MayBeIssued second input links above → AreNotBare (own_chain input links ∷ above.chains)
carried_named law second input links above may = (law links may.limits, above_named law above.chains may.kept.chains)

-- and its links are such as are read
chains_linked : (second : ℕ) (chains : List AboveChain) → AllByRecursion (λ chain. AllByRecursion IsLink chain.links) chains → AllByRecursion (λ chain. AllByRecursion IsLink chain.links) (issued_chains second chains)
chains_linked second [] are = tt
chains_linked second (chain ∷ above) are = (are.0, chains_linked second above are.1)

above_linked : (chains : List AboveChain) → AllByRecursion IsAboveChain chains → AllByRecursion (λ (chain : AboveChain). AllByRecursion IsLink chain.links) chains
above_linked [] are = tt
above_linked (chain ∷ chains) are = (are.0.links, above_linked chains are.1)

pub issued_links : (second : ℕ) (input : List ℕ) (links : List Link) (above : Above) → MayBeIssued second input links above → HasLinks (issued second input links above)
unfolding issued
issued_links second input links above may = chains_linked second (own_chain input links ∷ above.chains) (may.are, above_linked above.chains may.kept.chains)

module _ (image : List ℕ → List ℕ) where
  lead : (second : ℕ) (chains : List AboveChain) (start top : Node) → ChainsClimb image start chains top → ChainsLead image start (plain_chains (issued_chains second chains)) top
  lead second [] start top is = is
  lead second (chain ∷ above) start top is = (is.0, is.1, is.2, lead second above is.0 top is.3)

  pub issued_aggregated : ((signature : Signature) (chains : Aggregated) → 0 < length signature.chains → (aggregated image signature ≡ Ok chains) ↔ IsAggregated image (plain_chains signature.chains) (first_chain (plain_chains signature.chains)).input chains.time chains.node)
      → (second : ℕ) (input : List ℕ) (links : List Link) (above : Above) (top : Node) → AreNotBare (own_chain input links ∷ above.chains) → ChainsClimb image (record { imprint = input; level = 0 }) (own_chain input links ∷ above.chains) top
      → aggregated image (issued second input links above) ≡ Ok (record { time = second; node = top })
  unfolding issued
  issued_aggregated aggregation second input links above top are climbs =
      let chains = own_chain input links ∷ above.chains in
      (aggregation (issued second input links above) (record { time = second; node = top }) (omega arith)).1 (record {
        some = omega arith;
        order = nested second chains;
        shapes = shapes second chains;
        lead = lead second chains (record { imprint = input; level = 0 }) top climbs;
        times = times second chains;
        named = named second chains are;
      })
