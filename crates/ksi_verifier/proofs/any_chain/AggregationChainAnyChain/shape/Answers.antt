use Rattle.std.proofs.Common.{List, map, ap, ◌∙◌}
use Rattle.ksi_aggtree.specs.Owned.{plain_links}
use Rattle.ksi_aggtree.specs.Shapes.{shape_of}
use Rattle.ksi_aggtree.specs.declared.chains.link.Link.{Link}
use Rattle.ksi_signature.specs.Values.{Aggregation}
use Rattle.ksi_verifier.proofs.Loops.{same_sides}
use Rattle.ksi_verifier.proofs.any_chain.AggregationChainAnyChain.shape.Goals as goal

pub returns : goal.returns
returns c =
    c.shape.ensures.value ∙ ap shape_of (same_sides c.as_slice.result.now)
    ∙ ap (λ (links : List Link). shape_of (map (λ link. link.side) (plain_links links))) (c.as_slice.ensures.links ∙ ap (λ (chain : Aggregation). chain.links) c.self.view_is)
