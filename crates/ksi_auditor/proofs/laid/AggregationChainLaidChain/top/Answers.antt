use Rattle.std.proofs.Common.{◌≤◌, List, sym, subst, ap, ◌∙◌}
use Rattle.ksi_aggtree.specs.Climbing.{level_after}
use Rattle.ksi_aggtree.specs.Owned.{plain_links}
use Rattle.ksi_aggtree.specs.declared.chains.link.Link.{Link}
use Rattle.ksi_signature.specs.Values.{Aggregation}
use Rattle.ksi_auditor.specs.Climbed.{climbed_to}
use Rattle.ksi_auditor.proofs.laid.AggregationChainLaidChain.top.Goals as goal

pub top_of-requires : goal.top_of-requires
top_of-requires g c =
    let is = c.as_slice.ensures.links ∙ ap (λ (chain : Aggregation). chain.links) c.self.view_is in
    subst (λ (links : List Link). level_after c.args.below.now.level (plain_links links) ≤ 255) (sym is) c.requires

pub returns : goal.returns
returns g c =
    let is = c.as_slice.ensures.links ∙ ap (λ (chain : Aggregation). chain.links) c.self.view_is in
    c.top_of.ensures ∙ ap (λ (links : List Link). climbed_to g.C.Compress.image c.args.below.now (plain_links links)) is
