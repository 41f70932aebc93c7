use Rattle.std.proofs.Common.{◌≤◌, List, sym, subst, ap, ◌∙◌}
use Rattle.std.specs.List.{AllByRecursion}
use Rattle.ksi_aggtree.specs.Climbing.{level_after}
use Rattle.ksi_aggtree.specs.Owned.{plain_links}
use Rattle.ksi_aggtree.specs.declared.chains.link.Link.{Link}
use Rattle.ksi_beside.specs.Beside.{laid_on, rungs_from}
use Rattle.ksi_signature.specs.Values.{Aggregation, HasSize}
use Rattle.ksi_auditor.proofs.Chaining.{ok_goes_on, err_goes_on}
use Rattle.ksi_auditor.proofs.Lent.{short_links}
use Rattle.ksi_auditor.proofs.laid.AggregationChainLaidChain.along.Goals as goal

pub along_links-requires : goal.along_links-requires
along_links-requires g c =
    let is = c.as_slice-links.ensures.links ∙ ap (λ (chain : Aggregation). chain.links) c.self.view_is in
    record {
      levels = subst (λ (links : List Link). level_after c.args.below.now.level (plain_links links) ≤ 255) (sym is) c.requires.levels;
      sizes = short_links c.as_slice-links.result.now c.are_link_list.ensures (subst (AllByRecursion (λ link. HasSize link.sibling)) (sym c.as_slice-links.ensures.links) c.as_slice-links.ensures.limits.sizes);
      start = c.requires.start;
    }

pub returns-clause-walk : goal.returns-clause-walk
returns-clause-walk g c =
    let is = c.as_slice-links.ensures.links ∙ ap (λ (chain : Aggregation). chain.links) c.self.view_is in
    ok_goes_on c.along_links.result _ _ c.along_links.ensures.walk
    (ap (λ (links : List Link). laid_on (g.K.KeptTree.text c.args.tree.now) c.args.start (rungs_from g.C.Compress.image c.args.below.now (plain_links links))) is)

pub returns-clause-memory : goal.returns-clause-memory
returns-clause-memory g c =
    let is = c.as_slice-links.ensures.links ∙ ap (λ (chain : Aggregation). chain.links) c.self.view_is in
    err_goes_on c.along_links.result _ _ c.along_links.ensures.memory
    (ap (λ (links : List Link). laid_on (g.K.KeptTree.text c.args.tree.now) c.args.start (rungs_from g.C.Compress.image c.args.below.now (plain_links links))) is)
