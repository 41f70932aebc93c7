use Rattle.std.proofs.Common.{sym, subst, ◌∙◌}
use Rattle.std.specs.List.{AllByRecursion}
use Rattle.ksi_beside.specs.Beside.{IsShortLink}
use Rattle.ksi_auditor.proofs.Lent.{short_links}
use Rattle.ksi_auditor.proofs.laid.ChainViewLaidChain.along.Goals as goal

pub along_links-requires-clause-sizes : goal.along_links-requires-clause-sizes
along_links-requires-clause-sizes g c =
    subst (AllByRecursion IsShortLink) (sym (c.as_slice.ensures.links ∙ c.links-links.ensures.links)) (short_links _ c.links-links.ensures.each c.links-links.ensures.limits.sizes)
