use Rattle.std.proofs.Common.{◌∙◌, ◌≤◌, List, length, sym, subst, arith}
use Rattle.ksi_aggtree.specs.declared.chains.link.Link.{Link}
use Rattle.ksi_corenode.proofs.Responses.{ShortMetas, round_links}
use Rattle.ksi_corenode.proofs.responding.round_links.Goals as goal

pub from_vec-requires : goal.from_vec-requires
from_vec-requires g c =
    let short : ShortMetas = λ name is. (omega (arith, c.metas_are_even.ensures.least name is), c.metas_are_even.ensures.most name is) in
    round_links short g.C.Compress.image c.args.paths.now c.args.k c.into_vec.result.items
    c.in_ok-links.ensures.name (c.into_vec.ensures ∙ c.in_ok-links.ensures.links)
    (subst (λ (links : List Link). length links ≤ 17) (sym c.into_vec.ensures) c.in_ok-links.ensures.few)
