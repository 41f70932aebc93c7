use Rattle.std.proofs.Common.{◌∙◌, sym}
use Rattle.ksi_corenode.specs.CoreState.{held_by}
use Rattle.ksi_corenode.proofs.HeldChains.{chain_kept}
use Rattle.ksi_corenode.proofs.node.Core.chain_within.Goals as goal

pub returns-in_ok-links-in-Some : goal.returns-in_ok-links-in-Some
returns-in_ok-links-in-Some g c =
    let image = g.C.Compress.image in
    let now = c.args.self.now in
    let held = held_by now in
    let calendar = c.in-Ok.calendar.now in
    chain_kept image held now.start c.args.t c.args.p calendar c.from_vec.result c.in-Some.root c.in-Ok.ensures.kept c.requires.from c.in-Ok.ensures.covered
    c.in-Ok.ensures.all (c.one_covered.ensures.root image calendar held now.start c.args.p) (c.one_covered.ensures.path image calendar held now.start c.args.t c.args.p)
    (sym c.root_to.ensures ∙ c.in-Some.is) (c.from_vec.ensures ∙ c.into_vec.ensures ∙ c.in_ok-links-in-Some.ensures.links)
