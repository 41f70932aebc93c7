use Rattle.ksi_logblock.proofs.Leading.{ok_both}
use Rattle.ksi_logblock.proofs.block.Block.proof.Goals as goal

pub returns-clause-way : goal.returns-clause-way
returns-clause-way g c =
    ok_both c.mask_and_links.result _ _ _ c.mask_and_links.ensures.mask c.mask_and_links.ensures.links
    (λ proof mask links. c.own_proofs.ensures.way g.C.Compress.image c.args.self.now proof c.args.k c.requires mask links)

pub returns-clause-root : goal.returns-clause-root
returns-clause-root g c =
    ok_both c.mask_and_links.result _ _ _ c.mask_and_links.ensures.mask c.mask_and_links.ensures.links
    (λ proof mask links. c.own_proofs.ensures.root g.C.Compress.image c.args.self.now proof c.args.k c.requires mask links c.mask_and_links.ensures.few)

pub returns-clause-own : goal.returns-clause-own
returns-clause-own g c =
    ok_both c.mask_and_links.result _ _ _ c.mask_and_links.ensures.mask c.mask_and_links.ensures.links
    (λ proof mask links. c.own_proofs.ensures.own g.C.Compress.image c.args.self.now proof c.args.k mask links)
