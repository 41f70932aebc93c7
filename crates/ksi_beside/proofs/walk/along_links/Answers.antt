use Rattle.std.proofs.Common.{map}
use Rattle.ksi_beside.specs.Beside.{rungs_from}
use Rattle.ksi_beside.proofs.Going.{go_is, ok_goes_on, err_goes_on}
use Rattle.ksi_beside.proofs.walk.along_links.Goals as goal

pub returns-clause-walk : goal.returns-clause-walk
returns-clause-walk g c = ok_goes_on c.down_links.result _ _ c.down_links.ensures.walk (go_is (g.K.KeptTree.text c.args.tree.now) c.args.start (rungs_from g.C.Compress.image c.args.below.now (map g.L.ChainLink.plain c.args.links.now)))

pub returns-clause-memory : goal.returns-clause-memory
returns-clause-memory g c = err_goes_on c.down_links.result _ _ c.down_links.ensures.memory (go_is (g.K.KeptTree.text c.args.tree.now) c.args.start (rungs_from g.C.Compress.image c.args.below.now (map g.L.ChainLink.plain c.args.links.now)))
