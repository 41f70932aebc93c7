use Rattle.std.proofs.Common.{[]}
use Rattle.ksi_beside.specs.Beside.{calendar_rungs_from}
use Rattle.ksi_beside.specs.declared.walk.Walk.TheVariants.{At}
use Rattle.ksi_beside.proofs.Going.{go_is, ok_goes_on, err_goes_on}
use Rattle.ksi_beside.proofs.walk.along_calendar.Goals as goal

pub returns-clause-walk : goal.returns-clause-walk
returns-clause-walk g c = ok_goes_on c.down_calendar.result _ _ c.down_calendar.ensures.walk (go_is (g.K.KeptTree.text c.args.tree.now) (At []) (calendar_rungs_from g.C.Compress.image c.args.below.now c.args.links.now))

pub returns-clause-memory : goal.returns-clause-memory
returns-clause-memory g c = err_goes_on c.down_calendar.result _ _ c.down_calendar.ensures.memory (go_is (g.K.KeptTree.text c.args.tree.now) (At []) (calendar_rungs_from g.C.Compress.image c.args.below.now c.args.links.now))
