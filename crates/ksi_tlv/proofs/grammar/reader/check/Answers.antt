use Rattle.ksi_tlv.proofs.Verdicts.{ok_both, fault_both}
use Rattle.ksi_tlv.proofs.grammar.reader.check.Goals as goal

pub returns-clause-ok : goal.returns-clause-ok
returns-clause-ok g c = ok_both g.G.Grammar.table c.args.place c.args.inside c.args.body.now c.scan.result g.met.G.Grammar.well_formed c.scan.ensures

pub returns-clause-fault : goal.returns-clause-fault
returns-clause-fault g c = fault_both g.G.Grammar.table c.args.place c.args.inside c.args.body.now c.scan.result g.met.G.Grammar.well_formed c.scan.ensures
