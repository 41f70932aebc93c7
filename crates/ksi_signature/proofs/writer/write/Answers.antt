use Rattle.ksi_signature.specs.Written.{sizes_of}
use Rattle.ksi_signature.proofs.Sizes.{long_of_refusal, refusal_of_long, none_of_ok}
use Rattle.ksi_signature.proofs.writer.write.Goals as goal

pub returns-clause-too_long : goal.returns-clause-too_long
returns-clause-too_long c = long_of_refusal (sizes_of c.args.signature.now) c.written.result c.written.ensures.long

pub returns-clause-long : goal.returns-clause-long
returns-clause-long c = refusal_of_long (sizes_of c.args.signature.now) c.written.result c.written.ensures.long

pub returns-clause-fits : goal.returns-clause-fits
returns-clause-fits c = none_of_ok (sizes_of c.args.signature.now) c.written.result c.written.ensures.long
