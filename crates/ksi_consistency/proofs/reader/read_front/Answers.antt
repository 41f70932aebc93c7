use Rattle.ksi_tlv.proofs.Refusing.{file_refused}
use Rattle.ksi_consistency.specs.File.{front_format}
use Rattle.ksi_consistency.specs.Wanting.{WantsFor}
use Rattle.ksi_consistency.proofs.reader.read_front.Goals as goal

pub returns-in-Err-clause-fault : goal.returns-in-Err-clause-fault
unfolding front_format
returns-in-Err-clause-fault c =
    file_refused front_format WantsFor c.args.bytes.now c.in-Some.rest.now _ c.walk.new.state c.in-Err.refused c.in-Some.ensures.some c.new-loading.ensures c.in-Err.ensures.told c.in-Err.ensures.wanting
