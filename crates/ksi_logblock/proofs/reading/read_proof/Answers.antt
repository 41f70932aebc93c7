use Rattle.ksi_tlv.proofs.Refusing.{file_refused}
use Rattle.ksi_logblock.specs.File.{proof_format}
use Rattle.ksi_logblock.specs.Wanting.{WantsFor}
use Rattle.ksi_logblock.proofs.reading.read_proof.Goals as goal

pub returns-in-Err-clause-refused : goal.returns-in-Err-clause-refused
unfolding proof_format
returns-in-Err-clause-refused c =
    file_refused proof_format WantsFor c.args.bytes.now c.in-Some.rest.now _ c.walk.new.state c.in-Err.refused c.in-Some.ensures.some c.new-reading.ensures c.in-Err.ensures.told c.in-Err.ensures.wanting
