use Rattle.std.proofs.Common.{rules, arith}
use Rattle.ksi_tlv.proofs.NumberLaws.{from_zero, more_fits}
use Rattle.ksi_tlv.proofs.numbers.number.Goals as goal

pub loop-byte-init : goal.loop-byte-init
loop-byte-init c = (from_zero c.args.bytes.now, omega arith)

pub overflow_mul-value : goal.overflow_mul-value
overflow_mul-value c = omega (arith, more_fits c.loop-byte.value c.loop-byte.byte-index 0 c.loop-byte.invariant.1 (omega arith) (omega arith))

pub overflow_add-value : goal.overflow_add-value
overflow_add-value c = omega (arith, more_fits c.loop-byte.value c.loop-byte.byte-index c.from.result c.loop-byte.invariant.1 (omega arith) (omega arith))

pub returns-then-bytes-gt8-clause-value : goal.returns-then-bytes-gt8-clause-value
returns-then-bytes-gt8-clause-value c = search rules

pub returns-then-bytes-gt8-clause-ok : goal.returns-then-bytes-gt8-clause-ok
returns-then-bytes-gt8-clause-ok c = search rules
