use Rattle.std.proofs.Common.{length, ap, arith}
use Rattle.ksi_printed.proofs.Again.{numbers_length}
use Rattle.ksi_printed.proofs.printer.text_of.Goals as goal

pub push_sum-requires : goal.push_sum-requires
push_sum-requires c =
    omega (arith, ap length c.in_ok-numbers.ensures, numbers_length c.args.second c.args.root.now (omega (arith, c.bytes.ensures.imprint.size, ap length c.bytes.ensures.value)))
