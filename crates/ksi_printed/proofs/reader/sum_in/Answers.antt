use Rattle.std.proofs.Common.{sym, arith}
use Rattle.std.proofs.Math.ListN.{drop_of_length-le}
use Rattle.ksi_printed.proofs.reader.sum_in.Goals as goal

pub returns-then-text-lt125 : goal.returns-then-text-lt125
returns-then-text-lt125 c = sym (drop_of_length-le c.args.text.now {i = 125} (omega arith))
