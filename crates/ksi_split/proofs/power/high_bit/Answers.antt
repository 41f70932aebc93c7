use Rattle.std.proofs.Common.{◌∙◌, sym}
use Rattle.std.proofs.lemmas.Nat.{one_shl}
use Rattle.ksi_split.proofs.Powers.{high_bit_at}
use Rattle.ksi_split.proofs.power.high_bit.Goals as goal

pub returns-clause-power : goal.returns-clause-power
returns-clause-power c = (c.ilog2.result, one_shl c.ilog2.result 64 c.ilog2.ensures.bound)

pub returns-clause-most : goal.returns-clause-most
returns-clause-most c = rw (one_shl c.ilog2.result 64 c.ilog2.ensures.bound) c.ilog2.ensures.power_le

pub returns-clause-greatest : goal.returns-clause-greatest
returns-clause-greatest c = rw (one_shl c.ilog2.result 64 c.ilog2.ensures.bound) c.ilog2.ensures.next_power_gt

pub returns-clause-value : goal.returns-clause-value
returns-clause-value c = one_shl c.ilog2.result 64 c.ilog2.ensures.bound ∙ sym (high_bit_at c.ilog2.result c.args.n c.ilog2.ensures.power_le c.ilog2.ensures.next_power_gt)
