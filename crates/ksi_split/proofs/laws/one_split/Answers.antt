use Rattle.std.proofs.Common.{sym, subst}
use Rattle.ksi_split.specs.Powers.{IsSplit, IsHighBit}
use Rattle.ksi_split.proofs.Powers.{split_is, split_only, high_bit_is, high_bit_only}
use Rattle.ksi_split.proofs.laws.one_split.Goals as goal

pub returns-clause-split : goal.returns-clause-split
returns-clause-split c = λ n k some. (λ h. split_only n k h, λ e. subst (IsSplit n) (sym e) (split_is n some))

pub returns-clause-high_bit : goal.returns-clause-high_bit
returns-clause-high_bit c = λ n k some. (λ h. high_bit_only n k h, λ e. subst (IsHighBit n) (sym e) (high_bit_is n some))
