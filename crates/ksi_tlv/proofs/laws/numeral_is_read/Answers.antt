use Rattle.ksi_tlv.proofs.NumberLaws.{number_of-numeral, length-numeral, numeral-leading, numeral-fewest}
use Rattle.ksi_tlv.proofs.laws.numeral_is_read.Goals as goal

pub returns-clause-value : goal.returns-clause-value
returns-clause-value c = number_of-numeral

pub returns-clause-size : goal.returns-clause-size
returns-clause-size c = length-numeral

pub returns-clause-leading : goal.returns-clause-leading
returns-clause-leading c = numeral-leading

pub returns-clause-fewest : goal.returns-clause-fewest
returns-clause-fewest c = numeral-fewest
