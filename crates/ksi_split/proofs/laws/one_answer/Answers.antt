use Rattle.std.proofs.Common.{refl}
use Rattle.ksi_split.specs.Parts.{second_at}
use Rattle.ksi_split.proofs.Seconds.{some_answer, second_both, many_both, few_both}
use Rattle.ksi_split.proofs.laws.one_answer.Goals as goal

pub returns-clause-some : goal.returns-clause-some
returns-clause-some c = λ p sides. some_answer p sides

pub returns-clause-second : goal.returns-clause-second
returns-clause-second c = λ p t sides. second_both p sides (second_at p sides) refl t

pub returns-clause-too_many : goal.returns-clause-too_many
returns-clause-too_many c = λ p place sides. many_both p sides (second_at p sides) refl place

pub returns-clause-too_few : goal.returns-clause-too_few
returns-clause-too_few c = λ p rest sides. few_both p sides (second_at p sides) refl rest
