use Rattle.std.proofs.Common.{◌≡◌, ℕ, sym, ◌∙◌}
use Rattle.ksi_split.proofs.Seconds.{named, too_many, too_few, second_found, passing_found, above_found}
use Rattle.ksi_split.proofs.laws.only_one_answer.Goals as goal

second_place : (t place : ℕ) → named t ≡ too_many place → ⊥
second_place t place e = cc

second_rest : (t rest : ℕ) → named t ≡ too_few rest → ⊥
second_rest t rest e = cc

place_rest : (place rest : ℕ) → too_many place ≡ too_few rest → ⊥
place_rest place rest e = cc

seconds : (t u : ℕ) → named t ≡ named u → t ≡ u
seconds t u e = cc

places : (place other : ℕ) → too_many place ≡ too_many other → place ≡ other
places place other e = cc

rests : (rest other : ℕ) → too_few rest ≡ too_few other → rest ≡ other
rests rest other e = cc

pub returns-clause-second_or_place : goal.returns-clause-second_or_place
returns-clause-second_or_place c = λ p t place sides a b. second_place t place (sym (second_found p t sides a) ∙ passing_found p place sides b)

pub returns-clause-second_or_rest : goal.returns-clause-second_or_rest
returns-clause-second_or_rest c = λ p t rest sides a b. second_rest t rest (sym (second_found p t sides a) ∙ above_found p rest sides b)

pub returns-clause-place_or_rest : goal.returns-clause-place_or_rest
returns-clause-place_or_rest c = λ p place rest sides a b. place_rest place rest (sym (passing_found p place sides a) ∙ above_found p rest sides b)

pub returns-clause-one_second : goal.returns-clause-one_second
returns-clause-one_second c = λ p t u sides a b. seconds t u (sym (second_found p t sides a) ∙ second_found p u sides b)

pub returns-clause-one_place : goal.returns-clause-one_place
returns-clause-one_place c = λ p place other sides a b. places place other (sym (passing_found p place sides a) ∙ passing_found p other sides b)

pub returns-clause-one_rest : goal.returns-clause-one_rest
returns-clause-one_rest c = λ p rest other sides a b. rests rest other (sym (above_found p rest sides a) ∙ above_found p other sides b)
