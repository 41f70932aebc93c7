use Rattle.ksi_logblock.proofs.LogRefusals.{not_both, one_of, one_refusal}
use Rattle.ksi_logblock.proofs.laws.log_or_refusal.Goals as goal

pub returns-clause-one : goal.returns-clause-one
returns-clause-one c lines = one_of lines

pub returns-clause-not_both : goal.returns-clause-not_both
returns-clause-not_both c lines refusal = not_both lines refusal

pub returns-clause-one_refusal : goal.returns-clause-one_refusal
returns-clause-one_refusal c lines refusal other = one_refusal lines refusal other
