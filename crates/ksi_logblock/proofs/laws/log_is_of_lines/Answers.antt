use Rattle.ksi_logblock.proofs.LogTexts.{is_alone, is_cut}
use Rattle.ksi_logblock.proofs.laws.log_is_of_lines.Goals as goal

pub returns-clause-cut : goal.returns-clause-cut
returns-clause-cut c log = is_cut log

pub returns-clause-alone : goal.returns-clause-alone
returns-clause-alone c log lines = is_alone log lines
