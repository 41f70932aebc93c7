use Rattle.ksi_records.proofs.Renaming.{renamed_history, row_of_seconds}
use Rattle.ksi_records.proofs.Together.{one_history}
use Rattle.ksi_records.proofs.laws.logs_are_one_history.Goals as goal

pub returns-clause-history : goal.returns-clause-history
returns-clause-history c = one_history

pub returns-clause-renamed : goal.returns-clause-renamed
returns-clause-renamed c = λ image plan name w rounds deeds. renamed_history image plan name c.numbers_are_names.ensures.row c.numbers_are_names.ensures.restart w rounds deeds

pub returns-clause-row : goal.returns-clause-row
returns-clause-row c = row_of_seconds
