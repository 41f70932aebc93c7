use Rattle.ksi_calendar.proofs.calendar.Calendar.chain_to.Given as goal

abbrev pub ghosts-chain_from : goal.ghosts-chain_from
ghosts-chain_from g a = record { name = a.blank.name; parts = a.blank.parts }
