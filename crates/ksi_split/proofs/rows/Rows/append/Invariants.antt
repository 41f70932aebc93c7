use Rattle.ksi_split.proofs.rows.Rows.append.Given as goal

abbrev pub ghosts-append_from : goal.ghosts-append_from
ghosts-append_from g a = record { name = a.blank.name; parts = a.blank.parts }
