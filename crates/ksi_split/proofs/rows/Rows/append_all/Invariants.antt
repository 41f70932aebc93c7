use Rattle.ksi_split.proofs.rows.Rows.append_all.Given as goal

abbrev pub ghosts-append_all_from : goal.ghosts-append_all_from
ghosts-append_all_from g a = record { name = a.blank.name; parts = a.blank.parts }
