use Rattle.ksi_split.proofs.rows.Rows.root.Given as goal

abbrev pub ghosts-root_from : goal.ghosts-root_from
ghosts-root_from g a = record { name = a.blank.name; parts = a.blank.parts }
