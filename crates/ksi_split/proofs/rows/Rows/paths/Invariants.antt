use Rattle.ksi_split.proofs.rows.Rows.paths.Given as goal

abbrev pub ghosts-paths_from : goal.ghosts-paths_from
ghosts-paths_from g a = record { name = a.blank.name; parts = a.blank.parts }
