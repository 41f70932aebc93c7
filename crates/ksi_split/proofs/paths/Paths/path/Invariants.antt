use Rattle.ksi_split.proofs.paths.Paths.path.Given as goal

abbrev pub ghosts-path_beside : goal.ghosts-path_beside
ghosts-path_beside g a = record { name = a.blank.name; parts = a.blank.parts }
