use Rattle.ksi_extender.proofs.extending.extend_view.Given as goal

abbrev pub ghosts-extend_from : goal.ghosts-extend_from
ghosts-extend_from g a = record { name = a.blank.name; parts = a.blank.parts }
