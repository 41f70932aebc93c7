use Rattle.ksi_corenode.proofs.seconds.Seconds.part.Given as goal

abbrev pub ghosts-part_from : goal.ghosts-part_from
ghosts-part_from g a = record { name = a.blank.name; parts = a.blank.parts }
