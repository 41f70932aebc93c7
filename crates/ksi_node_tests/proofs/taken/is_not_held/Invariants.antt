use Rattle.ksi_node_tests.proofs.taken.is_not_held.Given as goal

abbrev pub ghosts-counted : goal.ghosts-counted
ghosts-counted a = record { name = a.blank.name; parts = a.blank.parts }
