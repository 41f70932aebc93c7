use Rattle.ksi_corenode.proofs.node.Core.settled.Given as goal

abbrev pub ghosts-settled_from : goal.ghosts-settled_from
ghosts-settled_from g a = record { name = a.blank.name; parts = a.blank.parts }
