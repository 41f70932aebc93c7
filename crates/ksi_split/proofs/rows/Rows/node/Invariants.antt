use Rattle.ksi_split.proofs.rows.Rows.node.Given as goal

abbrev pub ghosts-node_from : goal.ghosts-node_from
ghosts-node_from g a = record { name = a.blank.name; parts = a.blank.parts }
