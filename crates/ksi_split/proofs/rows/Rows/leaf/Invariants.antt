use Rattle.ksi_split.proofs.rows.Rows.leaf.Given as goal

abbrev pub ghosts-leaf_from : goal.ghosts-leaf_from
ghosts-leaf_from g a = record { name = a.blank.name; parts = a.blank.parts }
