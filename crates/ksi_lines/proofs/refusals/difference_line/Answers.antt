use Rattle.ksi_lines.proofs.refusals.difference_line.Goals as goal

pub returns-in-Hash : goal.returns-in-Hash
returns-in-Hash c = rw c.in-Hash.is c.refused-in-Hash.ensures
