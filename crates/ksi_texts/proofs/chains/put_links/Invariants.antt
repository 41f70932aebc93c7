use Rattle.std.proofs.Common.{◌≡◌, ◌++◌, drop}
use Rattle.ksi_schedule.specs.Printed.{text_of_lines}
use Rattle.ksi_aggtree.specs.Lent.{lent_links}
use Rattle.ksi_texts.specs.Chains.{link_rows}
use Rattle.ksi_texts.proofs.chains.put_links.Given as goal

abbrev pub invariant-loop-place : goal.invariant-loop-place
invariant-loop-place l = l.text.items ++ text_of_lines (link_rows l.place l.node (lent_links (drop l.place l.links))) ≡ l.fn.text.items ++ text_of_lines (link_rows 0 l.fn.start (lent_links l.fn.links))
