use Rattle.std.proofs.Common.{◌≡◌, ◌++◌, drop, map}
use Rattle.ksi_schedule.specs.Printed.{text_of_lines}
use Rattle.ksi_wire.specs.Chains.{link_words}
use Rattle.ksi_wire.proofs.chains.put_links.Given as goal

-- the text so far and the lines to come make the whole
abbrev pub invariant-links : goal.invariant-links
invariant-links l = l.text.items ++ text_of_lines (map link_words (drop l.link-index l.links)) ≡ l.fn.text.items ++ text_of_lines (map link_words l.links)
