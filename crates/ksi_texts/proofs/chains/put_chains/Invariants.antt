use Rattle.std.proofs.Common.{◌≡◌, ◌++◌, drop, map}
use Rattle.ksi_schedule.specs.Printed.{text_of_lines}
use Rattle.ksi_verifier.specs.Lent.{lent_chain}
use Rattle.ksi_texts.specs.Chains.{chains_rows}
use Rattle.ksi_texts.proofs.chains.put_chains.Given as goal

abbrev pub invariant-loop-k : goal.invariant-loop-k
invariant-loop-k l = l.text.items ++ text_of_lines (chains_rows l.k l.level (map lent_chain (drop l.k l.chains))) ≡ l.fn.text.items ++ text_of_lines (chains_rows 0 0 (map lent_chain l.fn.chains))
