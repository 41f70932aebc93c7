use Rattle.std.proofs.Common.{◌≡◌, drop}
use Rattle.ksi_publications.specs.Finding.{find}
use Rattle.ksi_publications.proofs.publications.first_of.Given as goal

abbrev pub invariant-loop-pair : goal.invariant-loop-pair
invariant-loop-pair l = find l.time (drop l.pair-index l.pairs) ≡ find l.time l.pairs
