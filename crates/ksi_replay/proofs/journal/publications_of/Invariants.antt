use Rattle.std.proofs.Common.{◌≡◌, ◌++◌}
use Rattle.std.specs.List.{AllByRecursion}
use Rattle.ksi_imprint.specs.Imprints.{IsImprint}
use Rattle.ksi_replay.proofs.journal.publications_of.Given as goal

abbrev pub invariant-publications : goal.invariant-publications
invariant-publications l = record {
  same : l.copy.items ++ l.second-iterator ≡ l.published;
  imprints : AllByRecursion (λ publication. IsImprint publication.1) l.copy.items;
}
