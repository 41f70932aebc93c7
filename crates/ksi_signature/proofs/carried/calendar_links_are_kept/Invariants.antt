use Rattle.std.proofs.Common.{drop}
use Rattle.std.specs.List.{AllByRecursion}
use Rattle.ksi_imprint.specs.Imprints.{IsImprint}
use Rattle.ksi_signature.proofs.carried.calendar_links_are_kept.Given as goal

abbrev pub invariant-loop-link : goal.invariant-loop-link
invariant-loop-link l = AllByRecursion (λ link. IsImprint link.sibling) (drop l.link-index l.links) → AllByRecursion (λ link. IsImprint link.sibling) l.links
