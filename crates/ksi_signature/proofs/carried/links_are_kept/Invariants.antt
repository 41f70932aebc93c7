use Rattle.std.proofs.Common.{drop}
use Rattle.std.specs.List.{AllByRecursion}
use Rattle.ksi_signature.specs.Kept.{IsLink}
use Rattle.ksi_signature.proofs.carried.links_are_kept.Given as goal

abbrev pub invariant-loop-link : goal.invariant-loop-link
invariant-loop-link l = AllByRecursion IsLink (drop l.link-index l.links) → AllByRecursion IsLink l.links
