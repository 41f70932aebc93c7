use Rattle.std.proofs.Common.{◌≡◌, ◌++◌, drop}
use Rattle.ksi_signature.proofs.copies.calendar_links_of.Given as goal

abbrev pub invariant-loop-link : goal.invariant-loop-link
invariant-loop-link l = l.copies.items ++ drop l.link-index l.links ≡ l.links
