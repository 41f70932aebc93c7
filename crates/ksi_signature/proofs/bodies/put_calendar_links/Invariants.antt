use Rattle.std.proofs.Common.{◌≡◌, ◌≤◌, ◌+◌, ◌*◌, ◌++◌, map, drop, take, length}
use Rattle.std.specs.List.{AllByRecursion}
use Rattle.ksi_imprint.specs.Imprints.{IsImprint}
use Rattle.ksi_tlv.specs.Writing.{texts}
use Rattle.ksi_signature.specs.Written.{calendar_link_element}
use Rattle.ksi_signature.proofs.bodies.put_calendar_links.Given as goal

abbrev pub invariant-loop-link : goal.invariant-loop-link
invariant-loop-link l =
    (l.writer ++ texts (map calendar_link_element (drop l.link-index l.links)) ≡ l.fn.writer ++ texts (map calendar_link_element l.links))
    × (length l.writer ≤ length l.fn.writer + 37 * l.link-index)
    × AllByRecursion (λ link. IsImprint link.sibling) (take l.link-index l.links)
