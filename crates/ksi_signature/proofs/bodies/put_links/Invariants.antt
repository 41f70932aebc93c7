use Rattle.std.proofs.Common.{◌≡◌, ◌++◌, map, drop, take}
use Rattle.std.specs.List.{AllByRecursion}
use Rattle.ksi_tlv.specs.Writing.{texts}
use Rattle.ksi_signature.specs.Values.{HasSize}
use Rattle.ksi_signature.specs.Kept.{IsLink}
use Rattle.ksi_signature.specs.Written.{link_element}
use Rattle.ksi_signature.proofs.bodies.put_links.Given as goal

abbrev pub invariant-loop-link : goal.invariant-loop-link
invariant-loop-link l =
    (l.writer ++ texts (map link_element (drop l.link-index l.links)) ≡ l.fn.writer ++ texts (map link_element l.links))
    × AllByRecursion (λ link. HasSize link.sibling) (drop l.link-index l.links)
    × AllByRecursion IsLink (take l.link-index l.links)
