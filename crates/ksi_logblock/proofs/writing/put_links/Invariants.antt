use Rattle.std.proofs.Common.{◌≡◌, ◌++◌, drop, map, take}
use Rattle.std.specs.List.{AllByRecursion}
use Rattle.ksi_tlv.specs.Writing.{texts}
use Rattle.ksi_logblock.specs.File.{link_element}
use Rattle.ksi_logblock.specs.Kept.{IsLineLink}
use Rattle.ksi_logblock.proofs.writing.put_links.Given as goal

abbrev pub invariant-loop-link : goal.invariant-loop-link
invariant-loop-link l =
    (l.writer ++ texts (map link_element (drop l.link-index l.links)) ≡ l.fn.writer ++ texts (map link_element l.links))
    × AllByRecursion IsLineLink (take l.link-index l.links)
