use Rattle.std.proofs.Common.{◌≡◌, ◌+◌, ◌*◌, ◌≤◌, drop, length, map}
use Rattle.ksi_tlv.specs.Writing.{texts}
use Rattle.ksi_signature.specs.Written.{calendar_link_element}
use Rattle.ksi_signature.proofs.lengths.calendar_links_size.Given as goal

abbrev pub invariant-loop-link : goal.invariant-loop-link
invariant-loop-link l =
    (l.size + length (texts (map calendar_link_element (drop l.link-index l.links))) ≡ length (texts (map calendar_link_element l.links)))
    × (l.size ≤ 37 * l.link-index)
