-- The links of a line's proof as climbing sees them.
use Rattle.std.specs.Prelude.{ℕ, false, List, map, reverse}
use Rattle.ksi_split.specs.declared.side.Side.{Side}
use Rattle.ksi_aggtree.specs.Links.{PlainLink}
use Rattle.ksi_logblock.specs.declared.line_proof.LineLink.{LineLink}

-- by the type of a proof's links
abbrev pub most_links : ℕ
most_links = 63

abbrev pub plain_line_link : LineLink → PlainLink
plain_line_link link = record { side = link.side; correction = link.correction; sibling = link.sibling; raw = false }

-- a link of imprints as the proof of a line has it
abbrev pub line_link_of : PlainLink → LineLink
line_link_of link = record { side = link.side; correction = link.correction; sibling = link.sibling }

abbrev pub plain_line_links : List LineLink → List PlainLink
plain_line_links links = map plain_line_link links

-- the sides of links, from the top
abbrev pub sides_of : List LineLink → List Side
sides_of links = reverse (map (λ link. link.side) links)
