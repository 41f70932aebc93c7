-- Links that own their siblings.
use Rattle.std.specs.Prelude.{ℕ, Bool, true, false, List, map}
use Rattle.ksi_aggtree.specs.Links.{PlainLink}
use Rattle.ksi_aggtree.specs.declared.chains.link.Link.{Link}
use Rattle.ksi_aggtree.specs.declared.chains.link.Sibling.{Sibling}
use Rattle.ksi_aggtree.specs.declared.chains.link.Sibling.TheVariants.{Imprint, Legacy, Metadata}

-- the bytes that a join has of a sibling: the 33 of an imprint, or the raw bytes
abbrev pub sibling_bytes : Sibling → List ℕ
sibling_bytes (Imprint bytes) = bytes
sibling_bytes (Legacy bytes) = bytes
sibling_bytes (Metadata bytes) = bytes

-- whether they are raw
abbrev pub is_raw : Sibling → Bool
is_raw (Imprint bytes) = false
is_raw (Legacy bytes) = true
is_raw (Metadata bytes) = true

abbrev pub plain_link : Link → PlainLink
plain_link link = record { side = link.side; correction = link.correction; sibling = sibling_bytes link.sibling; raw = is_raw link.sibling }

abbrev pub plain_links : List Link → List PlainLink
plain_links links = map plain_link links
