-- The parts of a link of an aggregation chain other than its side, and how one walk over its elements finds them: if a
-- kind occurs twice, the last one counts.
use Rattle.std.specs.Prelude.{ℕ, ◌==◌, List, [], ◌∷◌, if◌then◌else◌}
use Rattle.ksi_aggtree.specs.declared.chains.link.Link.{Link}
use Rattle.ksi_aggtree.specs.declared.chains.link.Sibling.{Sibling}
use Rattle.ksi_aggtree.specs.declared.chains.link.Sibling.TheVariants as siblings
use Rattle.ksi_tlv.specs.Walking.{PlacedTlv}
use Rattle.ksi_tlv.specs.Numerals.{number_of}
use Rattle.ksi_signature.specs.declared.link_parts.LinkParts.{LinkParts}
use Rattle.ksi_signature.specs.declared.link_parts.SiblingView.{SiblingView}
use Rattle.ksi_signature.specs.declared.link_parts.SiblingView.TheVariants as lent

pub record Parts : Type 0 where
  pub correction : ℕ
  pub sibling : Sibling

abbrev pub parts_of : Link → Parts
parts_of link = record { correction = link.correction; sibling = link.sibling }

abbrev pub sibling_with : Sibling → PlacedTlv → Sibling
sibling_with sibling at =
    if at.element.kind == 2 then siblings.Imprint at.element.body
    else if at.element.kind == 3 then siblings.Legacy at.element.body
    else if at.element.kind == 4 then siblings.Metadata at.element.body
    else sibling

abbrev pub parts_with : Parts → PlacedTlv → Parts
parts_with parts at = record {
  correction = if at.element.kind == 1 then number_of at.element.body else parts.correction;
  sibling = sibling_with parts.sibling at;
}

abbrev pub parts_behind : Parts → List PlacedTlv → Parts
parts_behind parts [] = parts
parts_behind parts (at ∷ es) = parts_behind (parts_with parts at) es

-- whether borrowed or owned
abbrev pub view_sibling : SiblingView → Sibling
view_sibling (lent.Imprint bytes) = siblings.Imprint bytes.now
view_sibling (lent.Legacy bytes) = siblings.Legacy bytes.now
view_sibling (lent.Metadata bytes) = siblings.Metadata bytes.now

abbrev pub view_parts : LinkParts → Parts
view_parts parts = record { correction = parts.correction; sibling = view_sibling parts.sibling }
