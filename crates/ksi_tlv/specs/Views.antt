-- The results of the readers, as elements of the definitions.
use Rattle.std.specs.Prelude.{ℕ, Result, Ok, Err}
use Rattle.ksi_tlv.specs.Spelling.{Tlv}
use Rattle.ksi_tlv.specs.Front.{Front}
use Rattle.ksi_tlv.specs.Walking.{PlacedTlv, Cut, Items, elements}
use Rattle.ksi_tlv.specs.declared.element.Element.{Element}
use Rattle.ksi_tlv.specs.declared.element.TlvFault.{TlvFault}
use Rattle.ksi_tlv.specs.declared.element.TlvFault.TheVariants.{Short}
use Rattle.ksi_tlv.specs.declared.element.Header.{Header}
use Rattle.ksi_tlv.specs.declared.walk.Placed.{Placed}
use Rattle.ksi_tlv.specs.declared.walk.Elements.{Elements}

-- an element, wherever its body lies in memory
abbrev pub view : Element → Tlv
view e = record { kind = e.kind; non_critical = e.non_critical; forward = e.forward; body = e.body.now }

-- a header, or how many bytes it takes
abbrev pub view_header : Result Header ℕ → Result Front ℕ
view_header (Ok h) = Ok (record { first = h.first; kind = h.kind; size = h.size; count = h.count })
view_header (Err need) = Err need

-- the element that was read with its size, or how many bytes it would take
abbrev pub view_front : Result (Element × ℕ) TlvFault → Result (Tlv × ℕ) ℕ
view_front (Ok found) = Ok (view found.0, found.1)
view_front (Err (Short need have)) = Err need

-- an element with its places
abbrev pub view_placed : Placed → PlacedTlv
view_placed p = record { place = p.place; inside = p.inside; element = view p.element }

-- the fault of an element that is cut off at a place
abbrev pub view_cut : ℕ → TlvFault → Cut
view_cut place (Short need have) = record { place = place; need = need; have = have }

-- one item of a walk
abbrev pub view_item : Result Placed (ℕ × TlvFault) → Result PlacedTlv Cut
view_item (Ok p) = Ok (view_placed p)
view_item (Err at) = Err (view_cut at.0 at.1)

-- the items that still come
abbrev pub rest : Elements → Items
rest e = elements e.place e.bytes.now
