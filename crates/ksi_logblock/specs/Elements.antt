-- The elements of a proof file, in their order: the mask, then links.
use Rattle.std.specs.Prelude.{ℕ, ◌==◌, nat_lt, Bool, true, false, List, [], ◌∷◌, ◌++◌, length, Result, Ok, Err, if◌then◌else◌}
use Rattle.ksi_imprint.specs.Imprints.{zero_imprint}
use Rattle.ksi_split.specs.declared.side.Side.{Side}
use Rattle.ksi_split.specs.declared.side.Side.TheVariants.{Left, Right}
use Rattle.ksi_tlv.specs.Walking.{PlacedTlv}
use Rattle.ksi_tlv.specs.Contents.{level_in}
use Rattle.ksi_tlv.specs.Order.{Order, ◌>>=◌}
use Rattle.ksi_tlv.specs.Fields.{Inside, inside, field, done}
use Rattle.ksi_tlv.specs.Values.{or_fault, imprint_at}
use Rattle.ksi_tlv.specs.declared.order.fault.OrderFault.{OrderFault}
use Rattle.ksi_tlv.specs.declared.order.fault.OrderFault.TheVariants as orders
use Rattle.ksi_tlv.specs.Format.{or_named}
use Rattle.ksi_logblock.specs.declared.line_proof.LineLink.{LineLink}
use Rattle.ksi_logblock.specs.declared.proof_fault.ProofFault.{ProofFault}
use Rattle.ksi_logblock.specs.declared.proof_fault.ProofFault.TheVariants as faults
use Rattle.ksi_logblock.specs.Links.{most_links}

-- what the elements so far say: whether the mask was read, it, and the links
pub record Said : Type 0 where
  pub started : Bool
  pub mask : List ℕ
  pub links : List LineLink

abbrev pub nothing_yet : Said
nothing_yet = record { started = false; mask = zero_imprint; links = [] }

-- ---- a link

abbrev pub side_of : ℕ → Side
side_of kind = if kind == 7 then Left else Right

-- a correction is a number of at most 255
unfoldable pub correction_at : PlacedTlv → Result ℕ OrderFault
correction_at at = or_fault (orders.Bound at.place) (level_in at)

-- an imprint, after which nothing follows
unfoldable pub with_sibling : Side → ℕ → Inside → Result LineLink OrderFault
with_sibling side correction i =
    field 2 i >>= λ found. imprint_at found.0 >>= λ sibling. done found.1 >>= λ _. Ok (record { side = side; correction = correction; sibling = sibling })

-- a correction, if one comes first, and the imprint
abbrev pub with_correction : Side → Inside → Result (PlacedTlv × Inside) OrderFault → Result LineLink OrderFault
with_correction side i (Ok found) = correction_at found.0 >>= λ correction. with_sibling side correction found.1
with_correction side i (Err (orders.Order place)) = with_sibling side 0 i
with_correction side i (Err (orders.Tlv place)) = Err (orders.Tlv place)
with_correction side i (Err (orders.Ends place)) = Err (orders.Ends place)
with_correction side i (Err (orders.Bound place)) = Err (orders.Bound place)
with_correction side i (Err (orders.Imprint place)) = Err (orders.Imprint place)

unfoldable pub link_in : PlacedTlv → Result LineLink OrderFault
link_in at = with_correction (side_of at.element.kind) (inside at) (field 1 (inside at))

-- ---- the order

abbrev pub named : OrderFault → ProofFault
named (orders.Tlv place) = faults.Tlv place
named (orders.Order place) = faults.Order place
named (orders.Ends place) = faults.Order place
named (orders.Bound place) = faults.Number place
named (orders.Imprint place) = faults.Imprint place

abbrev pub started_with : List ℕ → Said
started_with mask = record { started = true; mask = mask; links = [] }

abbrev pub one_link_more : Said → LineLink → Said
one_link_more s link = record { started = s.started; mask = s.mask; links = s.links ++ link ∷ [] }

unfoldable pub mask_at : PlacedTlv → Result Said ProofFault
mask_at at = or_named named (imprint_at at) >>= λ mask. Ok (started_with mask)

unfoldable pub link_at : Said → PlacedTlv → Result Said ProofFault
link_at s at = if nat_lt (length s.links) most_links then (or_named named (link_in at) >>= λ link. Ok (one_link_more s link)) else Err (faults.Links at.place)

unfoldable pub element_read : Said → PlacedTlv → Result Said ProofFault
element_read s at = if s.started then link_at s at else mask_at at

abbrev pub kinds_next : Said → List ℕ
kinds_next s = if s.started then 7 ∷ 8 ∷ [] else 1 ∷ []

abbrev pub proof_order : Order Said ProofFault
proof_order = record { next = kinds_next; read = element_read; closed = λ s. false; whole = λ s. s.started; named = named }
