-- The elements of a line's proof stand for what it has, one for one and in its order.
use Rattle.std.proofs.Common.{◌≡◌, ℕ, Bool, true, false, cond, ltb, List, [], ◌∷◌, ◌++◌, length, map, Result, Ok, Err, refl, sym, ap, subst, ◌∙◌}
use Rattle.std.proofs.lemmas.List.{map-append}
use Rattle.ksi_split.specs.declared.side.Side.{Side}
use Rattle.ksi_tlv.specs.Walking.{PlacedTlv}
use Rattle.ksi_tlv.specs.declared.order.fault.OrderFault.{OrderFault}
use Rattle.ksi_tlv.specs.declared.order.fault.OrderFault.TheVariants as orders
use Rattle.ksi_tlv.specs.Order.{may_stand}
use Rattle.ksi_tlv.specs.Fields.{Inside, inside, field, done}
use Rattle.ksi_tlv.specs.Values.{imprint_at}
use Rattle.ksi_tlv.specs.Format.{or_named}
use Rattle.ksi_tlv.specs.Kinds.{kinds_of}
use Rattle.ksi_tlv.proofs.Steps.{bind_ok, or_named_ok, ok_is, if_ok, any_kind, kinds_more, leads_keep, file_kinds}
use Rattle.ksi_logblock.specs.declared.line_proof.LineLink.{LineLink}
use Rattle.ksi_logblock.specs.declared.line_proof.LineProof.{LineProof}
use Rattle.ksi_logblock.specs.declared.proof_fault.ProofFault.{ProofFault}
use Rattle.ksi_logblock.specs.declared.proof_fault.ProofFault.TheVariants as faults
use Rattle.ksi_logblock.specs.Links.{most_links}
use Rattle.ksi_logblock.specs.Elements.{Said, named, nothing_yet, side_of, correction_at, with_sibling, with_correction, link_in, started_with, one_link_more, mask_at, link_at, element_read, kinds_next, proof_order}
use Rattle.ksi_logblock.specs.File.{kind_of, proof_format, IsProofFile}
use Rattle.ksi_logblock.specs.Kinds.{IsInOrder, proof_kinds}

abbrev links_kinds : List LineLink → List ℕ
links_kinds links = map (λ link. kind_of link.side) links

-- what is told so far, before the mask and behind it
abbrev Told : Bool → Said → List PlacedTlv → Type 0
Told false s es = es ≡ []
Told true s es = kinds_of es ≡ 1 ∷ links_kinds s.links

-- ---- a link is on the side of its kind

sibling_side : (side : Side) (correction : ℕ) (i : Inside) (link : LineLink) → with_sibling side correction i ≡ Ok link → link.side ≡ side
unfolding with_sibling
sibling_side side correction i link e =
    let found = bind_ok (field 2 i) _ link e in
    let sibling = bind_ok (imprint_at found.0.0) _ link found.2 in
    let end = bind_ok (done found.0.1) _ link sibling.2 in
    ap (λ (l : LineLink). l.side) (sym (ok_is {F = OrderFault} (record { side = side; correction = correction; sibling = sibling.0 }) link end.2))

correction_side : (side : Side) (i : Inside) (r : Result (PlacedTlv × Inside) OrderFault) (link : LineLink) → with_correction side i r ≡ Ok link → link.side ≡ side
correction_side side i (Ok found) link e =
    let correction = bind_ok (correction_at found.0) _ link e in
    sibling_side side correction.0 found.1 link correction.2
correction_side side i (Err (orders.Order place)) link e = sibling_side side 0 i link e
correction_side side i (Err (orders.Tlv place)) link e = absurd cc
correction_side side i (Err (orders.Ends place)) link e = absurd cc
correction_side side i (Err (orders.Bound place)) link e = absurd cc
correction_side side i (Err (orders.Imprint place)) link e = absurd cc

link_side : (at : PlacedTlv) (link : LineLink) → link_in at ≡ Ok link → link.side ≡ side_of at.element.kind
unfolding link_in
link_side at link e = correction_side (side_of at.element.kind) (inside at) (field 1 (inside at)) link e

-- ---- one element after the other

mask_step : (u : Said) (es : List PlacedTlv) (at : PlacedTlv) → es ≡ [] → at.element.kind ≡ 1 → mask_at at ≡ Ok u → Told u.started u (es ++ at ∷ [])
unfolding mask_at
mask_step u es at none kind e =
    let mask = bind_ok (or_named named (imprint_at at)) _ u e in
    subst (λ (u : Said). Told u.started u (es ++ at ∷ [])) (ok_is {F = ProofFault} (started_with mask.0) u mask.2) (rw none (ap (λ (k : ℕ). k ∷ []) kind))

link_step : (s u : Said) (es : List PlacedTlv) (at : PlacedTlv) → s.started ≡ true → Told true s es → kind_of (side_of at.element.kind) ≡ at.element.kind → link_at s at ≡ Ok u → Told u.started u (es ++ at ∷ [])
unfolding link_at
link_step s u es at begun told kind e =
    let read = (if_ok (ltb (length s.links) most_links) _ (faults.Links at.place) u e).1 in
    let link = bind_ok (or_named named (link_in at)) _ u read in
    let side = link_side at link.0 (or_named_ok named (link_in at) link.0 link.1) in
    let is : at.element.kind ≡ kind_of link.0.side = sym (ap kind_of side ∙ kind) in
    subst (λ (u : Said). Told u.started u (es ++ at ∷ [])) (ok_is {F = ProofFault} (one_link_more s link.0) u link.2)
    (subst (λ b. Told b (one_link_more s link.0) (es ++ at ∷ [])) (sym begun)
    (kinds_more es at (kind_of link.0.side) (1 ∷ links_kinds s.links) told is
    ∙ ap (λ (ks : List ℕ). 1 ∷ ks) (sym (map-append (λ link. kind_of link.side) s.links (link.0 ∷ [])))))

read_step : (begun : Bool) (s u : Said) (es : List PlacedTlv) (at : PlacedTlv) → s.started ≡ begun → Told begun s es → may_stand (cond begun (7 ∷ 8 ∷ []) (1 ∷ [])) at.element.kind ≡ true → cond begun (link_at s at) (mask_at at) ≡ Ok u
    → Told u.started u (es ++ at ∷ [])
read_step false s u es at is told may e = mask_step u es at told (any_kind (λ k. k ≡ 1) (1 ∷ []) at.element.kind may (refl, tt)) e
read_step true s u es at is told may e = link_step s u es at is told (any_kind (λ k. kind_of (side_of k) ≡ k) (7 ∷ 8 ∷ []) at.element.kind may (refl, (refl, tt))) e

one_step : (s u : Said) (es : List PlacedTlv) (at : PlacedTlv) → Told s.started s es → may_stand (kinds_next s) at.element.kind ≡ true → element_read s at ≡ Ok u → Told u.started u (es ++ at ∷ [])
unfolding element_read
one_step s u es at told may e = read_step s.started s u es at refl told may e

abbrev Holds : Said → List PlacedTlv → Type 0
Holds s es = Told s.started s es

pub in_order : (bytes : List ℕ) (proof : LineProof) → IsProofFile bytes proof → IsInOrder bytes proof
unfolding proof_format
in_order bytes proof file =
    let told : Holds file.said file.whole.es = leads_keep proof_order Holds (λ s u es at told more may e. one_step s u es at told may e) nothing_yet file.said [] file.whole.es refl file.whole.leads in
    file_kinds proof_format proof_kinds bytes proof file (subst (λ begun. Told begun file.said file.whole.es) file.whole.ends told)
