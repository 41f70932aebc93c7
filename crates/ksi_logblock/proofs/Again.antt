-- What is written of a line's proof is read again.
use Rattle.std.proofs.Common.{◌≡◌, ℕ, ◌+◌, ◌<◌, ◌≤◌, true, List, [], ◌∷◌, ◌++◌, length, map, Result, Ok, Err, inl, inr, refl, sym, ap, subst, ◌∙◌, arith, append_assoc, append-nil, length-append}
use Rattle.std.specs.List.{AllByRecursion}
use Rattle.std.proofs.lemmas.Bool.{lt-ltb}
use Rattle.ksi_imprint.specs.Imprints.{IsImprint}
use Rattle.ksi_split.specs.declared.side.Side.{Side}
use Rattle.ksi_split.specs.declared.side.Side.TheVariants.{Left, Right}
use Rattle.ksi_tlv.specs.Spelling.{Tlv, FitsLong, plain, canonical}
use Rattle.ksi_tlv.specs.Walking.{Items, PlacedTlv, placed_at, elements}
use Rattle.ksi_tlv.specs.Numerals.{numeral}
use Rattle.ksi_tlv.specs.Writing.{texts, placed}
use Rattle.ksi_tlv.specs.Contents.{level_in}
use Rattle.ksi_tlv.specs.Order.{may_stand, ◌>>=◌}
use Rattle.ksi_tlv.specs.Sequence.{Leads}
use Rattle.ksi_tlv.specs.Fields.{Inside, field, done}
use Rattle.ksi_tlv.specs.Values.{imprint_at}
use Rattle.ksi_tlv.specs.declared.order.fault.OrderFault.{OrderFault}
use Rattle.ksi_tlv.specs.declared.order.fault.OrderFault.TheVariants as orders
use Rattle.ksi_tlv.proofs.Again.{Written, numeral_again, imprint_again, fits_number, fits_imprint, length-canonical, file_again}
use Rattle.ksi_logblock.specs.declared.line_proof.LineLink.{LineLink}
use Rattle.ksi_logblock.specs.declared.line_proof.LineProof.{LineProof}
use Rattle.ksi_logblock.specs.Elements.{Said, correction_at, element_read, link_at, link_in, mask_at, nothing_yet, proof_order, side_of, with_correction, with_sibling}
use Rattle.ksi_logblock.specs.File.{IsProofFile, kind_of, link_element, link_elements, proof_elements, proof_format, proof_text}
use Rattle.ksi_logblock.specs.Kept.{IsLineLink}
use Rattle.ksi_logblock.proofs.Cases.{eq_cases}

abbrev made : LineLink → Side → ℕ → Result LineLink OrderFault
made link side correction = Ok (record { side = side; correction = correction; sibling = link.sibling })

abbrev saying : List ℕ → List LineLink → Said
saying mask links = record { started = true; mask = mask; links = links }

module _ (laws : Written) where
  correction_again : (at : PlacedTlv) (n : ℕ) → at.element.body ≡ numeral n → n < 256 → correction_at at ≡ Ok n
  unfolding correction_at level_in
  correction_again at n is lt = rw (numeral_again laws at n is (omega (arith, lt)), lt-ltb n 256 lt) refl

  -- ---- a link

  abbrev left_with : PlacedTlv → Items → Inside
  left_with at items = record { end = at.inside + length at.element.body; items = items }

  second_is : (at b : PlacedTlv) → b.element.kind ≡ 2 → field 2 (left_with at (Ok b ∷ [])) ≡ Ok (b, left_with at [])
  unfolding field
  second_is at b kb = rw kb refl

  abbrev link_with : Side → ℕ → List ℕ → Inside → Result LineLink OrderFault
  link_with side correction x i = done i >>= λ _. Ok (record { side = side; correction = correction; sibling = x })

  sibling_of : (side : Side) (correction : ℕ) (at b : PlacedTlv) (x : List ℕ) → b.element.kind ≡ 2 → imprint_at b ≡ Ok x → with_sibling side correction (left_with at (Ok b ∷ [])) ≡ Ok (record { side = side; correction = correction; sibling = x })
  unfolding with_sibling done
  sibling_of side correction at b x kb ib =
      ap (λ (r : Result (PlacedTlv × Inside) OrderFault). r >>= λ found. imprint_at found.0 >>= λ sibling. link_with side correction sibling found.1) (second_is at b kb)
      ∙ ap (λ (r : Result (List ℕ) OrderFault). r >>= λ sibling. link_with side correction sibling (left_with at [])) ib

  first_other : (at b : PlacedTlv) → b.element.kind ≡ 2 → field 1 (left_with at (Ok b ∷ [])) ≡ Err (orders.Order b.place)
  unfolding field
  first_other at b kb = rw kb refl

  first_is : (at a b : PlacedTlv) → a.element.kind ≡ 1 → field 1 (left_with at (Ok a ∷ Ok b ∷ [])) ≡ Ok (a, left_with at (Ok b ∷ []))
  unfolding field
  first_is at a b ka = rw ka refl

  link_of_one : (at b : PlacedTlv) (x : List ℕ) → elements at.inside at.element.body ≡ Ok b ∷ [] → b.element.kind ≡ 2 → imprint_at b ≡ Ok x → link_in at ≡ Ok (record { side = side_of at.element.kind; correction = 0; sibling = x })
  unfolding link_in
  link_of_one at b x split kb ib =
      ap (λ (items : Items). with_correction (side_of at.element.kind) (left_with at items) (field 1 (left_with at items))) split
      ∙ ap (with_correction (side_of at.element.kind) (left_with at (Ok b ∷ []))) (first_other at b kb)
      ∙ sibling_of (side_of at.element.kind) 0 at b x kb ib

  link_of_two : (at a b : PlacedTlv) (n : ℕ) (x : List ℕ) → elements at.inside at.element.body ≡ Ok a ∷ Ok b ∷ [] → a.element.kind ≡ 1 → b.element.kind ≡ 2 → correction_at a ≡ Ok n → imprint_at b ≡ Ok x → link_in at ≡ Ok (record { side = side_of at.element.kind; correction = n; sibling = x })
  unfolding link_in
  link_of_two at a b n x split ka kb ca ib =
      ap (λ (items : Items). with_correction (side_of at.element.kind) (left_with at items) (field 1 (left_with at items))) split
      ∙ ap (with_correction (side_of at.element.kind) (left_with at (Ok a ∷ Ok b ∷ []))) (first_is at a b ka)
      ∙ ap (λ (r : Result ℕ OrderFault). r >>= λ n. with_sibling (side_of at.element.kind) n (left_with at (Ok b ∷ []))) ca
      ∙ sibling_of (side_of at.element.kind) n at b x kb ib

  side_again : (side : Side) → side_of (kind_of side) ≡ side
  side_again Left = refl
  side_again Right = refl

  link_again : (link : LineLink) (place n : ℕ) → IsLineLink link → link_in (placed_at place (link_element link) n) ≡ Ok link
  link_again link place n is = elim (eq_cases link.correction 0) [
    | inl zero ↦ (let es : link_elements link ≡ plain 2 link.sibling ∷ [] = rw zero.0 refl in
        let at = placed_at place (plain (kind_of link.side) (texts (plain 2 link.sibling ∷ []))) n in
        let one : link_in at ≡ Ok (record { side = side_of (kind_of link.side); correction = 0; sibling = link.sibling }) =
        link_of_one at (placed_at at.inside (plain 2 link.sibling) (length (canonical (plain 2 link.sibling)))) link.sibling
        (laws.texts at.inside (plain 2 link.sibling ∷ []) (fits_imprint 2 link.sibling (omega arith) is.imprint, tt)) refl
        (imprint_again (placed_at at.inside (plain 2 link.sibling) (length (canonical (plain 2 link.sibling)))) is.imprint) in
        ap (λ (es : List Tlv). link_in (placed_at place (plain (kind_of link.side) (texts es)) n)) es ∙ one
        ∙ ap (λ (side : Side). made link side 0) (side_again link.side) ∙ ap (λ (c : ℕ). made link link.side c) (sym zero.1))
    | inr some ↦ (let es : link_elements link ≡ plain 1 (numeral link.correction) ∷ plain 2 link.sibling ∷ [] = rw some.0 refl in
        let first = plain 1 (numeral link.correction) in
        let second = plain 2 link.sibling in
        let at = placed_at place (plain (kind_of link.side) (texts (first ∷ second ∷ []))) n in
        let two : link_in at ≡ Ok (record { side = side_of (kind_of link.side); correction = link.correction; sibling = link.sibling }) =
        link_of_two at (placed_at at.inside first (length (canonical first))) (placed_at (at.inside + length (canonical first)) second (length (canonical second))) link.correction link.sibling
        (laws.texts at.inside (first ∷ second ∷ []) (fits_number laws 1 link.correction (omega arith), (fits_imprint 2 link.sibling (omega arith) is.imprint, tt))) refl refl
        (correction_again (placed_at at.inside first (length (canonical first))) link.correction refl is.correction)
        (imprint_again (placed_at (at.inside + length (canonical first)) second (length (canonical second))) is.imprint) in
        ap (λ (es : List Tlv). link_in (placed_at place (plain (kind_of link.side) (texts es)) n)) es ∙ two
        ∙ ap (λ (side : Side). made link side link.correction) (side_again link.side))
  ]

  -- ---- sizes

  kind_few : (side : Side) → kind_of side ≤ 8
  kind_few Left = omega arith
  kind_few Right = omega arith

  link_size : (link : LineLink) → IsLineLink link → length (texts (link_elements link)) < 65536
  link_size link is =
      let second = plain 2 link.sibling in
      let first = plain 1 (numeral link.correction) in
      let size = is.imprint.size in
      elim (eq_cases link.correction 0) [
        | inl zero ↦ rw zero.0 (rw (length-append (canonical second) []) (omega (arith, length-canonical second, size)))
        | inr some ↦ rw some.0 (rw (length-append (canonical first) (canonical second ++ []), length-append (canonical second) []) (omega (arith, length-canonical first, length-canonical second, size, laws.size link.correction)))
      ]

  links_fit : (links : List LineLink) → AllByRecursion IsLineLink links → AllByRecursion FitsLong (map link_element links)
  links_fit [] all = tt
  links_fit (link ∷ links) all = (record { kind = omega (arith, kind_few link.side); body = link_size link all.0 }, links_fit links all.1)

  -- ---- the elements in their order

  stands : (side : Side) → may_stand (7 ∷ 8 ∷ []) (kind_of side) ≡ true
  stands Left = refl
  stands Right = refl

  mask_read : (mask : List ℕ) (place n : ℕ) → IsImprint mask → element_read nothing_yet (placed_at place (plain 1 mask) n) ≡ Ok (saying mask [])
  unfolding element_read mask_at
  mask_read mask place n is = rw (imprint_again (placed_at place (plain 1 mask) n) is) refl

  link_read : (mask : List ℕ) (before : List LineLink) (link : LineLink) (place n : ℕ) → length before < 63 → IsLineLink link → element_read (saying mask before) (placed_at place (link_element link) n) ≡ Ok (saying mask (before ++ link ∷ []))
  unfolding element_read link_at
  link_read mask before link place n few is = rw (lt-ltb (length before) 63 few, link_again link place n is) refl

  links_again : (mask : List ℕ) (before links : List LineLink) (place : ℕ) → length before + length links ≤ 63 → AllByRecursion IsLineLink links → Leads proof_order (saying mask before) (placed place (map link_element links)) (saying mask (before ++ links))
  links_again mask before [] place few all = ap (saying mask) (sym (append-nil before))
  links_again mask before (link ∷ links) place few all =
      let n = length (canonical (link_element link)) in (
        refl,
        stands link.side,
        (
          saying mask (before ++ link ∷ []),
          link_read mask before link place n (omega (arith, few)) all.0,
          subst (λ (l : List LineLink). Leads proof_order (saying mask (before ++ link ∷ [])) (placed (place + n) (map link_element links)) (saying mask l)) (append_assoc before (link ∷ []) links)
              (links_again mask (before ++ link ∷ []) links (place + n) (omega (arith, few, length-append before (link ∷ []))) all.1),
        ),
      )

  pub proof_again : (proof : LineProof) → IsImprint proof.mask → length proof.links ≤ 63 → AllByRecursion IsLineLink proof.links → IsProofFile (proof_text proof) proof
  unfolding proof_format
  proof_again proof mask few all =
      let n = length (canonical (plain 1 proof.mask)) in
      file_again laws proof_format (proof_elements proof) proof (saying proof.mask proof.links)
      (fits_imprint 1 proof.mask (omega arith) mask, links_fit proof.links all)
      (refl, refl, (saying proof.mask [], mask_read proof.mask 8 n mask, links_again proof.mask [] proof.links (8 + n) (omega (arith, few)) all))
      refl refl
