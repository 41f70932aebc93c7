-- How long what is issued and what is extended is, and that what is issued is that signature.
use Rattle.std.proofs.Common.{◌≡◌, ℕ, ◌+◌, ◌*◌, ◌≤◌, Bool, true, false, cond, List, [], ◌∷◌, ◌++◌, length, map, None, refl, ap, ◌∙◌, arith, length-drop}
use Rattle.std.specs.List.{AllByRecursion}
use Rattle.std.proofs.lemmas.List.{length-append}
use Rattle.ksi_imprint.specs.Imprints.{IsImprint}
use Rattle.ksi_aggtree.specs.declared.chains.link.Link.{Link}
use Rattle.ksi_tlv.specs.Spelling.{Tlv, plain, canonical, AreBytes}
use Rattle.ksi_tlv.specs.Numerals.{numeral}
use Rattle.ksi_tlv.specs.Walking.{joined}
use Rattle.ksi_tlv.specs.Writing.{texts}
use Rattle.ksi_signature.specs.declared.signature.Signature.{Signature}
use Rattle.ksi_signature.specs.declared.above.AboveChain.{AboveChain}
use Rattle.ksi_signature.specs.declared.above.Above.{Above}
use Rattle.ksi_signature.specs.Values.{Aggregation, Calendar, Publishing}
use Rattle.ksi_signature.specs.Kept.{IsCalendar, IsLimited}
use Rattle.ksi_signature.specs.Carried.{IsAboveChain, MayBeIssued}
use Rattle.ksi_signature.specs.File.{IsSignature}
use Rattle.ksi_signature.specs.Reading.{elements_in}
use Rattle.ksi_signature.specs.Extended.{is_retained, retained_texts, extended_content}
use Rattle.ksi_signature.specs.Issued.{index_of, issued_chains, own_chain, issued}
use Rattle.ksi_signature.specs.Written.{chain_element, calendar_element, publishing_element, signature_elements, signature_text, sizes_of, first_long}
use Rattle.ksi_signature.proofs.Again.{Written}
use Rattle.ksi_signature.proofs.CalendarAgain.{calendar_small}
use Rattle.ksi_signature.proofs.Capped.{length-joined}
use Rattle.ksi_signature.proofs.ExtendedAgain.{retained_parts, retained_joined}
use Rattle.ksi_signature.proofs.RoundLinks.{Fewest}
use Rattle.ksi_signature.proofs.Indexes.{length-index, chain_small}
use Rattle.ksi_signature.proofs.IssuedAgain.{index_below, issued_kept, issued_short}
use Rattle.ksi_signature.proofs.Sizes.{length-canonical}
use Rattle.ksi_signature.proofs.Standing.{Reading, parts_of}
use Rattle.ksi_signature.proofs.Whole.{Laws}

-- ---- what is issued

chains_size : Fewest → ((n : ℕ) → length (numeral n) ≤ 8) → (second : ℕ) (chains : List AboveChain) → length chains ≤ 9 → AllByRecursion IsAboveChain chains → length (texts (map chain_element (issued_chains second chains))) ≤ 842 * length chains
chains_size fewest short second [] few are = omega arith
chains_size fewest short second (chain ∷ above) few are =
    let c : Aggregation = record { time = second; index = index_of (chain ∷ above); input_body = None; input = chain.input; links = chain.links } in
    let small = chain_small fewest short c refl (omega (arith, length-index (chain ∷ above), few)) (index_below (chain ∷ above) are) are.0.input are.0.limits are.0.links in
    omega (arith, length-append (canonical (chain_element c)) (texts (map chain_element (issued_chains second above))), length-canonical (chain_element c), small, chains_size fewest short second above (omega (arith, few)) are.1)

module _ (fewest : Fewest) (short : (n : ℕ) → length (numeral n) ≤ 8) (second : ℕ) (input : List ℕ) (links : List Link) (above : Above) (may : MayBeIssued second input links above) where
  content_small : length (texts (signature_elements (issued second input links above))) ≤ 9974
  unfolding issued
  content_small =
      let chains = own_chain input links ∷ above.chains in
      let c : Calendar = record { publication = second; time = second; input = above.root; links = above.calendar } in
      let are : AllByRecursion IsAboveChain chains = (record { input = may.imprint; limits = may.limits; links = may.are }, may.kept.chains) in
      let count : length above.chains ≤ 8 = may.kept.count in
      let last : Tlv = calendar_element c in
      let both = length-joined (map chain_element (issued_chains second chains)) (last ∷ []) in
      let one = length-append (canonical last) [] in
      let front = chains_size fewest short second chains (omega (arith, count)) are in
      let back = calendar_small short c (record { publication = may.early; time = may.early; input = may.kept.root; count = may.kept.few; links = may.kept.calendar }) in
      omega (arith, count, both, one, front, back, length-canonical last)

  pub text_small : length (signature_text (issued second input links above)) ≤ 10000
  unfolding signature_text
  text_small = omega (arith, content_small, length-canonical (plain 2048 (texts (signature_elements (issued second input links above)))))

  pub issued_again : ((signature : Signature) → IsLimited signature → first_long (sizes_of signature) ≡ None → IsSignature (signature_text signature) signature) → IsSignature (signature_text (issued second input links above)) (issued second input links above)
  issued_again written =
      written (issued second input links above) (issued_kept second input links above may.early may.imprint may.limits may.are may.kept)
      (issued_short fewest short second input links above may.imprint may.limits may.are may.kept (omega (arith, content_small)))

-- ---- what is extended

retained_if : (b : Bool) (part : Tlv × List ℕ) (parts more : List (Tlv × List ℕ)) → length (joined parts) ≤ length (joined more) → length (joined (cond b (part ∷ parts) parts)) ≤ length (part.1 ++ joined more)
retained_if true part parts more less = omega (arith, length-append part.1 (joined parts), length-append part.1 (joined more), less)
retained_if false part parts more less = omega (arith, length-append part.1 (joined more), less)

fewer : (parts : List (Tlv × List ℕ)) → length (joined (retained_parts parts)) ≤ length (joined parts)
fewer [] = omega arith
fewer (part ∷ parts) = retained_if (is_retained part.0) part (retained_parts parts) parts (fewer parts)

-- a record that says no more than a time and a hash
abbrev pub bare : ℕ → List ℕ → Publishing
bare time hash = record { time = time; hash = hash; references = []; repositories = [] }

pub extended_short : (laws : Laws) (reading : Reading) (w : Written) (bytes : List ℕ) (s : Signature) (c : Calendar) (time : ℕ) (hash : List ℕ)
    → AreBytes bytes → IsSignature bytes s → IsCalendar c → IsImprint hash → length (extended_content bytes c (bare time hash)) ≤ length bytes + 2453
unfolding extended_content
extended_short laws reading w bytes s c time hash fits is kept_c imprint =
    let o = parts_of laws reading bytes s fits is in
    let front : retained_texts bytes (elements_in bytes) ≡ joined (retained_parts o.parts) =
    ap (retained_texts bytes) o.laid_in ∙ retained_joined bytes o.place o.parts o.spelled o.body in
    let first = ap (λ (xs : List ℕ). length xs) front in
    let within : length (joined o.parts) ≤ length bytes = (let size = ap (λ (xs : List ℕ). length xs) o.body in omega (arith, size, length-drop o.place bytes)) in
    let all = length-append (retained_texts bytes (elements_in bytes)) (texts (calendar_element c ∷ publishing_element (bare time hash) ∷ [])) in
    let two = length-append (canonical (calendar_element c)) (texts (publishing_element (bare time hash) ∷ [])) in
    let three = length-append (canonical (publishing_element (bare time hash))) [] in
    omega (arith, first, fewer o.parts, within, all, two, three, length-canonical (calendar_element c), length-canonical (publishing_element (bare time hash)), calendar_small w.size c kept_c, w.short time hash imprint)
