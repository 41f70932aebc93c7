-- Issued signatures: how long they are, and the indexes of their chains.
use Rattle.std.proofs.Common.{◌≡◌, ℕ, ◌*◌, ◌^◌, ◌<◌, ◌≤◌, List, [], ◌∷◌, ◌++◌, length, take, map, Option, None, refl, sym, ap, ◌∙◌, arith}
use Rattle.std.specs.List.{AllByRecursion}
use Rattle.std.proofs.lemmas.List.{length-append, append-nil, take-append-le, take_all}
use Rattle.ksi_imprint.specs.Imprints.{IsImprint}
use Rattle.ksi_split.specs.declared.tree_link.TreeLink.{TreeLink}
use Rattle.ksi_aggtree.specs.declared.chains.link.Link.{Link}
use Rattle.ksi_tlv.specs.Spelling.{Tlv, plain, canonical}
use Rattle.ksi_tlv.specs.Numerals.{numeral}
use Rattle.ksi_tlv.specs.Writing.{texts}
use Rattle.ksi_signature.specs.Values.{Aggregation}
use Rattle.ksi_signature.specs.Written.{body_element, part_element, link_element, chain_elements, chain_element, calendar_elements, calendar_element, signature_elements}
use Rattle.ksi_signature.specs.declared.above.AboveChain.{AboveChain}
use Rattle.ksi_signature.specs.declared.above.Above.{Above}
use Rattle.ksi_signature.specs.Kept.{IsLink}
use Rattle.ksi_signature.specs.Above.{AreRoundLinks}
use Rattle.ksi_signature.specs.Issued.{shape_along, index_of, issued_chains, own_chain, issued}
use Rattle.ksi_signature.proofs.Sizes.{texts-append, length-canonical}
use Rattle.ksi_signature.proofs.Capped.{length-joined}
use Rattle.ksi_signature.proofs.RoundLinks.{Fewest, round_small, numeral_three}

-- ---- indexes

pub length-index : (chains : List AboveChain) → length (index_of chains) ≡ length chains
length-index [] = refl
length-index (chain ∷ above) = length-append (index_of above) (shape_along chain.links ∷ []) ∙ omega (arith, length-index above)

-- without its last part
pub upper_index : (n : ℕ) (index : List ℕ) (shape : ℕ) → n ≡ length index → take n (index ++ (shape ∷ [])) ≡ index
upper_index n index shape is = take-append-le n index (shape ∷ []) (omega (arith, is)) ∙ take_all n index (omega (arith, is))

-- ---- lengths

parts_small : Fewest → (index : List ℕ) → AllByRecursion (λ part. part < 2 ^ 24) index → length (texts (map part_element index)) ≤ 7 * length index
parts_small fewest [] low = omega arith
parts_small fewest (part ∷ index) low =
    omega (arith, length-append (canonical (part_element part)) (texts (map part_element index)), length-canonical (part_element part), numeral_three fewest part low.0, parts_small fewest index low.1)

pub chain_small : Fewest → ((n : ℕ) → length (numeral n) ≤ 8) → (c : Aggregation) → c.input_body ≡ None → length c.index ≤ 9 → AllByRecursion (λ part. part < 2 ^ 24) c.index → IsImprint c.input → AreRoundLinks c.links → AllByRecursion IsLink c.links
    → length (texts (chain_elements c)) ≤ 838
chain_small fewest short c none few low is limits links =
    let small = round_small fewest c.links links limits in
    let size : length c.input ≡ 33 = is.size in
    let tail : List Tlv = plain 5 c.input ∷ plain 6 (numeral 1) ∷ map link_element c.links in
    let more : List Tlv = body_element c.input_body ++ tail in
    let first = length-append (canonical (plain 2 (numeral c.time))) (texts (map part_element c.index ++ more)) in
    let second = length-joined (map part_element c.index) more in
    let third : length (texts more) ≡ length (texts tail) = ap (λ (body : Option (List ℕ)). length (texts (body_element body ++ tail))) none in
    let fourth = length-append (canonical (plain 5 c.input)) (texts (plain 6 (numeral 1) ∷ map link_element c.links)) in
    let fifth = length-append (canonical (plain 6 (numeral 1))) (texts (map link_element c.links)) in
    omega (
      arith,
      first,
      second,
      third,
      fourth,
      fifth,
      length-canonical (plain 2 (numeral c.time)),
      length-canonical (plain 5 c.input),
      length-canonical (plain 6 (numeral 1)),
      short c.time,
      short 1,
      parts_small fewest c.index low,
    )

-- ---- the text

-- the chains and the calendar chain behind them
pub content_is : (second : ℕ) (input : List ℕ) (links : List Link) (above : Above) (chains : List AboveChain) (calendar : List (TreeLink (List ℕ))) (none middle content body : List ℕ)
    → none ≡ [] → chains ≡ above.chains → calendar ≡ above.calendar
    → middle ≡ none ++ texts (map chain_element (issued_chains second (own_chain input links ∷ chains)))
    → body ≡ texts (calendar_elements (record { publication = second; time = second; input = above.root; links = calendar }))
    → content ≡ middle ++ canonical (plain 2050 body)
    → content ≡ texts (signature_elements (issued second input links above))
unfolding issued
content_is second input links above chains calendar none middle content body is_none is_chains is_calendar is_middle is_body is =
    let es : List Tlv = map chain_element (issued_chains second (own_chain input links ∷ above.chains)) in
    let last : Tlv = calendar_element (record { publication = second; time = second; input = above.root; links = above.calendar }) in
    let front : middle ≡ texts es =
    is_middle ∙ ap (λ (none : List ℕ). none ++ texts (map chain_element (issued_chains second (own_chain input links ∷ chains)))) is_none
    ∙ ap (λ (chains : List AboveChain). texts (map chain_element (issued_chains second (own_chain input links ∷ chains)))) is_chains in
    let back : canonical (plain 2050 body) ≡ canonical last =
    ap (λ (body : List ℕ). canonical (plain 2050 body)) (is_body ∙ ap (λ (links : List (TreeLink (List ℕ))). texts (calendar_elements (record { publication = second; time = second; input = above.root; links = links }))) is_calendar) in
    is ∙ ap (λ (front : List ℕ). front ++ canonical (plain 2050 body)) front ∙ ap (λ (back : List ℕ). texts es ++ back) (back ∙ sym (append-nil (canonical last)))
    ∙ sym (texts-append es (last ∷ []))
