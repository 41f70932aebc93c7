-- What is issued is what a signature's types keep, and is short.
use Rattle.std.proofs.Common.{◌≡◌, ℕ, suc, ◌+◌, ◌*◌, ◌^◌, ◌<◌, ◌≤◌, List, [], ◌∷◌, ◌++◌, length, map, None, refl, ap, ◌∙◌, arith}
use Rattle.std.specs.Prelude.{flat_map}
use Rattle.std.specs.List.{AllByRecursion}
use Rattle.std.proofs.Math.Nat.{pow-suc, pow-le-pow_right}
use Rattle.std.proofs.lemmas.Bool.{le-ltb}
use Rattle.std.proofs.lemmas.List.{append-nil, length-map}
use Rattle.ksi_imprint.specs.Imprints.{IsImprint}
use Rattle.ksi_split.specs.declared.side.Side.{Side}
use Rattle.ksi_split.specs.declared.side.Side.TheVariants.{Left, Right}
use Rattle.ksi_aggtree.specs.declared.chains.link.Link.{Link}
use Rattle.ksi_aggtree.specs.Shapes.{left_powers, shape_of}
use Rattle.ksi_tlv.specs.Numerals.{numeral}
use Rattle.ksi_tlv.specs.Writing.{texts}
use Rattle.ksi_signature.specs.Values.{Aggregation, FallFrom}
use Rattle.ksi_signature.specs.Kept.{IsLink, IsAggregation, IsLimited}
use Rattle.ksi_signature.specs.Written.{chain_elements, chain_sizes, signature_elements, sizes_of, first_long}
use Rattle.ksi_signature.specs.declared.above.AboveChain.{AboveChain}
use Rattle.ksi_signature.specs.declared.above.Above.{Above}
use Rattle.ksi_signature.specs.Above.{AreRoundLinks}
use Rattle.ksi_signature.specs.Carried.{IsAboveChain, IsAbove}
use Rattle.ksi_signature.specs.Issued.{shape_along, index_of, issued_chains, own_chain, issued}
use Rattle.ksi_signature.proofs.Sizes.{long_behind}
use Rattle.ksi_signature.proofs.Skips.{all_both}
use Rattle.ksi_signature.proofs.RoundLinks.{Fewest, are_links}
use Rattle.ksi_signature.proofs.Indexes.{length-index, chain_small}

-- ---- shapes

doubled : (k : ℕ) → 2 ^ suc k ≡ 2 * 2 ^ k
doubled k = omega (arith, pow-suc 2 k)

powers_below : (i : ℕ) (sides : List Side) → left_powers i sides + 2 ^ i ≤ 2 ^ (i + length sides)
powers_below i [] = let same : 2 ^ i ≡ 2 ^ (i + 0) = ap (λ (n : ℕ). 2 ^ n) (let e : i ≡ i + 0 = omega arith in e) in omega (arith, same)
powers_below i (Left ∷ sides) =
    let next : 2 ^ (i + 1) ≡ 2 * 2 ^ i = ap (λ (n : ℕ). 2 ^ n) (let e : i + 1 ≡ suc i = omega arith in e) ∙ doubled i in
    let end : 2 ^ (i + 1 + length sides) ≡ 2 ^ (i + suc (length sides)) = ap (λ (n : ℕ). 2 ^ n) (let e : i + 1 + length sides ≡ i + suc (length sides) = omega arith in e) in
    omega (arith, next, end, powers_below (i + 1) sides)
powers_below i (Right ∷ sides) =
    let next : 2 ^ (i + 1) ≡ 2 * 2 ^ i = ap (λ (n : ℕ). 2 ^ n) (let e : i + 1 ≡ suc i = omega arith in e) ∙ doubled i in
    let end : 2 ^ (i + 1 + length sides) ≡ 2 ^ (i + suc (length sides)) = ap (λ (n : ℕ). 2 ^ n) (let e : i + 1 + length sides ≡ i + suc (length sides) = omega arith in e) in
    omega (arith, next, end, powers_below (i + 1) sides)

shape_below : (sides : List Side) → length sides ≤ 17 → shape_of sides < 2 ^ 18
shape_below sides few =
    let same : 2 ^ (0 + length sides) ≡ 2 ^ length sides = ap (λ (n : ℕ). 2 ^ n) (let e : 0 + length sides ≡ length sides = omega arith in e) in
    let some : 0 < 2 = omega arith in
    let most : 2 ^ length sides ≤ 2 ^ 17 = pow-le-pow_right some few in
    omega (arith, same, most, powers_below 0 sides)

shape_low : (links : List Link) → AreRoundLinks links → shape_along links < 2 ^ 24
shape_low links limits = omega (arith, shape_below (map (λ link. link.side) links) (omega (arith, length-map links (λ (link : Link). link.side), limits.count)))

-- ---- chains

pub index_below : (chains : List AboveChain) → AllByRecursion IsAboveChain chains → AllByRecursion (λ part. part < 2 ^ 24) (index_of chains)
index_below [] are = tt
index_below (chain ∷ above) are = all_both (λ part. part < 2 ^ 24) (index_of above) (shape_along chain.links ∷ []) (index_below above are.1) (shape_low chain.links are.0.limits, tt)

-- the index of a chain with these links below others
pub own_index_below : (links : List Link) (chains : List AboveChain) → AreRoundLinks links → AllByRecursion IsAboveChain chains → AllByRecursion (λ part. part < 2 ^ 24) (index_of chains ++ (shape_along links ∷ []))
own_index_below links chains limits are = all_both (λ part. part < 2 ^ 24) (index_of chains) (shape_along links ∷ []) (index_below chains are) (shape_low links limits, tt)

numbers : (index : List ℕ) → AllByRecursion (λ part. part < 2 ^ 24) index → AllByRecursion (λ part. part < 2 ^ 64) index
numbers [] low = tt
numbers (part ∷ index) low = (omega (arith, low.0), numbers index low.1)

chains_kept : (second : ℕ) (chains : List AboveChain) → second < 2 ^ 63 → AllByRecursion IsAboveChain chains → AllByRecursion IsAggregation (issued_chains second chains)
chains_kept second [] lt are = tt
chains_kept second (chain ∷ above) lt are = (
  record {
    time = lt;
    some = omega (arith, length-index (chain ∷ above));
    index = numbers (index_of (chain ∷ above)) (index_below (chain ∷ above) are);
    input = are.0.input;
    limits = are_links chain.links are.0.limits;
    links = are.0.links;
  },
  chains_kept second above lt are.1,
)

chains_fall : (second most : ℕ) (chains : List AboveChain) → length chains ≤ most → FallFrom most (issued_chains second chains)
chains_fall second most [] le = tt
chains_fall second most (chain ∷ above) le =
    let size = length-index (chain ∷ above) in
    (omega (arith, size, le), chains_fall second (length (index_of (chain ∷ above))) above (omega (arith, size)))

length-issued : (second : ℕ) (chains : List AboveChain) → length (issued_chains second chains) ≡ length chains
length-issued second [] = refl
length-issued second (chain ∷ above) = ap suc (length-issued second above)

chains_short : Fewest → ((n : ℕ) → length (numeral n) ≤ 8) → (second : ℕ) (chains : List AboveChain) → length chains ≤ 9 → AllByRecursion IsAboveChain chains → first_long (flat_map chain_sizes (issued_chains second chains)) ≡ None
chains_short fewest short second [] few are = refl
chains_short fewest short second (chain ∷ above) few are =
    let c : Aggregation = record { time = second; index = index_of (chain ∷ above); input_body = None; input = chain.input; links = chain.links } in
    let small = chain_small fewest short c refl (omega (arith, length-index (chain ∷ above), few)) (index_below (chain ∷ above) are) are.0.input are.0.limits are.0.links in
    rw (le-ltb 65535 (length (texts (chain_elements c))) (omega (arith, small))) (chains_short fewest short second above (omega (arith, few)) are.1)

-- ---- signatures

abbrev all_chains : List ℕ → List Link → Above → List AboveChain
all_chains input links above = own_chain input links ∷ above.chains

are_all : (input : List ℕ) (links : List Link) (above : Above) → IsImprint input → AreRoundLinks links → AllByRecursion IsLink links → IsAbove above → AllByRecursion IsAboveChain (all_chains input links above)
are_all input links above is limits are kept = (record { input = is; limits = limits; links = are }, kept.chains)

pub issued_kept : (second : ℕ) (input : List ℕ) (links : List Link) (above : Above) → second < 2 ^ 63 → IsImprint input → AreRoundLinks links → AllByRecursion IsLink links → IsAbove above → IsLimited (issued second input links above)
unfolding issued
issued_kept second input links above lt is limits are kept = record {
  limits = record {
    some = omega (arith, length-issued second (all_chains input links above));
    count = omega (arith, length-issued second (all_chains input links above), kept.count);
    fall = chains_fall second (length (index_of (all_chains input links above))) above.chains (omega (arith, length-index (all_chains input links above)));
  };
  chains = chains_kept second (all_chains input links above) lt (are_all input links above is limits are kept);
  calendar = record { publication = lt; time = lt; input = kept.root; count = kept.few; links = kept.calendar };
  publication = tt;
}

last_short : (size : ℕ) → size ≤ 65535 → first_long (size ∷ []) ≡ None
last_short size le = rw (le-ltb 65535 size le) refl

pub issued_short : Fewest → ((n : ℕ) → length (numeral n) ≤ 8) → (second : ℕ) (input : List ℕ) (links : List Link) (above : Above) → IsImprint input → AreRoundLinks links → AllByRecursion IsLink links → IsAbove above
    → length (texts (signature_elements (issued second input links above))) ≤ 65535 → first_long (sizes_of (issued second input links above)) ≡ None
unfolding issued
issued_short fewest short second input links above is limits are kept small =
    let none = chains_short fewest short second (all_chains input links above) (omega (arith, kept.count)) (are_all input links above is limits are kept) in
    let inner = flat_map chain_sizes (issued_chains second (all_chains input links above)) in
    long_behind (inner ++ []) (length (texts (signature_elements (issued second input links above))) ∷ []) (ap first_long (append-nil inner) ∙ none)
    ∙ last_short (length (texts (signature_elements (issued second input links above)))) small
