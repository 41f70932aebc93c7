-- The links of a round's tree: how large their siblings are, how long they are as they are written, and that none is bare.
use Rattle.std.proofs.Common.{◌≡◌, ℕ, zero, suc, ◌+◌, ◌*◌, ◌/◌, ◌%◌, ◌^◌, ◌<◌, ◌≤◌, false, List, [], ◌∷◌, ◌++◌, length, map, refl, ap, ◌∙◌, arith, ◌⊎◌, inl, inr}
use Rattle.std.specs.Prelude.{◌&&◌}
use Rattle.std.specs.List.{AllByRecursion}
use Rattle.std.proofs.lemmas.List.{length-append}
use Rattle.std.proofs.lemmas.List.Elements.{All-cons, All-nil}
use Rattle.ksi_split.specs.declared.side.Side.{Side}
use Rattle.ksi_split.specs.declared.side.Side.TheVariants.{Left, Right}
use Rattle.ksi_aggtree.specs.declared.chains.link.Link.{Link}
use Rattle.ksi_aggtree.specs.declared.chains.link.Sibling.{Sibling}
use Rattle.ksi_aggtree.specs.declared.chains.link.Sibling.TheVariants as siblings
use Rattle.ksi_aggtree.specs.Links.{begins_as_imprint, on_right, is_bare}
use Rattle.ksi_aggtree.specs.Owned.{is_raw, sibling_bytes, plain_links}
use Rattle.ksi_tlv.specs.Spelling.{plain, canonical, AreBytes}
use Rattle.ksi_tlv.specs.Numerals.{number_of, numeral}
use Rattle.ksi_tlv.specs.Writing.{texts}
use Rattle.ksi_signature.specs.Values.{HasSize, AreLinks}
use Rattle.ksi_signature.specs.Lengths.{size_of}
use Rattle.ksi_signature.specs.Written.{side_kind, sibling_element, correction_elements, link_elements, link_element}
use Rattle.ksi_signature.specs.Kept.{HasImprint, IsLink}
use Rattle.ksi_signature.specs.Above.{IsNode, IsShortMetadata, IsNameLink, AreRoundLinks}
use Rattle.ksi_signature.proofs.Sizes.{texts-append}
use Rattle.ksi_signature.proofs.Capped.{size-canonical, length-texts}

-- ---- how large their siblings are

node_fits : (sibling : Sibling) → IsNode sibling → HasSize sibling
node_fits (siblings.Imprint imprint) node = tt
node_fits (siblings.Legacy bytes) node = absurd node
node_fits (siblings.Metadata bytes) node = absurd node

short_fits : (sibling : Sibling) → IsShortMetadata sibling → HasSize sibling
short_fits (siblings.Imprint imprint) short = absurd short
short_fits (siblings.Legacy bytes) short = absurd short
short_fits (siblings.Metadata bytes) short = (omega (arith, short.0), omega (arith, short.1))

lowest_fits : (link : Link) → IsNode link.sibling ⊎ IsNameLink link → HasSize link.sibling
lowest_fits link (inl node) = node_fits link.sibling node
lowest_fits link (inr named) = short_fits link.sibling named.sibling

others_fit : (links : List Link) → AllByRecursion (λ link. IsNode link.sibling) links → AllByRecursion (λ link. HasSize link.sibling) links
others_fit [] nodes = tt
others_fit (link ∷ links) nodes = (node_fits link.sibling nodes.0, others_fit links nodes.1)

pub round_fits : (links : List Link) → AreRoundLinks links → AllByRecursion (λ link. HasSize link.sibling) links
round_fits [] round = tt
round_fits (link ∷ links) round = (lowest_fits link round.lowest.0, others_fit links round.others)

pub are_links : (links : List Link) → AreRoundLinks links → AreLinks links
are_links links round = record { count = omega (arith, round.count); sizes = round_fits links round }

-- ---- none is bare

node_named : (side : Side) (sibling : Sibling) → IsNode sibling → on_right side (is_raw sibling && begins_as_imprint (sibling_bytes sibling)) ≡ false
node_named Left sibling node = refl
node_named Right (siblings.Imprint imprint) node = refl
node_named Right (siblings.Legacy bytes) node = absurd node
node_named Right (siblings.Metadata bytes) node = absurd node

lowest_named : (link : Link) → IsNode link.sibling ⊎ IsNameLink link → on_right link.side (is_raw link.sibling && begins_as_imprint (sibling_bytes link.sibling)) ≡ false
lowest_named link (inl node) = node_named link.side link.sibling node
lowest_named link (inr named) = ap (λ (side : Side). on_right side (is_raw link.sibling && begins_as_imprint (sibling_bytes link.sibling))) named.side

others_named : (links : List Link) → AllByRecursion (λ link. IsNode link.sibling) links → AllByRecursion (λ link. is_bare link ≡ false) (plain_links links)
others_named [] nodes = tt
others_named (link ∷ links) nodes = (node_named link.side link.sibling nodes.0, others_named links nodes.1)

pub round_named : (links : List Link) → AreRoundLinks links → AllByRecursion (λ link. is_bare link ≡ false) (plain_links links)
round_named [] round = tt
round_named (link ∷ links) round = (lowest_named link round.lowest.0, others_named links round.others)

-- ---- how long they are

-- the fewest bytes that say a number
abbrev pub Fewest : Type 0
Fewest = (n : ℕ) (bytes : List ℕ) → n < 2 ^ 64 → AreBytes bytes → number_of bytes ≡ n → length (numeral n) ≤ length bytes

numeral_one : Fewest → (n : ℕ) → n < 256 → length (numeral n) ≤ 1
numeral_one fewest n lt = fewest n (n ∷ []) (omega (arith, lt)) (All-cons (λ b. b < 256) n [] lt (All-nil (λ b. b < 256))) (omega arith)

correction_small : Fewest → (n : ℕ) → n < 256 → length (texts (correction_elements n)) ≤ 3
correction_small fewest zero lt = omega arith
correction_small fewest (suc n) lt =
    let one = numeral_one fewest (suc n) lt in
    let size = length-texts (plain 1 (numeral (suc n))) [] in
    grind (arith, one, size)

imprint_size : (imprint : List ℕ) → length imprint ≡ 33 → length (texts (plain 2 imprint ∷ [])) ≡ 35
imprint_size imprint is = length-texts (plain 2 imprint) [] ∙ rw is refl

node_size : (sibling : Sibling) → HasImprint sibling → IsNode sibling → length (texts (sibling_element sibling ∷ [])) ≡ 35
node_size (siblings.Imprint imprint) is node = imprint_size imprint is.size
node_size (siblings.Legacy bytes) is node = absurd node
node_size (siblings.Metadata bytes) is node = absurd node

metadata_size : (bytes : List ℕ) → length bytes ≤ 70 → length (texts (plain 4 bytes ∷ [])) ≤ 72
metadata_size bytes few = let size = length-texts (plain 4 bytes) [] in grind (arith, few, size)

short_size : (sibling : Sibling) → IsShortMetadata sibling → length (texts (sibling_element sibling ∷ [])) ≤ 72
short_size (siblings.Imprint imprint) short = absurd short
short_size (siblings.Legacy bytes) short = absurd short
short_size (siblings.Metadata bytes) short = metadata_size bytes short.1

side_at : (side : Side) (size : ℕ) → size ≤ 255 → size_of (side_kind side) size ≤ 2 + size
side_at Left size short = grind (arith, short)
side_at Right size short = grind (arith, short)

side_small : (side : Side) (body : List ℕ) → length body ≤ 255 → length (canonical (plain (side_kind side) body)) ≤ 2 + length body
side_small side body short = let size = size-canonical (plain (side_kind side) body) in let small = side_at side (length body) short in omega (arith, size, small)

other_small : Fewest → (link : Link) → IsLink link → IsNode link.sibling → length (canonical (link_element link)) ≤ 40
other_small fewest link is node =
    let both = ap length (texts-append (correction_elements link.correction) (sibling_element link.sibling ∷ [])) ∙ length-append (texts (correction_elements link.correction)) (texts (sibling_element link.sibling ∷ [])) in
    let sibling = node_size link.sibling is.sibling node in
    let body : length (texts (link_elements link)) ≤ 38 = omega (arith, both, sibling, correction_small fewest link.correction (omega (arith, is.correction))) in
    let whole = side_small link.side (texts (link_elements link)) (omega (arith, body)) in
    omega (arith, body, whole)

name_small : (link : Link) → IsNameLink link → length (canonical (link_element link)) ≤ 74
name_small link named =
    let alone : length (texts (link_elements link)) ≡ length (texts (sibling_element link.sibling ∷ [])) = ap (λ (n : ℕ). length (texts (correction_elements n ++ (sibling_element link.sibling ∷ [])))) named.correction in
    let body = short_size link.sibling named.sibling in
    let whole = side_small link.side (texts (link_elements link)) (omega (arith, alone, body)) in
    omega (arith, alone, body, whole)

lowest_small : Fewest → (link : Link) → IsLink link → IsNode link.sibling ⊎ IsNameLink link → length (canonical (link_element link)) ≤ 74
lowest_small fewest link is (inl node) = omega (arith, other_small fewest link is node)
lowest_small fewest link is (inr named) = name_small link named

others_small : Fewest → (links : List Link) → AllByRecursion IsLink links → AllByRecursion (λ link. IsNode link.sibling) links → length (texts (map link_element links)) ≤ 40 * length links
others_small fewest [] are nodes = omega arith
others_small fewest (link ∷ links) are nodes =
    omega (arith, length-append (canonical (link_element link)) (texts (map link_element links)), other_small fewest link are.0 nodes.0, others_small fewest links are.1 nodes.1)

pub round_small : Fewest → (links : List Link) → AllByRecursion IsLink links → AreRoundLinks links → length (texts (map link_element links)) ≤ 714
round_small fewest [] are round = omega arith
round_small fewest (link ∷ links) are round =
    omega (
      arith,
      length-append (canonical (link_element link)) (texts (map link_element links)),
      lowest_small fewest link are.0 round.lowest.0,
      others_small fewest links are.1 round.others,
      round.count,
    )

-- a number below 2^24
pub numeral_three : Fewest → (n : ℕ) → n < 2 ^ 24 → length (numeral n) ≤ 3
numeral_three fewest n lt =
    fewest n (n / 65536 ∷ n / 256 % 256 ∷ n % 256 ∷ []) (omega (arith, lt))
    (All-cons (λ b. b < 256) (n / 65536) (n / 256 % 256 ∷ n % 256 ∷ []) (omega (arith, lt))
    (All-cons (λ b. b < 256) (n / 256 % 256) (n % 256 ∷ []) (omega arith) (All-cons (λ b. b < 256) (n % 256) [] (omega arith) (All-nil (λ b. b < 256)))))
    (omega arith)
