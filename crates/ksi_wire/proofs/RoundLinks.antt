-- The tests of the links and chains above a round say what the definitions say.
use Rattle.std.proofs.Common.{◌≡◌, ◌⊎◌, inl, inr, Bool, true, false, ◌&&◌, ◌||◌, leb, eqb, List, [], ◌∷◌, length, refl, arith}
use Rattle.std.specs.List.{AllByRecursion, list_all}
use Rattle.std.proofs.lemmas.Bool.{and_parts, le-leb, leb-true, eqb-true}
use Rattle.ksi_split.specs.declared.side.Side.{Side}
use Rattle.ksi_split.specs.declared.side.Side.TheVariants.{Left, Right}
use Rattle.ksi_aggtree.specs.declared.chains.link.Link.{Link}
use Rattle.ksi_aggtree.specs.declared.chains.link.Sibling.{Sibling}
use Rattle.ksi_aggtree.specs.declared.chains.link.Sibling.TheVariants as siblings
use Rattle.ksi_signature.specs.Above.{AreRoundLinks, IsNameLink, IsNode, IsShortMetadata}
use Rattle.ksi_wire.specs.AskedAbove.{are_round_links, is_left, is_name_link, is_node, is_short_metadata}

all_both : (b c : Bool) → b ≡ true → c ≡ true → (b && c) ≡ true
all_both b c one other = rw (one, other) refl

-- ---- what passes the tests

node_of : (sibling : Sibling) → is_node sibling ≡ true → IsNode sibling
node_of (siblings.Imprint imprint) is = tt
node_of (siblings.Legacy bytes) is = absurd cc
node_of (siblings.Metadata bytes) is = absurd cc

short_of : (sibling : Sibling) → is_short_metadata sibling ≡ true → IsShortMetadata sibling
short_of (siblings.Imprint imprint) is = absurd cc
short_of (siblings.Legacy bytes) is = absurd cc
short_of (siblings.Metadata bytes) is = let each = and_parts (leb 1 (length bytes)) (leb (length bytes) 70) is in (leb-true _ _ each.0, leb-true _ _ each.1)

left_of : (side : Side) → is_left side ≡ true → side ≡ Left
left_of Left is = refl
left_of Right is = absurd cc

name_of : (link : Link) → is_name_link link ≡ true → IsNameLink link
name_of link is =
    let each = and_parts (is_short_metadata link.sibling && eqb link.correction 0) (is_left link.side) is in
    let first = and_parts (is_short_metadata link.sibling) (eqb link.correction 0) each.0 in
    record { side = left_of link.side each.1; correction = eqb-true link.correction 0 first.1; sibling = short_of link.sibling first.0 }

lowest_of : (link : Link) → (is_node link.sibling || is_name_link link) ≡ true → IsNode link.sibling ⊎ IsNameLink link
lowest_of link is = by_node (is_node link.sibling) refl is
  where
    by_node : (b : Bool) → is_node link.sibling ≡ b → (b || is_name_link link) ≡ true → IsNode link.sibling ⊎ IsNameLink link
    by_node true node is = inl (node_of link.sibling node)
    by_node false node is = inr (name_of link is)

nodes_of : (links : List Link) → list_all (λ link. is_node link.sibling) links ≡ true → AllByRecursion (λ link. IsNode link.sibling) links
nodes_of [] are = tt
nodes_of (link ∷ links) are =
    let each = and_parts (is_node link.sibling) (list_all (λ link. is_node link.sibling) links) are in
    (node_of link.sibling each.0, nodes_of links each.1)

pub round_links_of : (links : List Link) → are_round_links links ≡ true → AreRoundLinks links
round_links_of [] are = record { count = omega arith; lowest = tt; others = tt }
round_links_of (lowest ∷ others) are =
    let each = and_parts (leb (length (lowest ∷ others)) 17 && (is_node lowest.sibling || is_name_link lowest)) (list_all (λ link. is_node link.sibling) others) are in
    let first = and_parts (leb (length (lowest ∷ others)) 17) (is_node lowest.sibling || is_name_link lowest) each.0 in
    record { count = leb-true _ _ first.0; lowest = (lowest_of lowest first.1, tt); others = nodes_of others each.1 }

-- ---- what passes them

is_node_of : (sibling : Sibling) → IsNode sibling → is_node sibling ≡ true
is_node_of (siblings.Imprint imprint) is = refl
is_node_of (siblings.Legacy bytes) is = absurd is
is_node_of (siblings.Metadata bytes) is = absurd is

is_short_of : (sibling : Sibling) → IsShortMetadata sibling → is_short_metadata sibling ≡ true
is_short_of (siblings.Imprint imprint) is = absurd is
is_short_of (siblings.Legacy bytes) is = absurd is
is_short_of (siblings.Metadata bytes) is = all_both (leb 1 (length bytes)) (leb (length bytes) 70) (le-leb _ _ is.0) (le-leb _ _ is.1)

is_name_of : (link : Link) → IsNameLink link → is_name_link link ≡ true
is_name_of link is = rw (is_short_of link.sibling is.sibling, is.correction, is.side) refl

is_lowest_of : (link : Link) → IsNode link.sibling ⊎ IsNameLink link → (is_node link.sibling || is_name_link link) ≡ true
is_lowest_of link (inl node) = rw (is_node_of link.sibling node) refl
is_lowest_of link (inr named) = by_node (is_node link.sibling)
  where
    by_node : (b : Bool) → (b || is_name_link link) ≡ true
    by_node true = refl
    by_node false = is_name_of link named

are_nodes_of : (links : List Link) → AllByRecursion (λ link. IsNode link.sibling) links → list_all (λ link. is_node link.sibling) links ≡ true
are_nodes_of [] are = refl
are_nodes_of (link ∷ links) are = all_both (is_node link.sibling) (list_all (λ link. is_node link.sibling) links) (is_node_of link.sibling are.0) (are_nodes_of links are.1)

pub are_round_links_of : (links : List Link) → AreRoundLinks links → are_round_links links ≡ true
are_round_links_of [] are = refl
are_round_links_of (lowest ∷ others) are =
    all_both (leb (length (lowest ∷ others)) 17 && (is_node lowest.sibling || is_name_link lowest)) (list_all (λ link. is_node link.sibling) others)
    (all_both (leb (length (lowest ∷ others)) 17) (is_node lowest.sibling || is_name_link lowest) (le-leb _ _ are.count) (is_lowest_of lowest are.lowest.0)) (are_nodes_of others are.others)
