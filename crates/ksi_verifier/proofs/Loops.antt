-- The checks as loops come to them.
use Rattle.std.proofs.Common.{◌≡◌, ℕ, Bool, true, false, ◌+◌, ◌<◌, ◌≤◌, List, [], ◌∷◌, map, drop, length, get_or, Result, Ok, Err, Option, Some, None, refl, sym, ap, ◌∙◌, arith}
use Rattle.std.proofs.lemmas.List.{drop_more}
use Rattle.std.proofs.lemmas.Slice.Eq.{bytes_eq-Decides}
use Rattle.std.specs.Prelude.{if◌then◌else◌}
use Rattle.std.specs.Str.{bytes_eq}
use Rattle.ksi_imprint.specs.Imprints.{zero_imprint}
use Rattle.ksi_split.specs.declared.side.Side.{Side}
use Rattle.ksi_aggtree.specs.Links.{PlainLink}
use Rattle.ksi_aggtree.specs.Owned.{plain_links}
use Rattle.ksi_aggtree.specs.declared.chains.node.Node.{Node}
use Rattle.ksi_aggtree.specs.declared.chains.link.Link.{Link}
use Rattle.ksi_verifier.specs.declared.refusal.Refusal.{Refusal}
use Rattle.ksi_verifier.specs.declared.refusal.Refusal.TheVariants.{ChainBreak}
use Rattle.ksi_verifier.specs.Checks.{◌>>=◌, ◌>>◌, need}
use Rattle.ksi_verifier.specs.Chains.{PlainChain, first_chain, higher_chains, at_level_zero}
use Rattle.ksi_verifier.specs.ChainChecks.{index_order, top_of, tops, unbroken, last_node, joined_chains}
use Rattle.ksi_verifier.specs.Folding.{or_break}

-- the members from k on
pub from_here : {X : Type 0} (f : X → PlainChain) (xs : List X) (k : ℕ) (x : X) → k < length xs → x ≡ get_or xs k x → map f (drop k xs) ≡ f x ∷ map f (drop (k + 1) xs)
from_here f xs k x lt is = ap (map f) (drop_more xs k x lt ∙ ap (λ (y : _). y ∷ drop (k + 1) xs) (sym is))

-- links keep their sides
pub same_sides : (links : List Link) → map (λ (link : Link). link.side) links ≡ map (λ (link : PlainLink). link.side) (plain_links links)
same_sides [] = refl
same_sides (link ∷ links) = ap (λ (sides : List Side). link.side ∷ sides) (same_sides links)

-- ---- order

abbrev pub order_from : ℕ → List PlainChain → Result (Unit {0}) Refusal
order_from k chains = index_order k (first_chain chains) (higher_chains chains)

pub order_ends : (k : ℕ) (chains : List PlainChain) → length chains ≤ 1 → Ok tt ≡ order_from k chains
order_ends k [] few = refl
order_ends k (a ∷ []) few = refl
order_ends k (a ∷ b ∷ rest) few = absurd (omega arith)

-- ---- links

-- the refusal found so far, or what is left to do
abbrev pub settled : Option Refusal → Result Node Refusal → Result Node Refusal
settled None rest = rest
settled (Some refusal) rest = Err refusal

-- the chains from k on, from the node below them and the break found so far
abbrev pub links_from : (List ℕ → List ℕ) → ℕ → Option Refusal → Node → List PlainChain → Result Node Refusal
links_from image k broken below chains = tops image k below.level chains >>= λ nodes. settled broken (unbroken k (below ∷ nodes) chains >> Ok (last_node below nodes))

same_bytes : (xs : List ℕ) → bytes_eq xs xs ≡ true
same_bytes xs = (bytes_eq-Decides xs xs).1 refl

break_settles : (broken : Option Refusal) (k : ℕ) (computed stated : List ℕ) (rest : Result (Unit {0}) Refusal) (all : Result Node Refusal)
    → settled (or_break broken k computed stated) (rest >> all) ≡ settled broken ((need (bytes_eq stated computed) (ChainBreak k computed stated) >> rest) >> all)
break_settles (Some refusal) k computed stated rest all = refl
break_settles None k computed stated rest all = of (bytes_eq stated computed)
  where
    of : (b : Bool) → settled (if b then None else Some (ChainBreak k computed stated)) (rest >> all) ≡ ((need b (ChainBreak k computed stated) >> rest) >> all)
    of true = refl
    of false = refl

module _ (image : List ℕ → List ℕ) where
  pub start_joins : (chain : PlainChain) (rest : List PlainChain) → links_from image 0 None (at_level_zero chain.input) (chain ∷ rest) ≡ joined_chains image (chain ∷ rest)
  start_joins chain rest = of (top_of image 0 0 chain)
    where
      start : Node
      start = at_level_zero chain.input

      higher_tops : Node → Result (List Node) Refusal
      higher_tops top = tops image 1 top.level rest >>= λ higher. Ok (top ∷ higher)

      of_higher : (top : Node) (r : Result (List Node) Refusal)
          → ((r >>= λ higher. Ok (top ∷ higher)) >>= λ nodes. settled None (unbroken 0 (start ∷ nodes) (chain ∷ rest) >> Ok (last_node start nodes)))
          ≡ ((r >>= λ higher. Ok (top ∷ higher)) >>= λ nodes. unbroken 1 nodes rest >> Ok (last_node (at_level_zero zero_imprint) nodes))
      of_higher top (Ok higher) = ap (λ (b : Bool). (need b (ChainBreak 0 chain.input chain.input) >> unbroken 1 (top ∷ higher) rest) >> Ok (last_node top higher)) (same_bytes chain.input)
      of_higher top (Err refusal) = refl

      of : (r : Result Node Refusal)
          → ((r >>= higher_tops) >>= λ nodes. settled None (unbroken 0 (start ∷ nodes) (chain ∷ rest) >> Ok (last_node start nodes)))
          ≡ ((r >>= higher_tops) >>= λ nodes. unbroken 1 nodes rest >> Ok (last_node (at_level_zero zero_imprint) nodes))
      of (Ok top) = of_higher top (tops image 1 top.level rest)
      of (Err refusal) = refl

  -- the lowest chain is reached with its own input hash
  pub links_start : (start : Node) (chain : PlainChain) (chains rest : List PlainChain) → chains ≡ chain ∷ rest → start ≡ at_level_zero chain.input
      → links_from image 0 None start chains ≡ joined_chains image chains
  links_start start chain chains rest is starts =
      ap (λ (below : Node). links_from image 0 None below chains) starts ∙ ap (links_from image 0 None (at_level_zero chain.input)) is
      ∙ start_joins chain rest ∙ ap (joined_chains image) (sym is)

  -- one chain further
  pub links_go : (k : ℕ) (broken broken' : Option Refusal) (below next : Node) (stated : List ℕ) (chain : PlainChain) (chains rest : List PlainChain) (all climbed : Result Node Refusal) → chains ≡ chain ∷ rest
      → stated ≡ chain.input → broken' ≡ or_break broken k below.imprint stated → climbed ≡ top_of image k below.level chain → climbed ≡ Ok next → links_from image k broken below chains ≡ all
      → links_from image (k + 1) broken' next rest ≡ all
  links_go k broken broken' below next stated chain chains rest all climbed is input b climbs reached so_far =
      ap (λ (o : Option Refusal). links_from image (k + 1) o next rest) (b ∙ ap (or_break broken k below.imprint) input)
      ∙ of (tops image (k + 1) next.level rest)
      ∙ ap (λ (r : Result Node Refusal). (r >>= λ top. tops image (k + 1) top.level rest >>= λ higher. Ok (top ∷ higher)) >>= λ nodes. settled broken (unbroken k (below ∷ nodes) (chain ∷ rest) >> Ok (last_node below nodes))) (sym reached ∙ climbs)
      ∙ ap (links_from image k broken below) (sym is) ∙ so_far
    where
      of : (r : Result (List Node) Refusal)
          → (r >>= λ nodes. settled (or_break broken k below.imprint chain.input) (unbroken (k + 1) (next ∷ nodes) rest >> Ok (last_node next nodes)))
          ≡ ((r >>= λ higher. Ok (next ∷ higher)) >>= λ nodes. settled broken (unbroken k (below ∷ nodes) (chain ∷ rest) >> Ok (last_node below nodes)))
      of (Ok higher) = break_settles broken k below.imprint chain.input (unbroken (k + 1) (next ∷ higher) rest) (Ok (last_node next higher))
      of (Err refusal) = refl
