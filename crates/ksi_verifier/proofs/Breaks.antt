-- What it means that a chain breaks.
use Rattle.std.proofs.Common.{◌≡◌, ◌≢◌, ◌↔◌, ℕ, zero, suc, ◌+◌, ◌<◌, Bool, true, false, List, [], ◌∷◌, Result, Ok, Err, Some, refl, sym, ap, ◌∙◌, arith}
use Rattle.std.specs.List.{slice_get}
use Rattle.std.specs.Str.{bytes_eq}
use Rattle.std.proofs.lemmas.Slice.Eq.{bytes_eq-Decides}
use Rattle.std.proofs.lemmas.Bool.Decides.{not_from_Decides}
use Rattle.ksi_imprint.specs.Imprints.{zero_imprint}
use Rattle.ksi_aggtree.specs.Links.{PlainLink}
use Rattle.ksi_aggtree.specs.Climbing.{Climbs, climbed}
use Rattle.ksi_aggtree.specs.declared.chains.node.Node.{Node}
use Rattle.ksi_aggtree.specs.declared.chains.climbing.LevelFault.{LevelFault}
use Rattle.ksi_aggtree.specs.declared.chains.climbing.LevelFault.TheVariants.{Over}
use Rattle.ksi_verifier.specs.declared.refusal.Refusal.{Refusal}
use Rattle.ksi_verifier.specs.declared.refusal.Refusal.TheVariants.{ChainBreak}
use Rattle.ksi_verifier.specs.Checks.{◌>>=◌, ◌>>◌, need}
use Rattle.ksi_verifier.specs.Chains.{PlainChain, at_level_zero, higher_chains}
use Rattle.ksi_verifier.specs.ChainChecks.{or_level, tops, unbroken, last_node, joined_chains}
use Rattle.ksi_verifier.specs.Leading.{BreaksAt}
use Rattle.ksi_verifier.proofs.Passing.{good}
use Rattle.ksi_verifier.proofs.Levels.{tops_both}

-- the first chain of a list that does not state the imprint of the node at its place
record FirstBreak (nodes : List Node) (chains : List PlainChain) (j : ℕ) (computed stated : List ℕ) : Type 0 where
  node : Node
  chain : PlainChain
  has_node : slice_get nodes j ≡ Some node
  has_chain : slice_get chains j ≡ Some chain
  is_computed : computed ≡ node.imprint
  is_stated : stated ≡ chain.input
  differ : stated ≢ computed
  first : (i : ℕ) (below : Node) (next : PlainChain) → i < j → slice_get nodes i ≡ Some below → slice_get chains i ≡ Some next → next.input ≡ below.imprint

module _ (below : Node) (nodes : List Node) (chain : PlainChain) (chains : List PlainChain) (computed stated : List ℕ) where
  before : (j : ℕ) → chain.input ≡ below.imprint → FirstBreak nodes chains j computed stated
      → (i : ℕ) (other : Node) (next : PlainChain) → i < suc j → slice_get (below ∷ nodes) i ≡ Some other → slice_get (chain ∷ chains) i ≡ Some next → next.input ≡ other.imprint
  before j same f zero other next lt a b = let x : below ≡ other = cc in let y : chain ≡ next = cc in ap (λ (c : PlainChain). c.input) (sym y) ∙ (same ∙ ap (λ (z : Node). z.imprint) x)
  before j same f (suc i) other next lt a b = f.first i other next (omega (arith, lt)) a b

  pushed : (j : ℕ) → chain.input ≡ below.imprint → FirstBreak nodes chains j computed stated → FirstBreak (below ∷ nodes) (chain ∷ chains) (suc j) computed stated
  pushed j same f = record {
    node = f.node;
    chain = f.chain;
    has_node = f.has_node;
    has_chain = f.has_chain;
    is_computed = f.is_computed;
    is_stated = f.is_stated;
    differ = f.differ;
    first = before j same f;
  }

  popped : (j : ℕ) → FirstBreak (below ∷ nodes) (chain ∷ chains) (suc j) computed stated → FirstBreak nodes chains j computed stated
  popped j f = record {
    node = f.node;
    chain = f.chain;
    has_node = f.has_node;
    has_chain = f.has_chain;
    is_computed = f.is_computed;
    is_stated = f.is_stated;
    differ = f.differ;
    first = λ i other next lt a b. f.first (suc i) other next (omega (arith, lt)) a b;
  }

  -- the lowest of them breaks
  here : chain.input ≢ below.imprint → computed ≡ below.imprint → stated ≡ chain.input → FirstBreak (below ∷ nodes) (chain ∷ chains) 0 computed stated
  here other a b = record {
    node = below;
    chain = chain;
    has_node = refl;
    has_chain = refl;
    is_computed = a;
    is_stated = b;
    differ = λ same. other (sym b ∙ (same ∙ a));
    first = λ i x y lt p q. absurd (omega (arith, lt));
  }

  input_of : FirstBreak (below ∷ nodes) (chain ∷ chains) 0 computed stated → stated ≡ chain.input
  input_of f = let there = f.has_chain in let is : chain ≡ f.chain = cc in f.is_stated ∙ ap (λ (c : PlainChain). c.input) (sym is)

  imprint_of : FirstBreak (below ∷ nodes) (chain ∷ chains) 0 computed stated → computed ≡ below.imprint
  imprint_of f = let there = f.has_node in let is : below ≡ f.node = cc in f.is_computed ∙ ap (λ (x : Node). x.imprint) (sym is)

abbrev failed : Refusal → Result (Unit {0}) Refusal
failed refusal = Err refusal

abbrev Broken : ℕ → ℕ → List Node → List PlainChain → List ℕ → List ℕ → Type 0
Broken n k nodes chains computed stated = (j : ℕ) × (k ≡ n + j) × FirstBreak nodes chains j computed stated

breaks_both : (n : ℕ) (nodes : List Node) (chains : List PlainChain) (k : ℕ) (computed stated : List ℕ) → (unbroken n nodes chains ≡ failed (ChainBreak k computed stated)) ↔ Broken n k nodes chains computed stated
breaks_both n [] [] k computed stated = (λ e. absurd cc, λ h. absurd (let there = h.2.has_node in cc))
breaks_both n [] (chain ∷ chains) k computed stated = (λ e. absurd cc, λ h. absurd (let there = h.2.has_node in cc))
breaks_both n (below ∷ nodes) [] k computed stated = (λ e. absurd cc, λ h. absurd (let there = h.2.has_chain in cc))
breaks_both n (below ∷ nodes) (chain ∷ chains) k computed stated = of (breaks_both (n + 1) nodes chains k computed stated) (bytes_eq chain.input below.imprint) refl
  where
    d : (bytes_eq chain.input below.imprint ≡ true) ↔ (chain.input ≡ below.imprint)
    d = bytes_eq-Decides chain.input below.imprint

    back : (unbroken (n + 1) nodes chains ≡ failed (ChainBreak k computed stated)) ↔ Broken (n + 1) k nodes chains computed stated → chain.input ≡ below.imprint
        → (j : ℕ) → k ≡ n + j → FirstBreak (below ∷ nodes) (chain ∷ chains) j computed stated → unbroken (n + 1) nodes chains ≡ failed (ChainBreak k computed stated)
    back higher same zero is f = absurd (f.differ (input_of below nodes chain chains computed stated f ∙ (same ∙ sym (imprint_of below nodes chain chains computed stated f))))
    back higher same (suc j) is f = higher.1 (j, omega (arith, is), popped below nodes chain chains computed stated j f)

    stop : chain.input ≢ below.imprint → (j : ℕ) → k ≡ n + j → FirstBreak (below ∷ nodes) (chain ∷ chains) j computed stated → failed (ChainBreak n below.imprint chain.input) ≡ failed (ChainBreak k computed stated)
    stop other zero is f =
        let a : k ≡ n = omega (arith, is) in
        let b = input_of below nodes chain chains computed stated f in
        let c = imprint_of below nodes chain chains computed stated f in
        cc
    stop other (suc j) is f = absurd (other (f.first 0 below chain (omega arith) refl refl))

    of : (unbroken (n + 1) nodes chains ≡ failed (ChainBreak k computed stated)) ↔ Broken (n + 1) k nodes chains computed stated → (t : Bool) → bytes_eq chain.input below.imprint ≡ t
        → ((need t (ChainBreak n below.imprint chain.input) >> unbroken (n + 1) nodes chains) ≡ failed (ChainBreak k computed stated)) ↔ Broken n k (below ∷ nodes) (chain ∷ chains) computed stated
    of higher true e =
        let same = d.0 e in
        (λ f. (let at = higher.0 f in (suc at.0, omega (arith, at.1), pushed below nodes chain chains computed stated at.0 same at.2)), λ h. back higher same h.0 h.1 h.2)
    of higher false e =
        let other = not_from_Decides (bytes_eq chain.input below.imprint) d e in
        (λ f. (let a : n ≡ k = cc in let b : below.imprint ≡ computed = cc in let c : chain.input ≡ stated = cc in (0, omega (arith, a), here below nodes chain chains computed stated other (sym b) (sym c))), λ h. stop other h.0 h.1 h.2)

-- ---- of all chains

higher_at : (chains : List PlainChain) (j : ℕ) → slice_get (higher_chains chains) j ≡ slice_get chains (j + 1)
higher_at [] j = refl
higher_at (chain ∷ chains) j = let s : suc j ≡ j + 1 = omega arith in ap (slice_get (chain ∷ chains)) s

abbrev ends : Refusal → Result Node Refusal
ends refusal = Err refusal

then_fails : (r : Result (Unit {0}) Refusal) (top : Node) (refusal : Refusal) → ((r >> good top) ≡ ends refusal) ↔ (r ≡ failed refusal)
then_fails (Ok tt) top refusal = (λ e. absurd cc, λ e. absurd cc)
then_fails (Err other) top refusal = (λ e. let is : other ≡ refusal = cc in ap failed is, λ e. let is : other ≡ refusal = cc in ap ends is)

module _ (image : List ℕ → List ℕ) where
  abbrev lists : Refusal → Result (List Node) Refusal
  lists refusal = Err refusal

  -- levels that pass 255 are no break
  no_break : (n level : ℕ) (chains : List PlainChain) (k : ℕ) (computed stated : List ℕ) → tops image n level chains ≡ lists (ChainBreak k computed stated) → ⊥
  no_break n level [] k computed stated e = absurd cc
  no_break n level (chain ∷ chains) k computed stated e =
      of (λ top. no_break (n + 1) top.level chains k computed stated) (climbed image 0 (record { imprint = chain.input; level = level }) chain.links) e
    where
      put : Node → Result (List Node) Refusal → Result (List Node) Refusal
      put top r = r >>= λ higher. good (top ∷ higher)

      behind : (top : Node) (r : Result (List Node) Refusal) → (r ≡ lists (ChainBreak k computed stated) → ⊥) → put top r ≡ lists (ChainBreak k computed stated) → ⊥
      behind top (Ok higher) none f = absurd cc
      behind top (Err refusal) none f = none (let is : refusal ≡ ChainBreak k computed stated = cc in ap lists is)

      of : ((top : Node) → tops image (n + 1) top.level chains ≡ lists (ChainBreak k computed stated) → ⊥) → (r : Result Node LevelFault)
          → (or_level n r >>= λ top. put top (tops image (n + 1) top.level chains)) ≡ lists (ChainBreak k computed stated) → ⊥
      of none (Ok top) f = behind top (tops image (n + 1) top.level chains) (none top) f
      of none (Err (Over link high)) f = absurd cc

  module _ (climbs : (start top : Node) (links : List PlainLink) → (climbed image 0 start links ≡ Ok top) ↔ Climbs image start links top) (chains : List PlainChain) (k : ℕ) (computed stated : List ℕ) where
    abbrev after : List Node → Result Node Refusal
    after nodes = unbroken 1 nodes (higher_chains chains) >> good (last_node (at_level_zero zero_imprint) nodes)

    there : (j : ℕ) → k ≡ j + 1 → slice_get (higher_chains chains) j ≡ slice_get chains k
    there j is = higher_at chains j ∙ ap (slice_get chains) (sym is)

    fails : (r : Result (List Node) Refusal) → tops image 0 0 chains ≡ r → (r >>= after) ≡ ends (ChainBreak k computed stated) → BreaksAt image chains k computed stated
    fails (Ok nodes) is e =
        let at = (breaks_both 1 nodes (higher_chains chains) k computed stated).0 ((then_fails (unbroken 1 nodes (higher_chains chains)) (last_node (at_level_zero zero_imprint) nodes) (ChainBreak k computed stated)).0 e) in
        let j = at.0 in
        let above : k ≡ j + 1 = omega (arith, at.1) in
        let f = at.2 in
        record {
          nodes = nodes;
          tops = (tops_both image climbs 0 0 chains nodes).0 is;
          below = j;
          above = above;
          node = f.node;
          has_node = f.has_node;
          chain = f.chain;
          has_chain = sym (there j above) ∙ f.has_chain;
          is_computed = f.is_computed;
          is_stated = f.is_stated;
          differ = f.differ;
          first = λ i other next lt a b. f.first i other next lt a (higher_at chains i ∙ b);
        }
    fails (Err refusal) is e = absurd (no_break 0 0 chains k computed stated (is ∙ (let same : refusal ≡ ChainBreak k computed stated = cc in ap lists same)))

    comes : BreaksAt image chains k computed stated → joined_chains image chains ≡ ends (ChainBreak k computed stated)
    comes h =
        let is = (tops_both image climbs 0 0 chains h.nodes).1 h.tops in
        let f : FirstBreak h.nodes (higher_chains chains) h.below computed stated = record {
          node = h.node;
          chain = h.chain;
          has_node = h.has_node;
          has_chain = there h.below h.above ∙ h.has_chain;
          is_computed = h.is_computed;
          is_stated = h.is_stated;
          differ = h.differ;
          first = λ i other next lt a b. h.first i other next lt a (sym (higher_at chains i) ∙ b);
        } in
        let broken = (breaks_both 1 h.nodes (higher_chains chains) k computed stated).1 (h.below, omega (arith, h.above), f) in
        ap (λ (r : Result (List Node) Refusal). r >>= after) is ∙ (then_fails (unbroken 1 h.nodes (higher_chains chains)) (last_node (at_level_zero zero_imprint) h.nodes) (ChainBreak k computed stated)).1 broken

    pub joined_broken : (joined_chains image chains ≡ ends (ChainBreak k computed stated)) ↔ BreaksAt image chains k computed stated
    joined_broken = (λ e. fails (tops image 0 0 chains) refl e, comes)
