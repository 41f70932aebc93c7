-- What it means that the checks of aggregation chains pass.
use Rattle.std.proofs.Common.{◌≡◌, ◌↔◌, ℕ, ◌+◌, ◌<◌, Bool, true, false, List, [], ◌∷◌, length, Result, Ok, Err, Some, None, refl, sym, ap, ◌∙◌, subst, arith}
use Rattle.std.specs.Prelude.{◌==◌, Option, if◌then◌else◌}
use Rattle.std.specs.List.{AllByRecursion}
use Rattle.std.specs.Str.{bytes_eq}
use Rattle.std.proofs.lemmas.Bool.Decides.{Decides-eqb}
use Rattle.std.proofs.lemmas.List.{length-map}
use Rattle.ksi_aggtree.specs.Links.{PlainLink, is_bare, first_bare}
use Rattle.ksi_aggtree.specs.Climbing.{Climbs, climbed}
use Rattle.ksi_aggtree.specs.declared.chains.node.Node.{Node}
use Rattle.ksi_aggtree.specs.declared.chains.climbing.LevelFault.{LevelFault}
use Rattle.ksi_aggtree.specs.declared.chains.climbing.LevelFault.TheVariants.{Over}
use Rattle.ksi_signature.specs.Values.{Aggregation}
use Rattle.ksi_verifier.specs.declared.aggregated.Aggregated.{Aggregated}
use Rattle.ksi_verifier.specs.declared.refusal.Refusal.{Refusal}
use Rattle.ksi_verifier.specs.declared.refusal.Refusal.TheVariants.{IndexOrder, ChainBreak}
use Rattle.ksi_verifier.specs.Checks.{◌>>=◌, ◌>>◌, need}
use Rattle.ksi_signature.specs.Heads.{last_part}
use Rattle.ksi_verifier.specs.Chains.{PlainChain, plain_chain, plain_chains, first_chain, higher_chains, at_level_zero, without_last, chain_shape}
use Rattle.ksi_verifier.specs.ChainChecks.{same_parts, index_order, index_shape, index_shapes, or_level, top_of, tops, unbroken, last_node, joined_chains, same_time, same_times, or_bare, none_bare, no_bare_links, chains_checked}
use Rattle.ksi_verifier.specs.Accepted.{AreNested, ChainsLead, IsAggregated}
use Rattle.ksi_verifier.proofs.Passing.{Passes, good, ok_is, bind_both, then_both, need_same, need_equal, each_both, both_then}
use Rattle.ksi_verifier.proofs.Loops.{links_from, start_joins}

pub some_plain : (chains : List Aggregation) → 0 < length chains → 0 < length (plain_chains chains)
some_plain chains some = omega (arith, length-map chains plain_chain, some)

-- ---- V2 and V3

pub parts_both : (k place : ℕ) (lower higher : List ℕ) → Passes (same_parts k place lower higher) ↔ (lower ≡ higher)
parts_both k place [] [] = (λ e. refl, λ e. refl)
parts_both k place (a ∷ lower) [] = (λ e. absurd cc, λ e. absurd cc)
parts_both k place [] (b ∷ higher) = (λ e. absurd cc, λ e. absurd cc)
parts_both k place (a ∷ lower) (b ∷ higher) = of (parts_both k (place + 1) lower higher) (a == b) (Decides-eqb a b)
  where
    of : Passes (same_parts k (place + 1) lower higher) ↔ (lower ≡ higher) → (t : Bool) → (t ≡ true) ↔ (a ≡ b) → Passes (if t then same_parts k (place + 1) lower higher else Err (IndexOrder k place (Some a) (Some b))) ↔ ((a ∷ lower) ≡ (b ∷ higher))
    of rest true d = (λ e. let first = d.0 refl in let others = rest.0 e in cc, λ e. let others : lower ≡ higher = cc in rest.1 others)
    of rest false d = (λ e. absurd cc, λ e. absurd (let first : a ≡ b = cc in let t = d.1 first in cc))

pub order_both : (k : ℕ) (below : PlainChain) (chains : List PlainChain) → Passes (index_order k below chains) ↔ AreNested (below ∷ chains)
order_both k below [] = (λ e. tt, λ h. refl)
order_both k below (chain ∷ chains) =
    let here = then_both (same_parts k 0 (without_last below.index) chain.index) (index_order (k + 1) chain chains) tt in
    let parts = parts_both k 0 (without_last below.index) chain.index in
    let rest = order_both (k + 1) chain chains in
    (λ e. (sym (parts.0 (here.0 e).0), rest.0 (here.0 e).1), λ h. here.1 (parts.1 (sym h.0), rest.1 h.1))

pub all_order : (chains : List PlainChain) → Passes (index_order 0 (first_chain chains) (higher_chains chains)) ↔ AreNested chains
all_order [] = (λ e. tt, λ h. refl)
all_order (chain ∷ chains) = order_both 0 chain chains

pub shapes_both : (chains : List PlainChain) → Passes (index_shapes 0 chains) ↔ AllByRecursion (λ chain. last_part chain.index ≡ chain_shape chain) chains
shapes_both chains = each_both index_shape (λ chain. last_part chain.index ≡ chain_shape chain) (λ k chain. need_equal (last_part chain.index) (chain_shape chain) _) 0 chains

pub times_both : (first : ℕ) (chains : List PlainChain) → Passes (same_times first 0 chains) ↔ AllByRecursion (λ chain. chain.time ≡ first) chains
times_both first chains = each_both (same_time first) (λ chain. chain.time ≡ first) (λ k chain. need_equal chain.time first _) 0 chains

-- ---- V15

none_from : (place : ℕ) (links : List PlainLink) → (first_bare place links ≡ None) ↔ AllByRecursion (λ link. is_bare link ≡ false) links
none_from place [] = (λ e. tt, λ h. refl)
none_from place (link ∷ links) = of (none_from (place + 1) links) (is_bare link) refl
  where
    of : (first_bare (place + 1) links ≡ None) ↔ AllByRecursion (λ link. is_bare link ≡ false) links → (b : Bool) → is_bare link ≡ b
        → ((if b then Some place else first_bare (place + 1) links) ≡ None) ↔ ((b ≡ false) × AllByRecursion (λ link. is_bare link ≡ false) links)
    of others true is = (λ e. absurd (cc e), λ h. absurd (let first = h.0 in cc first))
    of others false is = (λ e. (refl, others.0 e), λ h. others.1 h.1)

or_bare_both : (k : ℕ) (found : Option ℕ) → Passes (or_bare k found) ↔ (found ≡ None)
or_bare_both k None = (λ e. refl, λ e. refl)
or_bare_both k (Some link) = (λ e. absurd (cc e), λ e. absurd (cc e))

pub none_bare_both : (k : ℕ) (chain : PlainChain) → Passes (none_bare k chain) ↔ AllByRecursion (λ link. is_bare link ≡ false) chain.links
none_bare_both k chain = both_then (or_bare_both k (first_bare 0 chain.links)) (none_from 0 chain.links)

pub bare_both : (chains : List PlainChain) → Passes (no_bare_links 0 chains) ↔ AllByRecursion (λ chain. AllByRecursion (λ link. is_bare link ≡ false) chain.links) chains
bare_both chains = each_both none_bare (λ chain. AllByRecursion (λ link. is_bare link ≡ false) chain.links) none_bare_both 0 chains

-- ---- V4 and V5

or_level_both : (k : ℕ) (r : Result Node LevelFault) (top : Node) → (or_level k r ≡ Ok top) ↔ (r ≡ Ok top)
or_level_both k (Ok x) top = (λ e. let is : x ≡ top = cc in ap (λ (y : Node). Ok y) is, λ e. let is : x ≡ top = cc in ap (λ (y : Node). Ok y) is)
or_level_both k (Err (Over link level)) top = (λ e. absurd cc, λ e. absurd cc)

module _ (image : List ℕ → List ℕ) (climbs : (start top : Node) (links : List PlainLink) → (climbed image 0 start links ≡ Ok top) ↔ Climbs image start links top) where
  abbrev from_input : PlainChain → ℕ → Node
  from_input chain level = record { imprint = chain.input; level = level }

  pub top_both : (k level : ℕ) (chain : PlainChain) (top : Node) → (top_of image k level chain ≡ Ok top) ↔ Climbs image (from_input chain level) chain.links top
  top_both k level chain top =
      let named = or_level_both k (climbed image 0 (from_input chain level) chain.links) top in
      let climb = climbs (from_input chain level) top chain.links in
      (λ e. climb.0 (named.0 e), λ h. named.1 (climb.1 h))

  -- from the node below the chains from k on
  pub lead_both : (k : ℕ) (below : Node) (chains : List PlainChain) (top : Node) → (links_from image k None below chains ≡ Ok top) ↔ ChainsLead image below chains top
  lead_both k below [] top = (λ e. ok_is below top e, λ is. ap good is)
  lead_both k below (chain ∷ chains) top = (forward (λ next. lead_both (k + 1) next chains top), backward (λ next. lead_both (k + 1) next chains top))
    where
      joins : Result (Unit {0}) Refusal
      joins = need (bytes_eq chain.input below.imprint) (ChainBreak k below.imprint chain.input)

      joins_both : Passes joins ↔ (chain.input ≡ below.imprint)
      joins_both = need_same chain.input below.imprint (ChainBreak k below.imprint chain.input)

      above : Node → List Node → Result (Unit {0}) Refusal
      above next higher = unbroken (k + 1) (next ∷ higher) chains

      put : Node → Result (List Node) Refusal → Result (List Node) Refusal
      put next r = r >>= λ higher. Ok (next ∷ higher)

      more : Node → Result (List Node) Refusal
      more next = tops image (k + 1) next.level chains

      ends : List Node → Result Node Refusal
      ends nodes = unbroken k (below ∷ nodes) (chain ∷ chains) >> Ok (last_node below nodes)

      -- the same with the first chain apart
      moved : (next : Node) (r : Result (List Node) Refusal) → (put next r >>= ends) ≡ (r >>= λ higher. ((joins >> above next higher) >> good (last_node next higher)))
      moved next (Ok higher) = refl
      moved next (Err refusal) = refl

      apart : (next : Node) → top_of image k below.level chain ≡ Ok next
          → links_from image k None below (chain ∷ chains) ≡ (more next >>= λ higher. ((joins >> above next higher) >> good (last_node next higher)))
      apart next e = ap (λ (r : Result Node Refusal). (r >>= λ x. put x (more x)) >>= ends) e ∙ moved next (more next)

      start : chain.input ≡ below.imprint → from_input chain below.level ≡ below
      start same = ap (λ (x : List ℕ). record { imprint = x; level = below.level }) same

      Higher : Type 0
      Higher = (next : Node) → (links_from image (k + 1) None next chains ≡ Ok top) ↔ ChainsLead image next chains top

      forward : Higher → links_from image k None below (chain ∷ chains) ≡ Ok top → ChainsLead image below (chain ∷ chains) top
      forward higher_both e =
          let all = (bind_both (top_of image k below.level chain >>= λ x. put x (more x)) ends top).0 e in
          let first = (bind_both (top_of image k below.level chain) (λ x. put x (more x)) all.0).0 all.1 in
          let next = first.0 in
          let rest = (bind_both (more next) (λ higher. ((joins >> above next higher) >> good (last_node next higher))) top).0 (sym (apart next first.1) ∙ e) in
          let higher = rest.0 in
          let checks = (then_both (joins >> above next higher) (good (last_node next higher)) top).0 rest.2 in
          let both = (then_both joins (above next higher) tt).0 checks.0 in
          let same = joins_both.0 both.0 in
          let leads = (bind_both (more next) (λ nodes. (above next nodes >> good (last_node next nodes))) top).1 (higher, rest.1, (then_both (above next higher) (good (last_node next higher)) top).1 (both.1, checks.1)) in
          (next, same, subst (λ (from : Node). Climbs image from chain.links next) (start same) ((top_both k below.level chain next).0 first.1), (higher_both next).0 leads)

      backward : Higher → ChainsLead image below (chain ∷ chains) top → links_from image k None below (chain ∷ chains) ≡ Ok top
      backward higher_both h =
          let next = h.0 in
          let first = (top_both k below.level chain next).1 (subst (λ (from : Node). Climbs image from chain.links next) (sym (start h.1)) h.2) in
          let rest = (bind_both (more next) (λ nodes. (above next nodes >> good (last_node next nodes))) top).0 ((higher_both next).1 h.3) in
          let higher = rest.0 in
          let checks = (then_both (above next higher) (good (last_node next higher)) top).0 rest.2 in
          let both = (then_both joins (above next higher) tt).1 (joins_both.1 h.1, checks.0) in
          apart next first
          ∙ (bind_both (more next) (λ nodes. ((joins >> above next nodes) >> good (last_node next nodes))) top).1 (higher, rest.1, (then_both (joins >> above next higher) (good (last_node next higher)) top).1 (both, checks.1))

  pub joined_both : (chain : PlainChain) (chains : List PlainChain) (top : Node) → (joined_chains image (chain ∷ chains) ≡ Ok top) ↔ ChainsLead image (at_level_zero chain.input) (chain ∷ chains) top
  joined_both chain chains top =
      let lead = lead_both 0 (at_level_zero chain.input) (chain ∷ chains) top in
      let same = start_joins image chain chains in
      (λ e. lead.0 (same ∙ e), λ h. sym same ∙ lead.1 h)

  pub some_joined : (chains : List PlainChain) (top : Node) → 0 < length chains → (joined_chains image chains ≡ Ok top) ↔ ChainsLead image (at_level_zero (first_chain chains).input) chains top
  some_joined [] top some = absurd (omega (arith, some))
  some_joined (chain ∷ chains) top some = joined_both chain chains top

  pub chains_both : (chains : List PlainChain) (aggregation : Aggregated) → 0 < length chains
      → (chains_checked image chains ≡ Ok aggregation) ↔ IsAggregated image chains (first_chain chains).input aggregation.time aggregation.node
  chains_both [] aggregation some = absurd (omega (arith, some))
  chains_both (chain ∷ chains) aggregation some = (forward, backward)
    where
      all : List PlainChain
      all = chain ∷ chains

      order : Result (Unit {0}) Refusal
      order = index_order 0 chain chains

      named : Node → Result Aggregated Refusal
      named node = no_bare_links 0 all >> Ok (record { time = chain.time; node = node })

      timed : Node → Result Aggregated Refusal
      timed node = same_times chain.time 0 all >> named node

      forward : chains_checked image all ≡ Ok aggregation → IsAggregated image all chain.input aggregation.time aggregation.node
      forward e =
          let first = (then_both order (index_shapes 0 all >> (joined_chains image all >>= timed)) aggregation).0 e in
          let second = (then_both (index_shapes 0 all) (joined_chains image all >>= timed) aggregation).0 first.1 in
          let third = (bind_both (joined_chains image all) timed aggregation).0 second.1 in
          let fourth = (then_both (same_times chain.time 0 all) (named third.0) aggregation).0 third.2 in
          let last = (then_both (no_bare_links 0 all) (good (record { time = chain.time; node = third.0 })) aggregation).0 fourth.1 in
          let is : record { time = chain.time; node = third.0 } ≡ aggregation = ok_is _ aggregation last.1 in
          subst (λ (a : Aggregated). IsAggregated image all chain.input a.time a.node) is (record {
            some = some;
            order = (order_both 0 chain chains).0 first.0;
            shapes = (shapes_both all).0 second.0;
            lead = (joined_both chain chains third.0).0 third.1;
            times = (times_both chain.time all).0 fourth.0;
            named = (bare_both all).0 last.0;
          })

      backward : IsAggregated image all chain.input aggregation.time aggregation.node → chains_checked image all ≡ Ok aggregation
      backward h =
          let time : chain.time ≡ aggregation.time = h.times.0 in
          let times = (times_both chain.time all).1 (subst (λ (first : ℕ). AllByRecursion (λ (c : PlainChain). c.time ≡ first) all) (sym time) h.times) in
          let is : record { time = chain.time; node = aggregation.node } ≡ aggregation = ap (λ (first : ℕ). record { time = first; node = aggregation.node }) time in
          let last = (then_both (no_bare_links 0 all) (good (record { time = chain.time; node = aggregation.node })) aggregation).1 ((bare_both all).1 h.named, ap good is) in
          let fourth = (then_both (same_times chain.time 0 all) (named aggregation.node) aggregation).1 (times, last) in
          let third = (bind_both (joined_chains image all) timed aggregation).1 (aggregation.node, (joined_both chain chains aggregation.node).1 h.lead, fourth) in
          let second = (then_both (index_shapes 0 all) (joined_chains image all >>= timed) aggregation).1 ((shapes_both all).1 h.shapes, third) in
          (then_both order (index_shapes 0 all >> (joined_chains image all >>= timed)) aggregation).1 ((order_both 0 chain chains).1 h.order, second)
