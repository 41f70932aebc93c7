-- What it means that levels pass 255, and that they do not.
use Rattle.std.proofs.Common.{◌≡◌, ◌↔◌, ℕ, zero, suc, ◌+◌, ◌<◌, ◌≤◌, Bool, true, false, List, [], ◌∷◌, ◌++◌, take, Result, Ok, Err, refl, sym, ap, ◌∙◌, subst, arith}
use Rattle.std.proofs.lemmas.List.Concat.{flat_map-cons}
use Rattle.std.proofs.lemmas.List.Sums.{sum_by-append, sum_by-take-le}
use Rattle.std.proofs.lemmas.Bool.{ltb-false}
use Rattle.std.specs.Prelude.{nat_lt, if◌then◌else◌}
use Rattle.ksi_aggtree.specs.Links.{PlainLink, level_above}
use Rattle.ksi_aggtree.specs.Climbing.{Climbs, PassesLevels, level_after, above, climbed}
use Rattle.ksi_aggtree.specs.declared.chains.node.Node.{Node}
use Rattle.ksi_aggtree.specs.declared.chains.climbing.LevelFault.{LevelFault}
use Rattle.ksi_aggtree.specs.declared.chains.climbing.LevelFault.TheVariants.{Over}
use Rattle.ksi_verifier.specs.declared.refusal.Refusal.{Refusal}
use Rattle.ksi_verifier.specs.declared.refusal.Refusal.TheVariants.{Level}
use Rattle.ksi_verifier.specs.Checks.{◌>>=◌}
use Rattle.ksi_verifier.specs.Chains.{PlainChain}
use Rattle.ksi_verifier.specs.ChainChecks.{or_level, top_of, tops}
use Rattle.ksi_verifier.specs.Accepted.{ChainsLead}
use Rattle.ksi_verifier.specs.Leading.{chain_links, all_links, HaveTops, level_before, PassesIn}
use Rattle.ksi_verifier.proofs.Passing.{good, ok_is, bind_both}
use Rattle.ksi_verifier.proofs.Chained.{top_both}

risen : PlainLink → ℕ
risen link = link.correction + 1

-- ---- levels of links in turn

level_both : (level : ℕ) (links more : List PlainLink) → level_after level (links ++ more) ≡ level_after (level_after level links) more
level_both level links more = omega (arith, sum_by-append (λ (link : PlainLink). link.correction + 1) links more)

level_more : (level : ℕ) (links : List PlainLink) (n : ℕ) → level_after level (take n links) ≤ level_after level links
level_more level links n = omega (arith, sum_by-take-le (λ (link : PlainLink). link.correction + 1) links n)

level_adds : (level : ℕ) (links : List PlainLink) → level ≤ level_after level links
level_adds level links = omega arith

-- chain k + 1 of chains with one more begins where chain k does from the level that the first one leads to
level_shift : (level : ℕ) (chain : PlainChain) (chains : List PlainChain) (k : ℕ) → level_before level (chain ∷ chains) (suc k) ≡ level_before (level_after level chain.links) chains k
level_shift level chain chains k = ap (level_after level) (flat_map-cons chain_links chain (take k chains)) ∙ level_both level chain.links (all_links (take k chains))

-- a link that passes 255 leaves no chain above below it
passed_above : (level place high : ℕ) (links more : List PlainLink) → PassesLevels level links place high → 255 < level_after level (links ++ more)
passed_above level place high links more h =
    let joined = level_both level links more in
    let most = level_more level links (place + 1) in
    let adds = level_adds (level_after level links) more in
    let over = h.over in
    let is = h.level in
    omega arith

-- ---- refusals

abbrev bad : {A : Type 0} → Refusal → Result A Refusal
bad refusal = Err refusal

put_err : (top : Node) (r : Result (List Node) Refusal) (refusal : Refusal) → ((r >>= λ higher. good (top ∷ higher)) ≡ Err refusal) ↔ (r ≡ Err refusal)
put_err top (Ok higher) refusal = (λ e. absurd cc, λ e. absurd cc)
put_err top (Err other) refusal = (λ e. let is : other ≡ refusal = cc in ap bad is, λ e. let is : other ≡ refusal = cc in ap bad is)

module _ (image : List ℕ → List ℕ) (climbs : (start top : Node) (links : List PlainLink) → (climbed image 0 start links ≡ Ok top) ↔ Climbs image start links top) where
  pub tops_both : (k level : ℕ) (chains : List PlainChain) (nodes : List Node) → (tops image k level chains ≡ Ok nodes) ↔ HaveTops image level chains nodes
  tops_both k level [] [] = (λ e. tt, λ h. refl)
  tops_both k level [] (top ∷ nodes) = (λ e. absurd cc, λ h. absurd h)
  tops_both k level (chain ∷ chains) [] = (none, λ h. absurd h)
    where
      none : tops image k level (chain ∷ chains) ≡ Ok [] → ⊥
      none e =
          let first = (bind_both (top_of image k level chain) (λ top. tops image (k + 1) top.level chains >>= λ higher. good (top ∷ higher)) []).0 e in
          let rest = (bind_both (tops image (k + 1) first.0.level chains) (λ higher. good (first.0 ∷ higher)) []).0 first.2 in
          let is = rest.2 in cc
  tops_both k level (chain ∷ chains) (top ∷ nodes) = (forward (tops_both (k + 1) top.level chains nodes), backward (tops_both (k + 1) top.level chains nodes))
    where
      next : Node → Result (List Node) Refusal
      next x = tops image (k + 1) x.level chains >>= λ higher. good (x ∷ higher)

      forward : (tops image (k + 1) top.level chains ≡ Ok nodes) ↔ HaveTops image top.level chains nodes → tops image k level (chain ∷ chains) ≡ Ok (top ∷ nodes) → HaveTops image level (chain ∷ chains) (top ∷ nodes)
      forward higher e =
          let first = (bind_both (top_of image k level chain) next (top ∷ nodes)).0 e in
          let x = first.0 in
          let rest = (bind_both (tops image (k + 1) x.level chains) (λ above. good (x ∷ above)) (top ∷ nodes)).0 first.2 in
          let same : x ∷ rest.0 ≡ top ∷ nodes = ok_is (x ∷ rest.0) (top ∷ nodes) rest.2 in
          let is : x ≡ top = cc in
          let others : rest.0 ≡ nodes = cc in
          let reached : top_of image k level chain ≡ Ok top = first.1 ∙ ap good is in
          let above : tops image (k + 1) top.level chains ≡ Ok nodes = ap (λ (y : Node). tops image (k + 1) y.level chains) (sym is) ∙ (rest.1 ∙ ap good others) in
          ((top_both image climbs k level chain top).0 reached, higher.0 above)

      backward : (tops image (k + 1) top.level chains ≡ Ok nodes) ↔ HaveTops image top.level chains nodes → HaveTops image level (chain ∷ chains) (top ∷ nodes) → tops image k level (chain ∷ chains) ≡ Ok (top ∷ nodes)
      backward higher h =
          let reached = (top_both image climbs k level chain top).1 h.0 in
          (bind_both (top_of image k level chain) next (top ∷ nodes)).1 (top, reached, (bind_both (tops image (k + 1) top.level chains) (λ above. good (top ∷ above)) (top ∷ nodes)).1 (nodes, higher.1 h.1, refl))

-- chains of which the first leads to a node, one number lower
shifted : (level : ℕ) (chain : PlainChain) (chains : List PlainChain) (j place high next : ℕ) → next ≡ level_after level chain.links → PassesIn next chains j place high → PassesIn level (chain ∷ chains) (suc j) place high
shifted level chain chains j place high next is h =
    let same = level_shift level chain chains j ∙ ap (λ (l : ℕ). level_before l chains j) (sym is) in
    record {
      chain = h.chain;
      there = h.there;
      low = subst (λ (l : ℕ). l ≤ 255) (sym same) h.low;
      passes = subst (λ (l : ℕ). PassesLevels l h.chain.links place high) (sym same) h.passes;
    }

unshifted : (level : ℕ) (chain : PlainChain) (chains : List PlainChain) (j place high next : ℕ) → next ≡ level_after level chain.links → PassesIn level (chain ∷ chains) (suc j) place high → PassesIn next chains j place high
unshifted level chain chains j place high next is h =
    let same = level_shift level chain chains j ∙ ap (λ (l : ℕ). level_before l chains j) (sym is) in
    record {
      chain = h.chain;
      there = h.there;
      low = subst (λ (l : ℕ). l ≤ 255) same h.low;
      passes = subst (λ (l : ℕ). PassesLevels l h.chain.links place high) same h.passes;
    }

-- the first chain's links
here_passes : (level : ℕ) (chain : PlainChain) (chains : List PlainChain) (place high : ℕ) → level ≤ 255 → PassesLevels level chain.links place high → PassesIn level (chain ∷ chains) 0 place high
here_passes level chain chains place high low h =
    let same : level ≡ level_before level (chain ∷ chains) 0 = omega arith in
    record { chain = chain; there = refl; low = subst (λ (l : ℕ). l ≤ 255) same low; passes = subst (λ (l : ℕ). PassesLevels l chain.links place high) same h }

passes_here : (level : ℕ) (chain : PlainChain) (chains : List PlainChain) (place high : ℕ) → PassesIn level (chain ∷ chains) 0 place high → PassesLevels level chain.links place high
passes_here level chain chains place high h =
    let same : level_before level (chain ∷ chains) 0 ≡ level = omega arith in
    let there = h.there in
    let is : h.chain ≡ chain = cc in
    subst (λ (c : PlainChain). PassesLevels level c.links place high) is (subst (λ (l : ℕ). PassesLevels l h.chain.links place high) same h.passes)

module _ (image : List ℕ → List ℕ) (climbs : (start top : Node) (links : List PlainLink) → (climbed image 0 start links ≡ Ok top) ↔ Climbs image start links top)
    (over : (start : Node) (links : List PlainLink) (place high : ℕ) → (climbed image 0 start links ≡ Err (Over place high)) ↔ PassesLevels start.level links place high)
    (rise : (start top : Node) (links : List PlainLink) → Climbs image start links top → top.level ≡ level_after start.level links) where
  low_top : (place : ℕ) (links : List PlainLink) (node top : Node) → node.level ≤ 255 → climbed image place node links ≡ Ok top → top.level ≤ 255
  low_top place [] node top low e = let is : node ≡ top = cc in subst (λ (y : Node). y.level ≤ 255) is low
  low_top place (link ∷ links) node top low e = of (low_top (place + 1) links (above image node link) top) (nat_lt 255 (level_above node.level link)) refl e
    where
      next : Node
      next = above image node link

      of : (next.level ≤ 255 → climbed image (place + 1) next links ≡ Ok top → top.level ≤ 255) → (t : Bool) → nat_lt 255 (level_above node.level link) ≡ t
          → (if t then Err (Over place (level_above node.level link)) else climbed image (place + 1) next links) ≡ Ok top → top.level ≤ 255
      of rest true is e = absurd cc
      of rest false is e = rest (ltb-false _ _ is) e

  abbrev from : PlainChain → ℕ → Node
  from chain level = record { imprint = chain.input; level = level }

  -- chain k, of chains from chain n on
  abbrev PassesAt : ℕ → ℕ → List PlainChain → ℕ → ℕ → ℕ → Type 0
  PassesAt n level chains k place high = (j : ℕ) × (k ≡ n + j) × PassesIn level chains j place high

  module _ (n level : ℕ) (chain : PlainChain) (chains : List PlainChain) (k place high : ℕ) (low : level ≤ 255) where
    here_over : (p h : ℕ) → climbed image 0 (from chain level) chain.links ≡ Err (Over p h) → bad {A = List Node} (Level n p h) ≡ Err (Level k place high) → PassesAt n level (chain ∷ chains) k place high
    here_over p h e f =
        let a : n ≡ k = cc in
        let b : p ≡ place = cc in
        let c : h ≡ high = cc in
        let passes = subst (λ (q : ℕ). PassesLevels level chain.links place q) c (subst (λ (q : ℕ). PassesLevels level chain.links q h) b ((over (from chain level) chain.links p h).0 e)) in
        (0, omega (arith, a), here_passes level chain chains place high low passes)

    back_over : (p h j : ℕ) → climbed image 0 (from chain level) chain.links ≡ Err (Over p h) → k ≡ n + j → PassesIn level (chain ∷ chains) j place high → bad {A = List Node} (Level n p h) ≡ Err (Level k place high)
    back_over p h zero e is q =
        let other = (over (from chain level) chain.links place high).1 (passes_here level chain chains place high q) in
        let a : n ≡ k = omega (arith, is) in
        let b : p ≡ place = cc in
        let c : h ≡ high = cc in
        cc
    back_over p h (suc i) e is q =
        let past = passed_above level p h chain.links (all_links (take i chains)) ((over (from chain level) chain.links p h).0 e) in
        let same = ap (level_after level) (flat_map-cons chain_links chain (take i chains)) in
        let within = q.low in
        absurd (omega arith)

    back_on : (j : ℕ) (top : Node) → climbed image 0 (from chain level) chain.links ≡ Ok top → top.level ≡ level_after level chain.links
        → ((j : ℕ) → k ≡ n + 1 + j → PassesIn top.level chains j place high → tops image (n + 1) top.level chains ≡ Err (Level k place high))
        → k ≡ n + j → PassesIn level (chain ∷ chains) j place high → tops image (n + 1) top.level chains ≡ Err (Level k place high)
    back_on zero top e reached higher is q = absurd (let other = (over (from chain level) chain.links place high).1 (passes_here level chain chains place high q) in cc)
    back_on (suc i) top e reached higher is q = higher i (omega (arith, is)) (unshifted level chain chains i place high top.level reached q)

  pub tops_over : (n level : ℕ) (chains : List PlainChain) (k place high : ℕ) → level ≤ 255 → (tops image n level chains ≡ Err (Level k place high)) ↔ PassesAt n level chains k place high
  tops_over n level [] k place high low = (λ e. absurd cc, λ h. absurd (let there = h.2.there in cc))
  tops_over n level (chain ∷ chains) k place high low = of (λ top. tops_over (n + 1) top.level chains k place high) (climbed image 0 (from chain level) chain.links) refl
    where
      next : Node → Result (List Node) Refusal
      next top = tops image (n + 1) top.level chains >>= λ higher. good (top ∷ higher)

      of : ((top : Node) → top.level ≤ 255 → (tops image (n + 1) top.level chains ≡ Err (Level k place high)) ↔ PassesAt (n + 1) top.level chains k place high)
          → (r : Result Node LevelFault) → climbed image 0 (from chain level) chain.links ≡ r → ((or_level n r >>= next) ≡ Err (Level k place high)) ↔ PassesAt n level (chain ∷ chains) k place high
      of higher (Err (Over p h)) e = (here_over n level chain chains k place high low p h e, λ q. back_over n level chain chains k place high low p h q.0 e q.1 q.2)
      of higher (Ok top) e =
          let reached : top.level ≡ level_after level chain.links = rise (from chain level) top chain.links ((climbs (from chain level) top chain.links).0 e) in
          let within = low_top 0 chain.links (from chain level) top low e in
          let both = higher top within in
          let put = put_err top (tops image (n + 1) top.level chains) (Level k place high) in (
            λ f. (let at = both.0 (put.0 f) in (suc at.0, omega (arith, at.1), shifted level chain chains at.0 place high top.level reached at.2)),
            λ q. put.1 (back_on n level chain chains k place high low q.0 top e reached (λ j is h. both.1 (j, is, h)) q.1 q.2),
          )

  -- from the first chain, at level 0
  pub first_over : (chains : List PlainChain) (k place high : ℕ) → (tops image 0 0 chains ≡ Err (Level k place high)) ↔ PassesIn 0 chains k place high
  first_over chains k place high =
      let both = tops_over 0 0 chains k place high (omega arith) in
      (λ e. (let at = both.0 e in let is : at.0 ≡ k = omega (arith, at.1) in subst (λ (j : ℕ). PassesIn 0 chains j place high) is at.2), λ h. both.1 (k, omega arith, h))

module _ (image : List ℕ → List ℕ) (climbs : (start top : Node) (links : List PlainLink) → (climbed image 0 start links ≡ Ok top) ↔ Climbs image start links top)
    (together : (start middle top : Node) (links more : List PlainLink) → Climbs image start links middle → Climbs image middle more top → Climbs image start (links ++ more) top) where
  pub lead_climbs : (chains : List PlainChain) (start top : Node) → ChainsLead image start chains top → Climbs image start (all_links chains) top
  lead_climbs [] start top is = subst (λ (x : Node). Climbs image start [] x) is ((climbs start start []).0 refl)
  lead_climbs (chain ∷ chains) start top h =
      subst (λ (links : List PlainLink). Climbs image start links top) (sym (flat_map-cons chain_links chain chains)) (together start h.0 top chain.links (all_links chains) h.2 (lead_climbs chains h.0 top h.3))
