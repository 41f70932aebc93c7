-- The step at a place along links, from what the links below it lead to; and steps behind a chain's.
use Rattle.std.proofs.Common.{◌≡◌, ℕ, zero, suc, ◌+◌, ◌<◌, ◌≤◌, ◌⊎◌, Bool, true, false, ltb, List, [], ◌∷◌, ◌++◌, length, take, Some, None, Ok, Err, refl, sym, ap, ◌∙◌, subst, arith, inl, inr}
use Rattle.std.specs.List.{slice_get}
use Rattle.std.proofs.lemmas.Bool.{ltb-false, ltb-true}
use Rattle.ksi_aggtree.specs.Links.{PlainLink, level_above, link_text, side_text}
use Rattle.ksi_aggtree.specs.Climbing.{above, climbed}
use Rattle.ksi_aggtree.specs.declared.chains.node.Node.{Node}
use Rattle.ksi_aggtree.specs.declared.chains.climbing.LevelFault.{LevelFault}
use Rattle.ksi_verifier.specs.Steps.{PlainStep, link_step, link_steps, above_top}

lt_cases : (a b : ℕ) → ((ltb a b ≡ true) × (a < b)) ⊎ ((ltb a b ≡ false) × (b ≤ a))
lt_cases a b = of (ltb a b) refl
  where
    of : (t : Bool) → ltb a b ≡ t → ((ltb a b ≡ true) × (a < b)) ⊎ ((ltb a b ≡ false) × (b ≤ a))
    of true e = inl (e, ltb-true _ _ e)
    of false e = inr (e, ltb-false _ _ e)

module _ (image : List ℕ → List ℕ) (chain : ℕ) where
  -- a link below it passes 255
  pub none_below : (place : ℕ) (start : Node) (links : List PlainLink) (k : ℕ) (fault : LevelFault) → climbed image place start (take k links) ≡ Err fault
      → slice_get (link_steps image chain place start links) k ≡ None
  none_below place start [] k fault e = refl
  none_below place start (link ∷ links) zero fault e = absurd cc
  none_below place start (link ∷ links) (suc k) fault e = elim (lt_cases 255 (level_above start.level link)) [
    | inl t ↦ (rw t.0 refl)
    | inr f ↦ (let here = rw f.0 at e in rw f.0 (none_below (place + 1) (above image start link) links k fault here))
  ]

  -- it passes 255 itself
  pub none_here : (place : ℕ) (start : Node) (links : List PlainLink) (k : ℕ) (below : Node) (link : PlainLink) → climbed image place start (take k links) ≡ Ok below
      → slice_get links k ≡ Some link → 255 < level_above below.level link → slice_get (link_steps image chain place start links) k ≡ None
  none_here place start [] k below link e is over = refl
  none_here place start (first ∷ links) zero below link e is over =
      let same : below ≡ start = cc in
      let one : link ≡ first = cc in
      let high : 255 < level_above start.level first = subst (λ (l : PlainLink). 255 < level_above start.level l) one (subst (λ (n : Node). 255 < level_above n.level link) same over) in
      elim (lt_cases 255 (level_above start.level first)) [
        | inl t ↦ (rw t.0 refl)
        | inr f ↦ absurd (omega (arith, f.1, high))
      ]
  none_here place start (first ∷ links) (suc k) below link e is over = elim (lt_cases 255 (level_above start.level first)) [
    | inl t ↦ (rw t.0 refl)
    | inr f ↦ (let here = rw f.0 at e in rw f.0 (none_here (place + 1) (above image start first) links k below link here is over))
  ]

  -- none does
  pub step_here : (place : ℕ) (start : Node) (links : List PlainLink) (k : ℕ) (below : Node) (link : PlainLink) → climbed image place start (take k links) ≡ Ok below
      → slice_get links k ≡ Some link → level_above below.level link ≤ 255 → slice_get (link_steps image chain place start links) k ≡ Some (link_step image chain (place + k) below link)
  step_here place start [] k below link e is low = absurd cc
  step_here place start (first ∷ links) zero below link e is low =
      let same : start ≡ below = cc in
      let one : first ≡ link = cc in
      let at : place ≡ place + 0 = omega arith in
      let high : level_above start.level first ≤ 255 = subst (λ (l : PlainLink). level_above start.level l ≤ 255) (sym one) (subst (λ (n : Node). level_above n.level link ≤ 255) (sym same) low) in
      elim (lt_cases 255 (level_above start.level first)) [
        | inl t ↦ absurd (omega (arith, t.1, high))
        | inr f ↦ (rw f.0 (λ i. Some (link_step image chain (at i) (same i) (one i))))
      ]
  step_here place start (first ∷ links) (suc k) below link e is low = elim (lt_cases 255 (level_above start.level first)) [
    | inl t ↦ (let here = rw t.0 at e in absurd cc)
    | inr f ↦ (let here = rw f.0 at e in
        let at : place + 1 + k ≡ place + suc k = omega arith in
        rw f.0 (step_here (place + 1) (above image start first) links k below link here is low ∙ ap (λ (n : ℕ). Some (link_step image chain n below link)) at))
  ]

  pub step_is : (start : Node) (links : List PlainLink) (k : ℕ) (below : Node) (link : PlainLink) (level : ℕ) (join : List ℕ) → climbed image 0 start (take k links) ≡ Ok below
      → slice_get links k ≡ Some link → level ≡ level_above below.level link → level ≤ 255 → join ≡ image (side_text link.side below.imprint link.sibling level)
      → Some (record { calendar = false; chain = chain; place = k; side = link.side; level = level; node = below.imprint; sibling = link.sibling; raw = link.raw; join = join })
      ≡ slice_get (link_steps image chain 0 start links) k
  step_is start links k below link level join e is high low joined =
      let at : k ≡ 0 + k = omega arith in
      let same : join ≡ image (link_text below.imprint link (level_above below.level link)) = joined ∙ ap (λ (n : ℕ). image (side_text link.side below.imprint link.sibling n)) high in
      let told : Some (record { calendar = false; chain = chain; place = k; side = link.side; level = level; node = below.imprint; sibling = link.sibling; raw = link.raw; join = join })
      ≡ Some (link_step image chain (0 + k) below link)
      = λ i. Some (record { calendar = false; chain = chain; place = at i; side = link.side; level = high i; node = below.imprint; sibling = link.sibling; raw = link.raw; join = same i }) in
      told ∙ sym (step_here 0 start links k below link e is (subst (λ (n : ℕ). n ≤ 255) high low))

  -- ---- with what stands above

  module _ (more : ℕ → List PlainStep) where
    pub within_links : (place : ℕ) (start : Node) (links : List PlainLink) (k : ℕ) → k < length links
        → slice_get (link_steps image chain place start links) k ≡ slice_get (link_steps image chain place start links ++ above_top (climbed image place start links) more) k
    within_links place start [] k lt = absurd (omega (arith, lt))
    within_links place start (link ∷ links) zero lt = elim (lt_cases 255 (level_above start.level link)) [
      | inl t ↦ (rw t.0 refl)
      | inr f ↦ (rw f.0 refl)
    ]
    within_links place start (link ∷ links) (suc k) lt = elim (lt_cases 255 (level_above start.level link)) [
      | inl t ↦ (rw t.0 refl)
      | inr f ↦ (let less : k < length links = omega (arith, lt) in rw f.0 (within_links (place + 1) (above image start link) links k less))
    ]

    pub past_links : (place : ℕ) (start : Node) (links : List PlainLink) (n k : ℕ) (top : Node) → n ≡ length links + k → climbed image place start links ≡ Ok top
        → slice_get (more top.level) k ≡ slice_get (link_steps image chain place start links ++ above_top (climbed image place start links) more) n
    past_links place start [] n k top at e =
        let same : top ≡ start = cc in
        let is : k ≡ n = omega (arith, at) in
        λ i. slice_get (more (same i).level) (is i)
    past_links place start (link ∷ links) zero k top at e = absurd (omega (arith, at))
    past_links place start (link ∷ links) (suc n) k top at e = elim (lt_cases 255 (level_above start.level link)) [
      | inl t ↦ (let here = rw t.0 at e in absurd cc)
      | inr f ↦ (let here = rw f.0 at e in
          let next : n ≡ length links + k = omega (arith, at) in
          rw f.0 (past_links (place + 1) (above image start link) links n k top next here))
    ]

    pub past_fault : (place : ℕ) (start : Node) (links : List PlainLink) (n : ℕ) (fault : LevelFault) → length links ≤ n → climbed image place start links ≡ Err fault
        → None ≡ slice_get (link_steps image chain place start links ++ above_top (climbed image place start links) more) n
    past_fault place start [] n fault le e = absurd cc
    past_fault place start (link ∷ links) zero fault le e = absurd (omega (arith, le))
    past_fault place start (link ∷ links) (suc n) fault le e = elim (lt_cases 255 (level_above start.level link)) [
      | inl t ↦ (rw t.0 refl)
      | inr f ↦ (let here = rw f.0 at e in
          let less : length links ≤ n = omega (arith, le) in
          rw f.0 (past_fault (place + 1) (above image start link) links n fault less here))
    ]
