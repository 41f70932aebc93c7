-- Links of chains, one chain after the other.
use Rattle.std.proofs.Common.{◌≡◌, ℕ, ◌≤◌, List, [], ◌∷◌, ◌++◌, Result, Ok, Err, Option, refl, sym, ap, subst, ◌∙◌, arith, append_assoc, append-nil}
use Rattle.std.specs.Prelude.{IfOk, OnErr}
use Rattle.std.proofs.lemmas.List.Concat.{flat_map-cons}
use Rattle.std.proofs.lemmas.List.Sums.{sum_by-append}
use Rattle.ksi_split.specs.declared.side.Side.{Side}
use Rattle.ksi_aggtree.specs.Links.{PlainLink}
use Rattle.ksi_aggtree.specs.Climbing.{above, level_after}
use Rattle.ksi_aggtree.specs.declared.chains.node.Node.{Node}
use Rattle.ksi_beside.specs.Beside.{Rung, rung_from, rungs_from, laid_from, laid_on, IsApart}
use Rattle.ksi_beside.specs.declared.walk.Walk.{Walk}
use Rattle.ksi_beside.specs.declared.walk.Walk.TheVariants.{Apart, At, Past}
use Rattle.ksi_verifier.specs.Chains.{PlainChain}
use Rattle.ksi_verifier.specs.Leading.{chain_links, all_links}
use Rattle.ksi_auditor.specs.Climbed.{climbed_to}
use Rattle.ksi_auditor.proofs.Climbs.{rise, climbed_level, level_most}

pub ok_goes_on : {A E : Type 0} (r : Result A E) (x y : A) → IfOk r (λ z. z ≡ x) → x ≡ y → IfOk r (λ z. z ≡ y)
ok_goes_on (Ok z) x y is e = is ∙ e
ok_goes_on (Err fault) x y is e = tt

pub ok_is : {A E : Type 0} (P : A → Type 0) (r : Result A E) (x : A) → IfOk r (λ z. z ≡ x) → P x → IfOk r P
ok_is P (Ok z) x is h = subst P (sym is) h
ok_is P (Err fault) x is h = tt

pub err_told : {A E : Type 0} (r : Result A E) (P : Type 0) → P → OnErr r P
err_told (Ok z) P h = tt
err_told (Err fault) P h = h

pub err_goes_on : {A E : Type 0} (r : Result A E) (x y : Walk) → OnErr r (IsApart x) → x ≡ y → OnErr r (IsApart y)
err_goes_on r x y is e = subst (λ (w : Walk). OnErr r (IsApart w)) e is

pub err_has : {A E P Q : Type 0} (r : Result A E) → OnErr r P → (P → Q) → OnErr r Q
err_has (Ok z) h on = tt
err_has (Err fault) h on = on h

-- ---- links

pub rungs_append : (image : List ℕ → List ℕ) (x : Node) (links more : List PlainLink) → rungs_from image x (links ++ more) ≡ rungs_from image (climbed_to image x links) more ++ rungs_from image x links
rungs_append image x [] more = sym (append-nil (rungs_from image x more))
rungs_append image x (link ∷ links) more =
    ap (λ (r : List Rung). r ++ rung_from x link ∷ []) (rungs_append image (above image x link) links more)
    ∙ append_assoc (rungs_from image (climbed_to image (above image x link) links) more) (rungs_from image (above image x link) links) (rung_from x link ∷ [])

module _ (level : ℕ) (chain : PlainChain) (higher chains : List PlainChain) (is : chains ≡ chain ∷ higher) where
  pub chain_level : level_after level (all_links chains) ≡ level_after (level_after level chain.links) (all_links higher)
  chain_level =
      let both = sum_by-append rise chain.links (all_links higher) in
      ap (λ (c : List PlainChain). level_after level (all_links c)) is ∙ ap (level_after level) (flat_map-cons chain_links chain higher) ∙ (omega (arith, both))

  pub first_low : level_after level (all_links chains) ≤ 255 → level_after level chain.links ≤ 255
  first_low low = let all = chain_level in let most = level_most (level_after level chain.links) (all_links higher) in omega (arith, all, most, low)

pub higher_low : (image : List ℕ → List ℕ) (below top : Node) (chain : PlainChain) (higher chains : List PlainChain) → chains ≡ chain ∷ higher → top ≡ climbed_to image below chain.links → level_after below.level (all_links chains) ≤ 255 → level_after top.level (all_links higher) ≤ 255
higher_low image below top chain higher chains is to low =
    let all = chain_level below.level chain higher chains is in
    let level = ap (λ (x : Node). x.level) to ∙ climbed_level image below chain.links in
    omega (arith, all, level, low)

-- ---- beside a tree

still_apart : (kept : List Side → Option (List ℕ)) (walk : Walk) (rungs : List Rung) → IsApart walk → IsApart (laid_on kept walk rungs)
still_apart kept (Apart clash) rungs h = tt
still_apart kept (At sides) rungs h = absurd h
still_apart kept (Past sides) rungs h = absurd h

module _ (image : List ℕ → List ℕ) (kept : List Side → Option (List ℕ)) (together : (walk : Walk) (rungs more : List Rung) → laid_on kept walk (rungs ++ more) ≡ laid_on kept (laid_on kept walk rungs) more)
    (below top : Node) (chain : PlainChain) (higher chains : List PlainChain) (is : chains ≡ chain ∷ higher) (to : top ≡ climbed_to image below chain.links) where
  all_rungs : rungs_from image top (all_links higher) ++ rungs_from image below chain.links ≡ rungs_from image below (all_links chains)
  all_rungs =
      ap (λ (x : Node). rungs_from image x (all_links higher) ++ rungs_from image below chain.links) to ∙ sym (rungs_append image below chain.links (all_links higher))
      ∙ ap (rungs_from image below) (sym (flat_map-cons chain_links chain higher) ∙ ap all_links (sym is))

  pub chain_down : (walk : Walk) → walk ≡ laid_from kept [] (rungs_from image top (all_links higher)) → laid_on kept walk (rungs_from image below chain.links) ≡ laid_from kept [] (rungs_from image below (all_links chains))
  chain_down walk e =
      ap (λ (w : Walk). laid_on kept w (rungs_from image below chain.links)) e
      ∙ sym (together (At []) (rungs_from image top (all_links higher)) (rungs_from image below chain.links)) ∙ ap (laid_from kept []) all_rungs

  pub chain_apart : IsApart (laid_from kept [] (rungs_from image top (all_links higher))) → IsApart (laid_from kept [] (rungs_from image below (all_links chains)))
  chain_apart h = subst IsApart (chain_down (laid_from kept [] (rungs_from image top (all_links higher))) refl) (still_apart kept (laid_from kept [] (rungs_from image top (all_links higher))) (rungs_from image below chain.links) h)
