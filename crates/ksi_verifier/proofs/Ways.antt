-- The step of a number, as a search along the chains comes to it.
use Rattle.std.proofs.Common.{◌≡◌, ℕ, suc, ◌+◌, ◌<◌, ◌≤◌, List, ◌∷◌, length, drop, get_or, Option, None, Ok, Err, sym, ap, ◌∙◌, arith}
use Rattle.std.specs.List.{slice_get}
use Rattle.std.proofs.Math.Seq.{drop-cons}
use Rattle.ksi_aggtree.specs.Climbing.{climbed}
use Rattle.ksi_aggtree.specs.declared.chains.node.Node.{Node}
use Rattle.ksi_aggtree.specs.declared.chains.climbing.LevelFault.{LevelFault}
use Rattle.ksi_signature.specs.Values.{Calendar}
use Rattle.ksi_verifier.specs.Chains.{PlainChain}
use Rattle.ksi_verifier.specs.Steps.{PlainStep, link_steps, input_at, steps_from}
use Rattle.ksi_verifier.proofs.Along.{within_links, past_links, past_fault}

module _ (image : List ℕ → List ℕ) (calendar : Option Calendar) (chain level rest : ℕ) (lowest : PlainChain) (all : List PlainChain) (found : Option PlainStep)
    (lt : chain < length all) (is : lowest ≡ get_or all chain lowest) (so_far : slice_get (steps_from image chain level (drop chain all) calendar) rest ≡ found) where
  rest_is : drop chain all ≡ lowest ∷ drop (chain + 1) all
  rest_is = let s : suc chain ≡ chain + 1 = omega arith in
      drop-cons all chain lowest lt ∙ ap (λ (c : PlainChain). c ∷ drop (suc chain) all) (sym is) ∙ ap (λ (n : ℕ). lowest ∷ drop n all) s

  here : slice_get (steps_from image chain level (lowest ∷ drop (chain + 1) all) calendar) rest ≡ found
  here = ap (λ (chains : List PlainChain). slice_get (steps_from image chain level chains calendar) rest) (sym rest_is) ∙ so_far

  more : ℕ → List PlainStep
  more top = steps_from image (chain + 1) top (drop (chain + 1) all) calendar

  pub in_chain : rest < length lowest.links → slice_get (link_steps image chain 0 (input_at level lowest) lowest.links) rest ≡ found
  unfolding more
  in_chain less = within_links image chain more 0 (input_at level lowest) lowest.links rest less ∙ here

  pub over_chain : (fault : LevelFault) → length lowest.links ≤ rest → climbed image 0 (input_at level lowest) lowest.links ≡ Err fault → None ≡ found
  unfolding more
  over_chain fault le e = past_fault image chain more 0 (input_at level lowest) lowest.links rest fault le e ∙ here

  pub above_chain : (top : Node) (n : ℕ) → rest ≡ length lowest.links + n → climbed image 0 (input_at level lowest) lowest.links ≡ Ok top
      → slice_get (steps_from image (chain + 1) top.level (drop (chain + 1) all) calendar) n ≡ found
  unfolding more
  above_chain top n at e = past_links image chain more 0 (input_at level lowest) lowest.links rest n top at e ∙ here
