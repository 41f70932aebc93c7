use Rattle.std.proofs.Common.{◌≡◌, ℕ, suc, ◌+◌, List, ◌∷◌, ◌++◌, drop, map, sym, ap, ◌∙◌, arith}
use Rattle.std.proofs.Math.Seq.{drop-cons}
use Rattle.ksi_signature.specs.declared.chain_view.ChainView.{ChainView}
use Rattle.ksi_verifier.specs.Lent.{lent_chain}
use Rattle.ksi_texts.specs.Chains.{chain_rows, chains_rows}
use Rattle.ksi_texts.proofs.RowLemmas.{left_rows}
use Rattle.ksi_texts.proofs.chains.put_chains.Goals as goal

pub loop-k-preserved : goal.loop-k-preserved
loop-k-preserved c =
    let chains = c.args.chains.now in
    let k = c.loop-k.k in
    let level = c.loop-k.level in
    let chain = lent_chain c.index-chains-k.result in
    let next : suc k ≡ k + 1 = omega arith in
    let first : drop k chains ≡ c.index-chains-k.result ∷ drop (k + 1) chains
    = drop-cons chains k c.index-chains-k.result c.loop-k-test.true
    ∙ ap (λ (it : ChainView). it ∷ drop (suc k) chains) (sym c.index-chains-k.is)
    ∙ ap (λ (n : ℕ). c.index-chains-k.result ∷ drop n chains) next in
    let is : chains_rows k level (map lent_chain (drop k chains)) ≡ chain_rows k level chain ++ chains_rows (k + 1) c.in_ok-level.level (map lent_chain (drop (k + 1) chains))
    = ap (λ (left : List ChainView). chains_rows k level (map lent_chain left)) first
    ∙ ap (λ (top : ℕ). chain_rows k level chain ++ chains_rows (k + 1) top (map lent_chain (drop (k + 1) chains))) (sym c.in_ok-level.ensures.level) in
    left_rows c.loop-k.text.items c.put_chain.new.text.items (chain_rows k level chain) (chains_rows (k + 1) c.in_ok-level.level (map lent_chain (drop (k + 1) chains))) _ is c.in_ok-level.ensures.told
    ∙ c.loop-k.invariant
