use Rattle.std.proofs.Common.{List, ℕ, ◌<◌, ◌^◌, sym, subst, ap, drop, length, length-drop, arith}
use Rattle.std.specs.List.{AllByRecursion}
use Rattle.ksi_signature.proofs.Indexes.{length-index}
use Rattle.ksi_signature.proofs.IssuedAgain.{index_below}
use Rattle.ksi_signature.proofs.issuing.put_chains.Goals as goal

pub put_chain-requires-clause-index : goal.put_chain-requires-clause-index
put_chain-requires-clause-index c =
    let is = ap (λ (index : List ℕ). length index) c.loop-chain.invariant.index in
    let all = length-index (drop c.loop-chain.chain-index c.args.chains.now) in
    omega (arith, is, all, length-drop c.loop-chain.chain-index c.args.chains.now, c.requires.count)

pub put_chain-requires-clause-parts : goal.put_chain-requires-clause-parts
put_chain-requires-clause-parts c =
    subst (λ (index : List ℕ). AllByRecursion (λ part. part < 2 ^ 24) index) (sym c.loop-chain.invariant.index) (index_below (drop c.loop-chain.chain-index c.args.chains.now) c.loop-chain.invariant.chains)
