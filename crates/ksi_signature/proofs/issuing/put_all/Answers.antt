use Rattle.std.proofs.Common.{List, ℕ, ◌<◌, ◌^◌, [], ◌∷◌, ap, sym, ◌∙◌, length, take, length-append, subst, arith}
use Rattle.std.proofs.lemmas.List.{length-take-le}
use Rattle.std.specs.List.{AllByRecursion}
use Rattle.ksi_signature.specs.Issued.{index_of, shape_along}
use Rattle.ksi_signature.proofs.Indexes.{length-index, upper_index}
use Rattle.ksi_signature.proofs.IssuedAgain.{own_index_below}
use Rattle.ksi_signature.proofs.issuing.put_all.Goals as goal

pub put_chain-requires-clause-index : goal.put_chain-requires-clause-index
put_chain-requires-clause-index c =
    let is = ap (λ (index : List ℕ). length index) (c.as_slice-index.ensures.value ∙ c.in_ok-index.ensures) in
    omega (arith, is, length-append (index_of c.args.chains.now) (shape_along c.args.links.now ∷ []), length-index c.args.chains.now, c.requires.count)

pub put_chain-requires-clause-parts : goal.put_chain-requires-clause-parts
put_chain-requires-clause-parts c =
    subst (λ (index : List ℕ). AllByRecursion (λ part. part < 2 ^ 24) index) (sym (c.as_slice-index.ensures.value ∙ c.in_ok-index.ensures)) (own_index_below c.args.links.now c.args.chains.now c.requires.limits c.requires.chains)

pub slice_bounds-put_chains-end : goal.slice_bounds-put_chains-end
slice_bounds-put_chains-end c =
    let is = ap (λ (index : List ℕ). length index) (c.as_slice-index.ensures.value ∙ c.in_ok-index.ensures) in
    sym (length-take-le (length c.args.chains.now) c.as_slice-index.result.now (omega (arith, is, length-append (index_of c.args.chains.now) (shape_along c.args.links.now ∷ []), length-index c.args.chains.now)))

pub put_chains-requires-clause-index : goal.put_chains-requires-clause-index
put_chains-requires-clause-index c =
    ap (λ (index : List ℕ). take (length c.args.chains.now) index) (c.as_slice-index.ensures.value ∙ c.in_ok-index.ensures)
    ∙ upper_index (length c.args.chains.now) (index_of c.args.chains.now) (shape_along c.args.links.now) (sym (length-index c.args.chains.now))
