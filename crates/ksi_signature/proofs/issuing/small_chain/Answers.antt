use Rattle.std.proofs.Common.{List, ℕ, None, refl, ap, length, arith}
use Rattle.ksi_signature.proofs.RoundLinks.{round_fits}
use Rattle.ksi_signature.proofs.Indexes.{chain_small}
use Rattle.ksi_signature.proofs.issuing.small_chain.Goals as goal

pub returns-in-Ok-clause-short : goal.returns-in-Ok-clause-short
returns-in-Ok-clause-short c =
    let small = chain_small c.numeral_is_read.ensures.fewest c.numeral_is_read.ensures.size (record { time = c.args.second; index = c.args.index.now; input_body = None; input = c.args.input.now; links = c.args.links.now }) refl c.requires.index c.requires.parts c.imprint_is_kept.ensures c.requires.limits c.requires.links in
    let text = ap (λ (bytes : List ℕ). length bytes) c.in-Ok.ensures.text in
    omega (arith, small, text)

pub chain_body-requires : goal.chain_body-requires
chain_body-requires c = round_fits c.args.links.now c.requires.limits
