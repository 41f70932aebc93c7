use Rattle.std.proofs.Common.{◌≡◌, map, ap, ◌∙◌}
use Rattle.ksi_signature.specs.Seen.{seen}
use Rattle.ksi_verifier.specs.Chains.{plain_chains}
use Rattle.ksi_verifier.specs.ChainChecks.{chains_checked}
use Rattle.ksi_verifier.specs.Lent.{lent_chain}
use Rattle.ksi_verifier.proofs.Turns.{lent_chains}
use Rattle.ksi_verifier.proofs.lent_checking.aggregate_view.Goals as goal

pub returns : goal.returns
returns g c =
    let chains : map lent_chain c.chains.result.now ≡ plain_chains (seen c.args.signature.now).chains = lent_chains c.chains.result.now ∙ ap plain_chains c.chains.ensures.chains in
    c.check_chains.ensures ∙ ap (chains_checked g.C.Compress.image) chains
