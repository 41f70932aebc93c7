use Rattle.std.proofs.Common.{◌≡◌, map, option_map, ap, ◌∙◌}
use Rattle.ksi_signature.specs.Seen.{seen}
use Rattle.ksi_verifier.specs.Chains.{plain_chains}
use Rattle.ksi_verifier.specs.Lent.{lent_chain, record_of}
use Rattle.ksi_verifier.specs.Verdict.{checked}
use Rattle.ksi_verifier.proofs.Turns.{lent_chains}
use Rattle.ksi_verifier.proofs.lent_checking.check_lent.Goals as goal

pub returns : goal.returns
returns g c =
    let s = seen c.args.signature.now in
    let chains : map lent_chain c.chains-chains.result.now ≡ plain_chains s.chains = lent_chains c.chains-chains.result.now ∙ ap plain_chains c.chains-chains.ensures.chains in
    let record_is = c.lent_record-record.ensures ∙ ap (option_map record_of) c.publication.ensures in
    c.check.ensures ∙ λ i. checked g.C.Compress.image (chains i) (c.calendar-calendar.ensures i) (record_is i) c.args.hash.now (g.P.Published.pairs c.args.publications.now)
