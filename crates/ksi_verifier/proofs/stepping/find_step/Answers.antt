use Rattle.std.proofs.Common.{◌≡◌, ◌∙◌, ◌-◌, length, map, sym, ap, arith}
use Rattle.std.specs.Prelude.{option_map}
use Rattle.std.specs.List.{slice_get}
use Rattle.std.proofs.Math.ListN.{get_or-map}
use Rattle.std.proofs.lemmas.List.{length-map}
use Rattle.ksi_aggtree.specs.Climbing.{climbed}
use Rattle.ksi_aggtree.specs.Lent.{lent_link, lent_links}
use Rattle.ksi_verifier.specs.Lent.{calendar_of, lent_chain}
use Rattle.ksi_verifier.specs.Steps.{link_steps}
use Rattle.ksi_verifier.proofs.Ways.{in_chain, over_chain, above_chain}
use Rattle.ksi_verifier.proofs.stepping.find_step.Goals as goal

pub returns-then-rest-links : goal.returns-then-rest-links
returns-then-rest-links g c =
    let image = g.C.Compress.image in
    let chains = c.args.chains.now in
    let lowest = lent_chain c.index-chains-chain.result in
    let input : c.input.result ≡ lowest.input = c.input.ensures in
    let links : lent_links c.as_slice-links.result.now ≡ lowest.links = c.as_slice-links.ensures.links ∙ c.links-links.ensures.links in
    let count : length lowest.links ≡ length c.as_slice-links.result.now = sym (ap length links) ∙ length-map c.as_slice-links.result.now lent_link in
    c.step_along.ensures
    ∙ (λ i. slice_get (link_steps image c.loop-chain.chain 0 (record { imprint = input i; level = c.loop-chain.level }) (links i)) c.loop-chain.rest)
    ∙ in_chain image (option_map calendar_of c.args.calendar.now) c.loop-chain.chain c.loop-chain.level c.loop-chain.rest lowest (map lent_chain chains) _
    (omega (arith, length-map chains lent_chain, c.loop-chain-test.true))
    (ap lent_chain c.index-chains-chain.is ∙ sym (get_or-map lent_chain chains c.loop-chain.chain c.index-chains-chain.result))
    c.loop-chain.invariant (omega (arith, count, c.if-rest-links.true))

pub returns-in-Err : goal.returns-in-Err
returns-in-Err g c =
    let image = g.C.Compress.image in
    let chains = c.args.chains.now in
    let lowest = lent_chain c.index-chains-chain.result in
    let input : c.input.result ≡ lowest.input = c.input.ensures in
    let links : lent_links c.as_slice-links.result.now ≡ lowest.links = c.as_slice-links.ensures.links ∙ c.links-links.ensures.links in
    let count : length lowest.links ≡ length c.as_slice-links.result.now = sym (ap length links) ∙ length-map c.as_slice-links.result.now lent_link in
    over_chain image (option_map calendar_of c.args.calendar.now) c.loop-chain.chain c.loop-chain.level c.loop-chain.rest lowest (map lent_chain chains) _
    (omega (arith, length-map chains lent_chain, c.loop-chain-test.true))
    (ap lent_chain c.index-chains-chain.is ∙ sym (get_or-map lent_chain chains c.loop-chain.chain c.index-chains-chain.result))
    c.loop-chain.invariant c.in-Err.field-0 (omega (arith, count, c.if-rest-links.false))
    ((λ i. climbed image 0 (record { imprint = sym input i; level = c.loop-chain.level }) lowest.links) ∙ sym c.in-Err.ensures)

pub loop-chain-preserved : goal.loop-chain-preserved
loop-chain-preserved g c =
    let image = g.C.Compress.image in
    let chains = c.args.chains.now in
    let lowest = lent_chain c.index-chains-chain.result in
    let input : c.input.result ≡ lowest.input = c.input.ensures in
    let links : lent_links c.as_slice-links.result.now ≡ lowest.links = c.as_slice-links.ensures.links ∙ c.links-links.ensures.links in
    let count : length lowest.links ≡ length c.as_slice-links.result.now = sym (ap length links) ∙ length-map c.as_slice-links.result.now lent_link in
    above_chain image (option_map calendar_of c.args.calendar.now) c.loop-chain.chain c.loop-chain.level c.loop-chain.rest lowest (map lent_chain chains) _
    (omega (arith, length-map chains lent_chain, c.loop-chain-test.true))
    (ap lent_chain c.index-chains-chain.is ∙ sym (get_or-map lent_chain chains c.loop-chain.chain c.index-chains-chain.result))
    c.loop-chain.invariant c.in-Ok.top (c.loop-chain.rest - length c.as_slice-links.result.now) (omega (arith, count, c.if-rest-links.false))
    ((λ i. climbed image 0 (record { imprint = sym input i; level = c.loop-chain.level }) lowest.links) ∙ sym c.in-Ok.ensures)
