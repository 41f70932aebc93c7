use Rattle.std.proofs.Common.{◌≡◌, ◌<◌, ◌≤◌, ◌^◌, List, Some, map, option_map, sym, subst, ap, ◌∙◌}
use Rattle.ksi_aggtree.specs.Climbing.{level_after}
use Rattle.ksi_aggtree.specs.Links.{PlainLink}
use Rattle.ksi_signature.specs.PartsSeen.{calendar_seen}
use Rattle.ksi_signature.specs.Seen.{seen}
use Rattle.ksi_signature.specs.Values.{Calendar}
use Rattle.ksi_verifier.specs.Chains.{plain_chains}
use Rattle.ksi_verifier.specs.Leading.{all_links}
use Rattle.ksi_verifier.specs.Lent.{lent_chain}
use Rattle.ksi_auditor.specs.Audit.{links_of}
use Rattle.ksi_auditor.specs.Shown.{HasClash}
use Rattle.ksi_auditor.proofs.Chaining.{ok_goes_on, err_has}
use Rattle.ksi_auditor.proofs.Lent.{lent_chains, audit_is}
use Rattle.ksi_auditor.proofs.auditing.lent.Goals as goal

pub of_verdict-requires : goal.of_verdict-requires
of_verdict-requires g c =
    let s = seen c.args.signature.now in
    let links : all_links (map lent_chain c.chains-chains.result.now) ≡ links_of s = ap all_links (lent_chains c.chains-chains.result.now ∙ ap plain_chains c.chains-chains.ensures.chains) in
    record {
      few = c.chains-chains.ensures.count;
      levels = λ t is. subst (λ (l : List PlainLink). level_after 0 l ≤ 255) (sym links) (c.low_levels.ensures g.C.Compress.image s c.args.hash.now (g.P.Published.pairs c.args.publications.now) t ((c.verify_lent-verdict.ensures.accepted t).0 is));
      early = tt;
    }

pub of_verdict-requires-in-Some : goal.of_verdict-requires-in-Some
of_verdict-requires-in-Some g c =
    let s = seen c.args.signature.now in
    let links : all_links (map lent_chain c.chains-chains.result.now) ≡ links_of s = ap all_links (lent_chains c.chains-chains.result.now ∙ ap plain_chains c.chains-chains.ensures.chains) in
    record {
      few = c.chains-chains.ensures.count;
      levels = λ t is. subst (λ (l : List PlainLink). level_after 0 l ≤ 255) (sym links) (c.low_levels.ensures g.C.Compress.image s c.args.hash.now (g.P.Published.pairs c.args.publications.now) t ((c.verify_lent-verdict.ensures.accepted t).0 is));
      early = subst (λ (chain : Calendar). chain.publication < 2 ^ 63) (sym c.lent_calendar-part.ensures) (subst (λ n. n < 2 ^ 63) c.publication-below.ensures.value c.publication-below.ensures.below);
    }

pub returns-in-None-clause-answer : goal.returns-in-None-clause-answer
returns-in-None-clause-answer g c =
    let s = seen c.args.signature.now in
    let links : all_links (map lent_chain c.chains-chains.result.now) ≡ links_of s = ap all_links (lent_chains c.chains-chains.result.now ∙ ap plain_chains c.chains-chains.ensures.chains) in
    let calendar = sym (ap (option_map calendar_seen) c.in-None.is) ∙ c.calendar.ensures in
    let is = audit_is g.C.Compress.image c.args.journal.now s c.args.hash.now (g.P.Published.pairs c.args.publications.now) _ _ _ links calendar c.verify_lent-verdict.ensures.first in
    ok_goes_on c.of_verdict.result _ _ c.of_verdict.ensures.answer is

pub returns-in-None-clause-memory : goal.returns-in-None-clause-memory
returns-in-None-clause-memory g c =
    let s = seen c.args.signature.now in
    let links : all_links (map lent_chain c.chains-chains.result.now) ≡ links_of s = ap all_links (lent_chains c.chains-chains.result.now ∙ ap plain_chains c.chains-chains.ensures.chains) in
    let calendar = sym (ap (option_map calendar_seen) c.in-None.is) ∙ c.calendar.ensures in
    let is = audit_is g.C.Compress.image c.args.journal.now s c.args.hash.now (g.P.Published.pairs c.args.publications.now) _ _ _ links calendar c.verify_lent-verdict.ensures.first in
    err_has c.of_verdict.result c.of_verdict.ensures.memory (subst HasClash is)

pub returns-in-Some-clause-answer : goal.returns-in-Some-clause-answer
returns-in-Some-clause-answer g c =
    let s = seen c.args.signature.now in
    let links : all_links (map lent_chain c.chains-chains.result.now) ≡ links_of s = ap all_links (lent_chains c.chains-chains.result.now ∙ ap plain_chains c.chains-chains.ensures.chains) in
    let calendar = ap (λ (x : Calendar). Some x) c.lent_calendar-part.ensures ∙ sym (ap (option_map calendar_seen) c.in-Some.is) ∙ c.calendar.ensures in
    let is = audit_is g.C.Compress.image c.args.journal.now s c.args.hash.now (g.P.Published.pairs c.args.publications.now) _ _ _ links calendar c.verify_lent-verdict.ensures.first in
    ok_goes_on c.of_verdict-in-Some.result _ _ c.of_verdict-in-Some.ensures.answer is

pub returns-in-Some-clause-memory : goal.returns-in-Some-clause-memory
returns-in-Some-clause-memory g c =
    let s = seen c.args.signature.now in
    let links : all_links (map lent_chain c.chains-chains.result.now) ≡ links_of s = ap all_links (lent_chains c.chains-chains.result.now ∙ ap plain_chains c.chains-chains.ensures.chains) in
    let calendar = ap (λ (x : Calendar). Some x) c.lent_calendar-part.ensures ∙ sym (ap (option_map calendar_seen) c.in-Some.is) ∙ c.calendar.ensures in
    let is = audit_is g.C.Compress.image c.args.journal.now s c.args.hash.now (g.P.Published.pairs c.args.publications.now) _ _ _ links calendar c.verify_lent-verdict.ensures.first in
    err_has c.of_verdict-in-Some.result c.of_verdict-in-Some.ensures.memory (subst HasClash is)
