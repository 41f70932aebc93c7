use Rattle.std.proofs.Common.{◌≡◌, ◌≤◌, List, length, map, sym, subst, ap}
use Rattle.ksi_aggtree.specs.Climbing.{level_after}
use Rattle.ksi_aggtree.specs.Links.{PlainLink}
use Rattle.ksi_signature.specs.Values.{Aggregation}
use Rattle.ksi_verifier.specs.Chains.{plain_chains, plain_chain}
use Rattle.ksi_verifier.specs.Leading.{all_links}
use Rattle.ksi_auditor.specs.Audit.{links_of}
use Rattle.ksi_auditor.specs.Shown.{HasClash}
use Rattle.ksi_auditor.proofs.Chaining.{ok_goes_on, err_has}
use Rattle.ksi_auditor.proofs.Lent.{audit_is, early_part}
use Rattle.ksi_auditor.proofs.auditing.owned.Goals as goal

pub of_verdict-requires : goal.of_verdict-requires
of_verdict-requires g c =
    let s = c.args.signature.now in
    let links : all_links (map plain_chain c.as_slice-chains.result.now) ≡ links_of s = ap (λ chains. all_links (plain_chains chains)) c.as_slice-chains.ensures.chains in
    record {
      few = subst (λ (chains : List Aggregation). length chains ≤ 16) (sym c.as_slice-chains.ensures.chains) c.as_slice-chains.ensures.limits.count;
      levels = λ t is. subst (λ (l : List PlainLink). level_after 0 l ≤ 255) (sym links) (c.low_levels.ensures g.C.Compress.image s c.args.hash.now c.args.publications.now t ((c.verify-verdict.ensures.accepted t).0 is));
      early = early_part c.calendar_part-calendar.result s.calendar c.calendar_part-calendar.ensures c.is_early.ensures;
    }

pub returns-clause-answer : goal.returns-clause-answer
returns-clause-answer g c =
    let s = c.args.signature.now in
    let links : all_links (map plain_chain c.as_slice-chains.result.now) ≡ links_of s = ap (λ chains. all_links (plain_chains chains)) c.as_slice-chains.ensures.chains in
    let is = audit_is g.C.Compress.image c.args.journal.now s c.args.hash.now c.args.publications.now _ _ _ links c.calendar_part-calendar.ensures c.verify-verdict.ensures.first in
    ok_goes_on c.of_verdict.result _ _ c.of_verdict.ensures.answer is

pub returns-clause-memory : goal.returns-clause-memory
returns-clause-memory g c =
    let s = c.args.signature.now in
    let links : all_links (map plain_chain c.as_slice-chains.result.now) ≡ links_of s = ap (λ chains. all_links (plain_chains chains)) c.as_slice-chains.ensures.chains in
    let is = audit_is g.C.Compress.image c.args.journal.now s c.args.hash.now c.args.publications.now _ _ _ links c.calendar_part-calendar.ensures c.verify-verdict.ensures.first in
    err_has c.of_verdict.result c.of_verdict.ensures.memory (subst HasClash is)
