use Rattle.std.proofs.Common.{◌≡◌, ◌≤◌, ◌<◌, ◌^◌, List, Some, Option, map, option_map, sym, subst, ap, ◌∙◌}
use Rattle.ksi_aggtree.specs.Climbing.{level_after}
use Rattle.ksi_aggtree.specs.Links.{PlainLink}
use Rattle.ksi_signature.specs.PartsSeen.{calendar_seen}
use Rattle.ksi_signature.specs.Seen.{seen}
use Rattle.ksi_signature.specs.Values.{Calendar}
use Rattle.ksi_verifier.specs.Chains.{plain_chains}
use Rattle.ksi_verifier.specs.Leading.{all_links}
use Rattle.ksi_verifier.specs.Lent.{calendar_of, lent_chain}
use Rattle.ksi_auditor.specs.declared.answer.Audit.{Audit}
use Rattle.ksi_auditor.specs.Audit.{laid_if, links_of}
use Rattle.ksi_auditor.specs.Shown.{HasClash}
use Rattle.ksi_auditor.proofs.Chaining.{ok_goes_on, err_has}
use Rattle.ksi_auditor.proofs.Keeping.{item_level}
use Rattle.ksi_auditor.proofs.Lent.{lent_chains}
use Rattle.ksi_auditor.proofs.laying.lay_view.Goals as goal

pub lay_beside-requires : goal.lay_beside-requires
lay_beside-requires g c =
    let links : all_links (map lent_chain c.chains-chains.result.now) ≡ links_of (seen c.args.signature.now) = ap all_links (lent_chains c.chains-chains.result.now ∙ ap plain_chains c.chains-chains.ensures.chains) in
    record {
      few = c.chains-chains.ensures.count;
      levels = subst (λ (l : List PlainLink). level_after 0 l ≤ 255) (sym links) c.requires.levels;
      early = subst (λ (chain : Calendar). chain.publication < 2 ^ 63) (sym c.lent_calendar-part.ensures) (subst (λ n. n < 2 ^ 63) c.publication-below.ensures.value c.publication-below.ensures.below);
      round = record { few = c.requires.few; low = λ k. item_level c.args.items.now k c.requires.items };
    }

pub returns-in-None-clause-answer : goal.returns-in-None-clause-answer
returns-in-None-clause-answer g c =
    ap (laid_if g.C.Compress.image c.args.calendar.now c.args.items.now (links_of (seen c.args.signature.now)) c.args.hash.now c.args.second)
    (sym (ap (option_map calendar_seen) c.in-None.is) ∙ c.calendar.ensures)

pub returns-in-Some-clause-answer : goal.returns-in-Some-clause-answer
returns-in-Some-clause-answer g c =
    let links : all_links (map lent_chain c.chains-chains.result.now) ≡ links_of (seen c.args.signature.now) = ap all_links (lent_chains c.chains-chains.result.now ∙ ap plain_chains c.chains-chains.ensures.chains) in
    let calendar : Some (calendar_of c.lent_calendar-part.result) ≡ (seen c.args.signature.now).calendar = ap (λ (x : Calendar). Some x) c.lent_calendar-part.ensures ∙ sym (ap (option_map calendar_seen) c.in-Some.is) ∙ c.calendar.ensures in
    ok_goes_on c.lay_beside.result _ _ c.lay_beside.ensures.audit (λ i. laid_if g.C.Compress.image c.args.calendar.now c.args.items.now (links i) c.args.hash.now c.args.second (calendar i))

pub returns-in-Some-clause-memory : goal.returns-in-Some-clause-memory
returns-in-Some-clause-memory g c =
    let links : all_links (map lent_chain c.chains-chains.result.now) ≡ links_of (seen c.args.signature.now) = ap all_links (lent_chains c.chains-chains.result.now ∙ ap plain_chains c.chains-chains.ensures.chains) in
    let calendar : Some (calendar_of c.lent_calendar-part.result) ≡ (seen c.args.signature.now).calendar = ap (λ (x : Calendar). Some x) c.lent_calendar-part.ensures ∙ sym (ap (option_map calendar_seen) c.in-Some.is) ∙ c.calendar.ensures in
    let over : List PlainLink → Option Calendar → Audit = λ l chain. laid_if g.C.Compress.image c.args.calendar.now c.args.items.now l c.args.hash.now c.args.second chain in
    let same : over (all_links (map lent_chain c.chains-chains.result.now)) (Some (calendar_of c.lent_calendar-part.result)) ≡ over (links_of (seen c.args.signature.now)) (seen c.args.signature.now).calendar = λ i. over (links i) (calendar i) in
    err_has c.lay_beside.result c.lay_beside.ensures.memory (subst HasClash same)
