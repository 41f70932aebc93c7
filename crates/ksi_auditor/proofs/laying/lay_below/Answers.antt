use Rattle.std.proofs.Common.{[], map, ap, ◌∙◌}
use Rattle.ksi_auditor.specs.Audit.{compared}
use Rattle.ksi_auditor.specs.Shown.{HasClash}
use Rattle.ksi_auditor.specs.declared.answer.Audit.TheVariants as answers
use Rattle.ksi_verifier.specs.Leading.{all_links}
use Rattle.ksi_auditor.proofs.Chaining.{err_told}
use Rattle.ksi_auditor.proofs.Outcomes.{apart_below, clash_below, inside_at, beneath_at}
use Rattle.ksi_auditor.proofs.laying.lay_below.Goals as goal

pub returns-in_err-walk-clause-memory : goal.returns-in_err-walk-clause-memory
returns-in_err-walk-clause-memory g c =
    let links = all_links (map g.T.LaidChain.plain c.args.chains.now) in
    err_told c.from_residual.result (HasClash (compared g.C.Compress.image c.args.items.now links c.args.hash.now c.args.second []))
    (apart_below g.C.Compress.image c.args.items.now links c.args.hash.now c.args.second c.in_err-walk.ensures.memory)

pub returns-in-Apart-clause-audit : goal.returns-in-Apart-clause-audit
returns-in-Apart-clause-audit g c = clash_below g.C.Compress.image c.args.items.now (all_links (map g.T.LaidChain.plain c.args.chains.now)) c.args.hash.now c.args.second c.in_ok-walk.walk c.in_ok-walk.ensures.walk c.in-Apart.clash c.in-Apart.is

pub returns-in-At-clause-audit : goal.returns-in-At-clause-audit
returns-in-At-clause-audit g c =
    ap (answers.Inside c.args.second) c.way.ensures ∙ inside_at g.C.Compress.image c.args.items.now (all_links (map g.T.LaidChain.plain c.args.chains.now)) c.args.hash.now c.args.second c.in_ok-walk.walk c.in_ok-walk.ensures.walk c.in-At.place c.in-At.is

pub beneath-requires-clause-some : goal.beneath-requires-clause-some
beneath-requires-clause-some g c =
    (beneath_at g.C.Compress.image c.args.items.now (all_links (map g.T.LaidChain.plain c.args.chains.now)) c.args.hash.now c.args.second c.in_ok-walk.walk c.in_ok-walk.ensures.walk c.in-Past.place c.count_of-links.result c.in-Past.is c.count_of-links.ensures).0

pub returns-in-Past-clause-audit : goal.returns-in-Past-clause-audit
returns-in-Past-clause-audit g c =
    c.beneath.ensures
    ∙ (beneath_at g.C.Compress.image c.args.items.now (all_links (map g.T.LaidChain.plain c.args.chains.now)) c.args.hash.now c.args.second c.in_ok-walk.walk c.in_ok-walk.ensures.walk c.in-Past.place c.count_of-links.result c.in-Past.is c.count_of-links.ensures).1
