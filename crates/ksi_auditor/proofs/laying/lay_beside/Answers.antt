use Rattle.std.proofs.Common.{map, subst}
use Rattle.ksi_verifier.specs.Leading.{all_links}
use Rattle.ksi_verifier.specs.Lent.{calendar_of}
use Rattle.ksi_auditor.specs.Audit.{laid_over}
use Rattle.ksi_auditor.specs.Shown.{HasClash}
use Rattle.ksi_auditor.proofs.Beneath.{above_apart, above_clash, above_none}
use Rattle.ksi_auditor.proofs.Chaining.{ok_goes_on, err_told, err_has}
use Rattle.ksi_auditor.proofs.laying.lay_beside.Goals as goal

pub returns-in_err-above-clause-memory : goal.returns-in_err-above-clause-memory
returns-in_err-above-clause-memory g c =
    let links = all_links (map g.T.LaidChain.plain c.args.chains.now) in
    err_told c.from_residual.result (HasClash (laid_over g.C.Compress.image c.args.calendar.now c.args.items.now links c.args.hash.now c.args.second (calendar_of c.args.part.now)))
    (above_apart g.C.Compress.image c.args.calendar.now c.args.items.now links c.args.hash.now c.args.second (calendar_of c.args.part.now) c.in_err-above.ensures.memory)

pub returns-in-Some-clause-audit : goal.returns-in-Some-clause-audit
returns-in-Some-clause-audit g c =
    let links = all_links (map g.T.LaidChain.plain c.args.chains.now) in
    above_clash g.C.Compress.image c.args.calendar.now c.args.items.now links c.args.hash.now c.args.second (calendar_of c.args.part.now) c.in_ok-above.above c.clash.result c.in_ok-above.ensures.walk c.clash.ensures.clash c.in-Some.clash c.in-Some.is

pub returns-in-None-clause-audit : goal.returns-in-None-clause-audit
returns-in-None-clause-audit g c =
    let links = all_links (map g.T.LaidChain.plain c.args.chains.now) in
    ok_goes_on c.lay_below.result _ _ c.lay_below.ensures.audit
    (above_none g.C.Compress.image c.args.calendar.now c.args.items.now links c.args.hash.now c.args.second (calendar_of c.args.part.now) c.in_ok-above.above c.clash.result c.in_ok-above.ensures.walk c.clash.ensures.clash c.in-None.is)

pub returns-in-None-clause-memory : goal.returns-in-None-clause-memory
returns-in-None-clause-memory g c =
    let links = all_links (map g.T.LaidChain.plain c.args.chains.now) in
    err_has c.lay_below.result c.lay_below.ensures.memory
    (subst HasClash (above_none g.C.Compress.image c.args.calendar.now c.args.items.now links c.args.hash.now c.args.second (calendar_of c.args.part.now) c.in_ok-above.above c.clash.result c.in_ok-above.ensures.walk c.clash.ensures.clash c.in-None.is))
