use Rattle.ksi_mirror.proofs.ByKeys.{said_ok, said_err, merging_start, merging_step, merging_done, merging_differs}
use Rattle.ksi_mirror.proofs.uniting.united.Goals as goal

pub merging-init : goal.merging-init
merging-init g c = merging_start g.E.Keyed.key c.args.one.now c.args.two.now c.new-merged.result.items c.new-merged.ensures.items c.requires.one c.requires.two

pub merging-preserved : goal.merging-preserved
merging-preserved g c =
    merging_step g.E.Keyed.key c.args.one.now c.args.two.now c.merging.merged.items c.merging.left.now c.merging.right.now c.push_copy.new.merged.items c.in-Ok.entry.now c.in-Ok.others.now c.in-Ok.further.now
    c.merging.invariant (said_ok g.E.Keyed.key c.merging.left.now c.merging.right.now c.in-Some.next (c.in-Ok.entry, c.in-Ok.others, c.in-Ok.further) c.in-Some.ensures c.in-Ok.is) c.in_ok-push_copy-in-Ok.ensures

pub returns-in-Err-clause-refused : goal.returns-in-Err-clause-refused
returns-in-Err-clause-refused g c =
    merging_differs g.E.Keyed.key c.args.one.now c.args.two.now c.merging.merged.items c.merging.left.now c.merging.right.now c.merging.invariant c.in-Err.both.0.now c.in-Err.both.1.now
    (said_err g.E.Keyed.key c.merging.left.now c.merging.right.now c.in-Some.next c.in-Err.both c.in-Some.ensures c.in-Err.is)

pub returns-clause-united : goal.returns-clause-united
returns-clause-united g c =
    merging_done g.E.Keyed.key c.args.one.now c.args.two.now c.merging.merged.items c.merging.left.now c.merging.right.now c.merging.invariant c.in_default.ensures.0 c.in_default.ensures.1
