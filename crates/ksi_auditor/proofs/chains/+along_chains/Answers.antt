use Rattle.std.proofs.Common.{rules, [], map, ap}
use Rattle.ksi_beside.specs.Beside.{IsApart, laid_from, rungs_from}
use Rattle.ksi_verifier.specs.Leading.{all_links}
use Rattle.ksi_auditor.proofs.Chaining.{ok_goes_on, err_told, err_goes_on, first_low, higher_low, chain_down, chain_apart}
use Rattle.ksi_auditor.proofs.chains.+along_chains.Goals as goal

pub top-top-requires : goal.top-top-requires
top-top-requires g t c =
    let plain = g.T.LaidChain.plain in
    first_low c.args.below.now.level (plain c.in-Some.first.0.now) (map plain c.in-Some.first.1.now) (map plain c.args.chains.now) (ap (map plain) c.in-Some.ensures.cases.0) c.requires

pub along_chains-requires : goal.along_chains-requires
along_chains-requires g t c =
    let plain = g.T.LaidChain.plain in
    let low = higher_low g.C.Compress.image c.args.below.now c.top-top.result (plain c.in-Some.first.0.now) (map plain c.in-Some.first.1.now) (map plain c.args.chains.now)
    (ap (map plain) c.in-Some.ensures.cases.0) c.top-top.ensures c.requires in
    λ κs below. (search rules, (search rules, (search rules, (search rules, low))))

pub along-requires : goal.along-requires
along-requires g t c =
    let plain = g.T.LaidChain.plain in
    record {
      levels = first_low c.args.below.now.level (plain c.in-Some.first.0.now) (map plain c.in-Some.first.1.now) (map plain c.args.chains.now) (ap (map plain) c.in-Some.ensures.cases.0) c.requires;
      start = c.in_ok-walk.ensures.short;
    }

pub returns-in_err-walk-clause-memory : goal.returns-in_err-walk-clause-memory
returns-in_err-walk-clause-memory g t c =
    let image = g.C.Compress.image in
    let plain = g.T.LaidChain.plain in
    let kept = g.K.KeptTree.text c.args.tree.now in
    let below = c.args.below.now in
    err_told c.from_residual.result (IsApart (laid_from kept [] (rungs_from image below (all_links (map plain c.args.chains.now)))))
    (chain_apart image kept (c.one_after_another.ensures.together kept) below c.top-top.result (plain c.in-Some.first.0.now) (map plain c.in-Some.first.1.now) (map plain c.args.chains.now)
    (ap (map plain) c.in-Some.ensures.cases.0) c.top-top.ensures c.in_err-walk.ensures.memory)

pub returns-clause-walk : goal.returns-clause-walk
returns-clause-walk g t c =
    let image = g.C.Compress.image in
    let plain = g.T.LaidChain.plain in
    let kept = g.K.KeptTree.text c.args.tree.now in
    let below = c.args.below.now in
    ok_goes_on c.along.result _ _ c.along.ensures.walk
    (chain_down image kept (c.one_after_another.ensures.together kept) below c.top-top.result (plain c.in-Some.first.0.now) (map plain c.in-Some.first.1.now) (map plain c.args.chains.now)
    (ap (map plain) c.in-Some.ensures.cases.0) c.top-top.ensures c.in_ok-walk.walk c.in_ok-walk.ensures.walk)

pub returns-clause-memory : goal.returns-clause-memory
returns-clause-memory g t c =
    let image = g.C.Compress.image in
    let plain = g.T.LaidChain.plain in
    let kept = g.K.KeptTree.text c.args.tree.now in
    let below = c.args.below.now in
    err_goes_on c.along.result _ _ c.along.ensures.memory
    (chain_down image kept (c.one_after_another.ensures.together kept) below c.top-top.result (plain c.in-Some.first.0.now) (map plain c.in-Some.first.1.now) (map plain c.args.chains.now)
    (ap (map plain) c.in-Some.ensures.cases.0) c.top-top.ensures c.in_ok-walk.walk c.in_ok-walk.ensures.walk)
