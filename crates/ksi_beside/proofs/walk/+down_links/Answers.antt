use Rattle.std.proofs.Common.{◌≡◌, ◌+◌, map}
use Rattle.ksi_beside.specs.Beside.{Rung, rung_from, rungs_from}
use Rattle.ksi_beside.specs.Walks.{go}
use Rattle.ksi_beside.proofs.Going.{ok_goes_on, err_goes_on, err_told, chain_down, chain_apart}
use Rattle.ksi_beside.proofs.walk.+down_links.Goals as goal

pub returns-in_err-walk-clause-memory : goal.returns-in_err-walk-clause-memory
returns-in_err-walk-clause-memory g t c =
    let plain = g.L.ChainLink.plain in
    let below = c.args.below.now in
    let rung : Rung = record { side = c.side.result; below = below.imprint; sibling = c.sibling.result.now; level = below.level + c.correction.result + 1 } in
    let is : rung ≡ rung_from below (plain c.in-Some.first.0.now) = λ i. record { side = c.side.ensures i; below = below.imprint; sibling = c.sibling.ensures i; level = below.level + c.correction.ensures i + 1 } in
    err_told c.from_residual.result (go (g.K.KeptTree.text c.args.tree.now) c.args.start (rungs_from g.C.Compress.image below (map plain c.args.links.now)))
    (chain_apart g.C.Compress.image (g.K.KeptTree.text c.args.tree.now) c.args.start rung below (record { imprint = c.join_of.result; level = rung.level }) (plain c.in-Some.first.0.now) (map plain c.in-Some.first.1.now) (map plain c.args.links.now)
    (λ i. map plain (c.in-Some.ensures.cases.0 i)) is (λ i. record { imprint = c.join_of.ensures i; level = rung.level }) c.in_err-walk.ensures.memory)

pub returns-clause-walk : goal.returns-clause-walk
returns-clause-walk g t c =
    let plain = g.L.ChainLink.plain in
    let below = c.args.below.now in
    let rung : Rung = record { side = c.side.result; below = below.imprint; sibling = c.sibling.result.now; level = below.level + c.correction.result + 1 } in
    let is : rung ≡ rung_from below (plain c.in-Some.first.0.now) = λ i. record { side = c.side.ensures i; below = below.imprint; sibling = c.sibling.ensures i; level = below.level + c.correction.ensures i + 1 } in
    ok_goes_on c.step.result _ _ c.step.ensures.next
    (chain_down g.C.Compress.image (g.K.KeptTree.text c.args.tree.now) c.args.start rung below (record { imprint = c.join_of.result; level = rung.level }) (plain c.in-Some.first.0.now) (map plain c.in-Some.first.1.now) (map plain c.args.links.now)
    (λ i. map plain (c.in-Some.ensures.cases.0 i)) is (λ i. record { imprint = c.join_of.ensures i; level = rung.level }) c.in_ok-walk.walk c.in_ok-walk.ensures.walk)

pub returns-clause-memory : goal.returns-clause-memory
returns-clause-memory g t c =
    let plain = g.L.ChainLink.plain in
    let below = c.args.below.now in
    let rung : Rung = record { side = c.side.result; below = below.imprint; sibling = c.sibling.result.now; level = below.level + c.correction.result + 1 } in
    let is : rung ≡ rung_from below (plain c.in-Some.first.0.now) = λ i. record { side = c.side.ensures i; below = below.imprint; sibling = c.sibling.ensures i; level = below.level + c.correction.ensures i + 1 } in
    err_goes_on c.step.result _ _ c.step.ensures.memory
    (chain_down g.C.Compress.image (g.K.KeptTree.text c.args.tree.now) c.args.start rung below (record { imprint = c.join_of.result; level = rung.level }) (plain c.in-Some.first.0.now) (map plain c.in-Some.first.1.now) (map plain c.args.links.now)
    (λ i. map plain (c.in-Some.ensures.cases.0 i)) is (λ i. record { imprint = c.join_of.ensures i; level = rung.level }) c.in_ok-walk.walk c.in_ok-walk.ensures.walk)
