use Rattle.std.proofs.Common.{◌≡◌, []}
use Rattle.ksi_beside.specs.Beside.{Rung, calendar_rung_from, calendar_rungs_from}
use Rattle.ksi_beside.specs.declared.walk.Walk.TheVariants.{At}
use Rattle.ksi_beside.specs.Walks.{go}
use Rattle.ksi_beside.proofs.Going.{ok_goes_on, err_goes_on, err_told, calendar_down, calendar_apart}
use Rattle.ksi_beside.proofs.walk.+down_calendar.Goals as goal

pub returns-in_err-walk-clause-memory : goal.returns-in_err-walk-clause-memory
returns-in_err-walk-clause-memory g t c =
    let link = c.in-Some.first.0.now in
    let rung : Rung = record { side = link.side; below = c.args.below.now; sibling = c.bytes.result.now; level = 255 } in
    let is : rung ≡ calendar_rung_from c.args.below.now link = λ i. record { side = link.side; below = c.args.below.now; sibling = c.bytes.ensures.value i; level = 255 } in
    err_told c.from_residual.result (go (g.K.KeptTree.text c.args.tree.now) (At []) (calendar_rungs_from g.C.Compress.image c.args.below.now c.args.links.now))
    (calendar_apart g.C.Compress.image (g.K.KeptTree.text c.args.tree.now) (At []) rung c.args.below.now c.join_of-above.result link c.in-Some.first.1.now c.args.links.now c.in-Some.ensures.cases.0 is c.join_of-above.ensures c.in_err-walk.ensures.memory)

pub returns-clause-walk : goal.returns-clause-walk
returns-clause-walk g t c =
    let link = c.in-Some.first.0.now in
    let rung : Rung = record { side = link.side; below = c.args.below.now; sibling = c.bytes.result.now; level = 255 } in
    let is : rung ≡ calendar_rung_from c.args.below.now link = λ i. record { side = link.side; below = c.args.below.now; sibling = c.bytes.ensures.value i; level = 255 } in
    ok_goes_on c.step.result _ _ c.step.ensures.next
    (calendar_down g.C.Compress.image (g.K.KeptTree.text c.args.tree.now) (At []) rung c.args.below.now c.join_of-above.result link c.in-Some.first.1.now c.args.links.now c.in-Some.ensures.cases.0 is c.join_of-above.ensures c.in_ok-walk.walk c.in_ok-walk.ensures.walk)

pub returns-clause-memory : goal.returns-clause-memory
returns-clause-memory g t c =
    let link = c.in-Some.first.0.now in
    let rung : Rung = record { side = link.side; below = c.args.below.now; sibling = c.bytes.result.now; level = 255 } in
    let is : rung ≡ calendar_rung_from c.args.below.now link = λ i. record { side = link.side; below = c.args.below.now; sibling = c.bytes.ensures.value i; level = 255 } in
    err_goes_on c.step.result _ _ c.step.ensures.memory
    (calendar_down g.C.Compress.image (g.K.KeptTree.text c.args.tree.now) (At []) rung c.args.below.now c.join_of-above.result link c.in-Some.first.1.now c.args.links.now c.in-Some.ensures.cases.0 is c.join_of-above.ensures c.in_ok-walk.walk c.in_ok-walk.ensures.walk)
