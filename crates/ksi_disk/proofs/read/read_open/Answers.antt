use Rattle.std.proofs.Common.{◌≡◌, ◌+◌, List, take, drop, subst, arith, length-drop, IfOk}
use Rattle.ksi_disk.specs.declared.front.Front.TheVariants as front
use Rattle.ksi_disk.proofs.Steps.{open_whole}
use Rattle.ksi_disk.proofs.read.read_open.Goals as goal

pub returns-clause-front : goal.returns-clause-front
returns-clause-front g c =
    let file = g.D.Disk.content c.args.disk.now in
    let found = subst (λ (l : List _). IfOk c.read_content.result (λ found. found ≡ front.Whole (take c.in_ok-count.count (drop (c.args.place + 4) l)))) c.in_ok-count.ensures.stays c.read_content.ensures.content in
    open_whole file c.args.place c.in_ok-count.count c.read_content.result c.in_ok-count.ensures.value (omega (arith, length-drop c.args.place file)) found
