use Rattle.std.proofs.Common.{◌≡◌, ◌++◌, ◌∷◌, [], codes}
use Rattle.std.specs.Fmt.{decimal}
use Rattle.ksi_schedule.specs.Printed.{line_of, version_word}
use Rattle.ksi_schedule.proofs.Texts.{header_told}
use Rattle.ksi_schedule.proofs.printing.put_header.Goals as goal

pub returns : goal.returns
returns c =
    let title : c.put_word.new.text.items ≡ c.args.text.now.items ++ (line_of (codes "ksi-schedule" ∷ version_word c.args.version ∷ []) ++ 10 ∷ []) = rw c.version_word.ensures at c.in_ok-put_word.ensures in
    let cores : c.put_count.new.text.items ≡ c.put_word.new.text.items ++ (line_of (codes "cores" ∷ decimal c.args.plan.now.cores ∷ []) ++ 10 ∷ []) = rw (c.from.ensures, c.cores.ensures.cores) at c.in_ok-put_count.ensures in
    let start : c.put_count-2.new.text.items ≡ c.put_count.new.text.items ++ (line_of (codes "start" ∷ decimal c.args.plan.now.start ∷ []) ++ 10 ∷ []) = rw c.start.ensures at c.in_ok-put_count-2.ensures in
    header_told c.args.version c.args.plan.now c.args.text.now.items c.put_word.new.text.items c.put_count.new.text.items c.put_count-2.new.text.items title cores start
