use Rattle.std.proofs.Common.{◌≡◌, ◌+◌, ◌<◌, List, ℕ, drop, length, subst, sym, arith, IsTrue}
use Rattle.ksi_disk.specs.Gates.{is_whole, reading_at}
use Rattle.ksi_disk.specs.Reads.{IfWanting}
use Rattle.ksi_disk.proofs.Steps.{wanting_by, whole_is_read}
use Rattle.ksi_disk.proofs.read.read_front.Goals as goal

pub returns-clause-wanting : goal.returns-clause-wanting
returns-clause-wanting g c =
    let file = g.D.Disk.content c.args.disk.now in
    let place = c.args.place in
    let gate = c.in_ok-read_gate.field-0 in
    let is_open : gate ≡ 1 = omega arith in
    wanting_by c.read_open.result (IsTrue (is_whole (drop (place + 1) file))) _
    (λ whole. subst (λ (l : List ℕ). 0 < length (reading_at place l).records) (sym c.in_ok-read_gate.ensures.gate) (whole_is_read place gate (drop (place + 1) file) is_open whole))
    (subst (λ (l : List ℕ). IfWanting c.read_open.result (IsTrue (is_whole (drop (place + 1) l)))) c.in_ok-read_gate.ensures.stays c.read_open.ensures.wanting)
