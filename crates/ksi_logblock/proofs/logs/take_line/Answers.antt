use Rattle.std.proofs.Common.{◌≡◌, ◌≢◌, ◌<◌, length, Err, refl, arith, inl, inr}
use Rattle.ksi_imprint.specs.declared.refused.Refused.TheVariants as refused
use Rattle.ksi_logblock.specs.declared.block.PushRefusal.TheVariants as push
use Rattle.ksi_logblock.proofs.Cases.{le_cases}
use Rattle.ksi_logblock.proofs.logs.take_line.Goals as goal

pub returns-in-Ok-clause-short : goal.returns-in-Ok-clause-short
returns-in-Ok-clause-short g c = λ e.
    let other : length c.args.block.now.lines ≢ 65536 = λ n. (let full : c.push.result ≡ Err (refused.Fault push.Full) = c.push.ensures.full.1 n in absurd cc) in
    let room : length c.args.block.now.lines < 65536 = omega (arith, c.count-count.ensures.few, other) in
    elim (le_cases (length c.args.line.now) 8000) [
      | inl short ↦ short
      | inr long ↦ (let is : c.push.result ≡ Err (refused.Fault (push.LineTooLong (length c.args.line.now))) = (c.push.ensures.long (length c.args.line.now)).1 (room, refl, long) in absurd cc)
    ]

pub returns-in-Err-Fault-LineTooLong-clause-refused : goal.returns-in-Err-Fault-LineTooLong-clause-refused
returns-in-Err-Fault-LineTooLong-clause-refused g c =
    let size = c.in-Err-Fault-LineTooLong.size in
    let is : c.push.result ≡ Err (refused.Fault (push.LineTooLong size)) = cc in
    let long = (c.push.ensures.long size).0 is in
    (c.count-count.ensures.count, omega (arith, long.0, c.count-count.ensures.count), long.1, long.2)
