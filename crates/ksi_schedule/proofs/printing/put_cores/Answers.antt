use Rattle.std.proofs.Common.{sym, ◌∙◌, refl}
use Rattle.ksi_schedule.proofs.Texts.{core_told, no_core_told}
use Rattle.ksi_schedule.proofs.printing.put_cores.Goals as goal
use Rattle.ksi_schedule.proofs.printing.put_cores.Goals.{then-contains+in_ok-push+in_ok-put_piece, else-contains}

pub loop-core-preserved : goal.loop-core-preserved
loop-core-preserved c = elim c.if-contains.branch [
  | then-contains+in_ok-push+in_ok-put_piece w ↦
      core_told c.args.text.now.items c.loop-core.text.items w.push.new.self.items c.if-contains.text.items c.args.voters.now c.loop-core.core (sym c.contains.ensures ∙ w.if-contains.true) c.loop-core.invariant
      w.in_ok-push.ensures.items (rw w.text-is w.in_ok-put_piece.ensures)
  | else-contains w ↦
      no_core_told c.args.text.now.items c.loop-core.text.items c.if-contains.text.items c.args.voters.now c.loop-core.core (sym c.contains.ensures ∙ w.if-contains.false) c.loop-core.invariant
      (rw w.text-is refl)
]
