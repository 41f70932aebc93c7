use Rattle.ksi_schedule.specs.declared.event.Event.TheVariants.{Deliver}
use Rattle.ksi_replay.specs.Making.{happen}
use Rattle.ksi_replay.proofs.Loops.{times_next}
use Rattle.ksi_replay.proofs.maker.Maker.repeat.Goals as goal

pub copies-preserved : goal.copies-preserved
copies-preserved c = times_next (happen (Deliver c.args.number)) c.copies._copy c.args.self.now c.copies.self c.happen.new.self c.copies.invariant c.in_ok-happen.ensures
