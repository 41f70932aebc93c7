use Rattle.ksi_schedule.proofs.growing.+reaches_core.Given as goal

abbrev pub decreases-reaches_core : goal.decreases-reaches_core
decreases-reaches_core l = l.steps
