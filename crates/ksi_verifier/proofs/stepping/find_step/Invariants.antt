use Rattle.std.proofs.Common.{◌≡◌, drop, map}
use Rattle.std.specs.Prelude.{option_map}
use Rattle.std.specs.List.{slice_get}
use Rattle.ksi_verifier.specs.Lent.{calendar_of, lent_chain}
use Rattle.ksi_verifier.specs.Steps.{steps_from}
use Rattle.ksi_verifier.proofs.stepping.find_step.Given as goal

abbrev pub invariant-loop-chain : goal.invariant-loop-chain
invariant-loop-chain g l =
    slice_get (steps_from g.C.Compress.image l.chain l.level (drop l.chain (map lent_chain l.chains)) (option_map calendar_of l.calendar)) l.rest
    ≡ slice_get (steps_from g.C.Compress.image 0 0 (map lent_chain l.fn.chains) (option_map calendar_of l.fn.calendar)) l.fn.number
