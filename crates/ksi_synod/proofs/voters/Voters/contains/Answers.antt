use Rattle.std.proofs.Common.{ap, ◌∙◌, arith}
use Rattle.std.proofs.lemmas.Bool.{le-ltb}
use Rattle.ksi_synod.specs.Voters.{is_voter}
use Rattle.ksi_synod.proofs.FlagLemmas.{is_voter-flagged, is_voter-none}
use Rattle.ksi_synod.proofs.voters.Voters.contains.Goals as goal

pub returns-then-core-lt9 : goal.returns-then-core-lt9
returns-then-core-lt9 c = is_voter-flagged c.self.inside.flags c.args.core (omega arith) ∙ ap (λ voters. is_voter voters c.args.core) c.self.view_is

pub returns-else-core-lt9 : goal.returns-else-core-lt9
returns-else-core-lt9 c = le-ltb c.args.core 9 (omega arith) ∙ is_voter-none c.self.inside.flags c.args.core (omega arith) ∙ ap (λ voters. is_voter voters c.args.core) c.self.view_is
