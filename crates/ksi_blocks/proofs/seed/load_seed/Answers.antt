use Rattle.std.proofs.Common.{rules}
use Rattle.ksi_blocks.specs.Loading.{loaded}
use Rattle.ksi_blocks.specs.Seeds.{seed_in, seed_or_bad}
use Rattle.ksi_blocks.proofs.Outcomes.{ends, goes_on}
use Rattle.ksi_blocks.proofs.seed.load_seed.Goals as goal

pub returns-in_err-text-clause-told : goal.returns-in_err-text-clause-told
returns-in_err-text-clause-told g c = λ tells. ends (loaded 2 65 (g.F.Files.held c.args.files.now c.args.name.now)) (λ text. seed_or_bad (seed_in text)) _ _ (c.in_err-text.ensures.told tells) (search rules)

pub returns-clause-told : goal.returns-clause-told
returns-clause-told g c = λ tells. goes_on (loaded 2 65 (g.F.Files.held c.args.files.now c.args.name.now)) (λ text. seed_or_bad (seed_in text)) _ _ (c.in_ok-text.ensures.told tells) (rw c.as_slice.ensures at c.seed_or_bad.ensures)
