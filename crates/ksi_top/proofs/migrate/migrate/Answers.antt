use Rattle.std.proofs.Common.{rules}
use Rattle.ksi_imprint.specs.Imprints.{imprint_of}
use Rattle.ksi_top.specs.Migrate.{migrated}
use Rattle.ksi_top.proofs.Ends.{ends_as, saving_ends}
use Rattle.ksi_top.proofs.Migrating.{migrate_means}
use Rattle.ksi_top.proofs.Performing.{halted_last, performed_last}
use Rattle.ksi_top.proofs.migrate.migrate.Goals as goal

pub returns-in_err-journal : goal.returns-in_err-journal
returns-in_err-journal g c =
    halted_last g.F.Files _ _ _ _ (λ j held. migrated c.args.new.now j) _ _ _ _ _ (λ j. saving_ends _ _ _) c.in_err-journal.ensures.loaded (search rules)

pub returns : goal.returns
returns g c =
    performed_last g.F.Files _ _ _ _ (λ j held. migrated c.args.new.now j) _ _ _ _ c.migrated.result _
    (saving_ends _ _ _) c.in_ok-journal.ensures.loaded c.ended.ensures (ends_as 1 _ _ c.migrated.ensures.migrated (saving_ends _ _ _)) (λ tells. c.migrated.ensures.migrated)
    (λ tells. migrate_means (c.journal_is_read.ensures.journal imprint_of) (c.file_is_journal.ensures.shortest imprint_of) _ _ _ _ c.migrated.result (c.in_ok-journal.ensures.loaded.told tells) (c.in_ok-journal.ensures.is tells) (c.in_ok-journal.ensures.bytes tells) c.migrated.ensures.migrated c.migrated.ensures.again)
