use Rattle.std.proofs.Common.{◌≡◌, ◌+◌, ◌-◌, length}
use Rattle.std.specs.List.{AllByRecursion}
use Rattle.std.specs.Prelude.{IsTrue}
use Rattle.ksi_imprint.specs.Imprints.{IsImprint}
use Rattle.ksi_calendar_files.specs.File.{first_second}
use Rattle.ksi_calendar_folder.specs.Folder.{all_full, full_from, folder_of}
use Rattle.ksi_calendar_folder.proofs.gathering.add_full.Given as goal

-- the full files before this number are added
abbrev pub invariant-files : goal.invariant-files
invariant-files g l = record {
  so_far : IsTrue g.F.Files.tells → all_full l.last (folder_of (g.F.Files.held l.fn.files) l.folder) ≡ full_from l.last (folder_of (g.F.Files.held l.fn.files) l.folder) l.calendar.roots l.number (l.last.number - l.number);
  stays : g.F.Files.held l.files ≡ g.F.Files.held l.fn.files;
  start : l.calendar.start ≡ l.last.start;
  end : l.calendar.start + length l.calendar.roots ≡ first_second l.last.start l.number;
  imprints : AllByRecursion IsImprint l.calendar.roots;
}
