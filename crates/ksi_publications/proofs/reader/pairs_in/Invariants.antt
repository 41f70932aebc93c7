use Rattle.std.proofs.Common.{◌≡◌, ◌++◌}
use Rattle.std.specs.List.{AllByRecursion}
use Rattle.ksi_tlv.specs.Views.{rest}
use Rattle.ksi_tlv.specs.Walking.{elements}
use Rattle.ksi_tlv.specs.Valid.{MayStand}
use Rattle.ksi_tlv.specs.Inside.{whole}
use Rattle.ksi_publications.specs.Tables.{file_table}
use Rattle.ksi_publications.specs.File.{pairs_of}
use Rattle.ksi_publications.proofs.reader.pairs_in.Given as goal

abbrev pub invariant-loop-item : goal.invariant-loop-item
invariant-loop-item l =
    (l.pairs.items ++ pairs_of (whole (rest l.elements)) ≡ pairs_of (whole (elements 8 l.rest)))
    × AllByRecursion (MayStand file_table) (whole (rest l.elements))
