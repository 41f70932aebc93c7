use Rattle.std.proofs.Common.{◌≡◌, ◌++◌, ◌∷◌, map, drop, take}
use Rattle.std.specs.List.{AllByRecursion}
use Rattle.ksi_imprint.specs.Imprints.{IsImprint}
use Rattle.ksi_tlv.specs.Writing.{texts}
use Rattle.ksi_publications.specs.File.{header_element, record_element}
use Rattle.ksi_publications.proofs.writer.elements.Given as goal

abbrev pub invariant-loop-pair : goal.invariant-loop-pair
invariant-loop-pair l =
    (l.writer ++ texts (map record_element (drop l.pair-index l.pairs)) ≡ texts (header_element l.creation ∷ map record_element l.pairs))
    × AllByRecursion (λ pair. IsImprint pair.1) (take l.pair-index l.pairs)
