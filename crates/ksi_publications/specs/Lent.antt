-- The value of a borrowed publications file.
use Rattle.std.specs.Prelude.{ℕ, List}
use Rattle.ksi_tlv.specs.Walking.{elements}
use Rattle.ksi_tlv.specs.Inside.{whole}
use Rattle.ksi_publications.specs.declared.publications_view.PublicationsView.{PublicationsView}
use Rattle.ksi_publications.specs.File.{pairs_of}

-- its times and hashes, in order
abbrev pub lent_pairs : PublicationsView → List (ℕ × List ℕ)
lent_pairs view = pairs_of (whole (elements 8 view.rest.now))
