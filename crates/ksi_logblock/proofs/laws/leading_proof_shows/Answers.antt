use Rattle.std.proofs.Common.{refl}
use Rattle.ksi_logblock.specs.Locating.{located}
use Rattle.ksi_logblock.proofs.Standing.{stands}
use Rattle.ksi_logblock.proofs.laws.leading_proof_shows.Goals as goal

pub returns : goal.returns
returns c = λ image block line proof imprints some has leads.
    stands image block line proof (located image block line proof) refl leads (c.location_shows.ensures.shows image block line proof imprints some has.mask has.siblings)
