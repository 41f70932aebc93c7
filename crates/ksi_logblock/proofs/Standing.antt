-- Whatever leads to the root of a block stands in it, or there is a clash.
use Rattle.std.proofs.Common.{◌≡◌, ℕ, List, inl, inr}
use Rattle.ksi_logblock.specs.declared.line_proof.LineProof.{LineProof}
use Rattle.ksi_logblock.specs.declared.locating.Located.{Located}
use Rattle.ksi_logblock.specs.declared.locating.Located.TheVariants.{NotAccepted, In, Clash}
use Rattle.ksi_logblock.specs.declared.locating.LineRefusal.TheVariants.{Level, RootDiffers}
use Rattle.ksi_logblock.specs.Blocks.{Masked}
use Rattle.ksi_logblock.specs.Locating.{located}
use Rattle.ksi_logblock.specs.Shown.{LeadsToRoot, Shows, StandsOrClash}

pub stands : (image : List ℕ → List ℕ) (block : Masked) (line : List ℕ) (proof : LineProof) (answer : Located) → located image block line proof ≡ answer → LeadsToRoot image block line proof → Shows image block line proof answer → StandsOrClash image block line proof
stands image block line proof (NotAccepted (Level fault)) is leads shown = absurd (cc (leads, shown))
stands image block line proof (NotAccepted (RootDiffers computed kept)) is leads shown = absurd (shown.2 (cc (leads, shown.0, shown.1)))
stands image block line proof (In k) is leads shown = inl (k, shown.1)
stands image block line proof (Clash clash) is leads shown = inr (clash, is, shown.1)
