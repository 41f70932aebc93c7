-- What the type of a link keeps.
use Rattle.std.specs.Prelude.{◌<◌}
use Rattle.ksi_imprint.specs.Imprints.{IsImprint}
use Rattle.ksi_logblock.specs.declared.line_proof.LineLink.{LineLink}

pub record IsLineLink (link : LineLink) : Type 0 where
  pub correction : link.correction < 256
  pub imprint : IsImprint link.sibling
