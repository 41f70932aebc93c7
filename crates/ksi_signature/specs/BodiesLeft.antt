-- The references or repositories of a record that a walk has not yet returned.
use Rattle.std.specs.Prelude.{ℕ, List}
use Rattle.ksi_tlv.specs.Views.{rest}
use Rattle.ksi_tlv.specs.Inside.{whole}
use Rattle.ksi_signature.specs.Contents.{bodies_of}
use Rattle.ksi_signature.specs.declared.body_views.BodyViews.{BodyViews}

abbrev pub bodies_left : BodyViews → List (List ℕ)
bodies_left bodies = bodies_of bodies.kind (whole (rest bodies.elements))
