use Rattle.std.proofs.Common.{◌≡◌, true, sym, subst}
use Rattle.ksi_signature.specs.Above.{AreRoundLinks}
use Rattle.ksi_signature.specs.Values.{Aggregation}
use Rattle.ksi_wire.specs.AskedAbove.{has_round_links}
use Rattle.ksi_wire.proofs.RoundLinks.{round_links_of}
use Rattle.ksi_wire.proofs.above.as_above.Goals as goal

pub from_vec-requires : goal.from_vec-requires
from_vec-requires c =
    subst AreRoundLinks (sym c.into_vec.ensures) (round_links_of c.chain.inside.links (subst (λ (chain : Aggregation). has_round_links chain ≡ true) (sym c.chain.view_is) c.requires))
