use Rattle.std.proofs.Common.{◌≡◌}
use Rattle.ksi_tlv.specs.Walking.{elements}
use Rattle.ksi_tlv.specs.Views.{rest}
use Rattle.ksi_tlv.specs.Order.{walked}
use Rattle.ksi_tlv.specs.Sequence.{IsWanting}
use Rattle.ksi_tlv.proofs.order.walking.go.Given as goal

-- what is left gives what the whole gives, and memory that is wanting behind is wanting in the whole
abbrev pub invariant-walking : goal.invariant-walking
invariant-walking g l = record {
  left : walked g.S.Ordered.order l.end (rest l.elements) l.state ≡ walked g.S.Ordered.order l.end (elements l.place l.bytes) l.fn.state;
  behind : IsWanting g.S.Ordered.order g.S.Ordered.wants (rest l.elements) l.state → IsWanting g.S.Ordered.order g.S.Ordered.wants (elements l.place l.bytes) l.fn.state;
}
