use Rattle.ksi_world.specs.Histories.{first_world}
use Rattle.ksi_world.proofs.nodes.Nodes.new.Goals as goal

pub returns : goal.returns
unfolding first_world
returns g c = record {
  cores = let are = c.in_ok-cores.ensures in record { many = are.many; each = are.each };
  aggregators = let are = c.in_ok-aggregators.ensures in record { many = are.many; each = are.each };
  wire = c.new-wire.ensures;
  requests = c.new-requests.ensures.items;
  published = c.new-published.ensures;
}
