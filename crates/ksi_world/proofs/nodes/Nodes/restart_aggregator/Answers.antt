use Rattle.std.proofs.Common.{refl, sym, subst}
use Rattle.ksi_aggregator.specs.Rows.{round_restarted}
use Rattle.ksi_world.specs.Histories.{happens}
use Rattle.ksi_world.specs.Nodes.{NodesState, Fits}
use Rattle.ksi_world.proofs.Fitting.{round_restarts_fits}
use Rattle.ksi_world.proofs.nodes.Nodes.restart_aggregator.Goals as goal

pub returns : goal.returns
unfolding happens
returns g c = λ plan w fits.
    let fits' = subst (λ (n : NodesState). Fits plan w n) (sym c.self.view_is) fits in (
      record {
        cores = record { many = fits'.cores.many; each = fits'.cores.each };
        aggregators = round_restarts_fits plan w c.self.inside.cores.items c.self.inside.cores.items c.self.inside.aggregators.items c.restart.new.aggregators.items c.self.inside.wire c.self.inside.wire c.self.inside.requests.items c.self.inside.requests.items c.self.inside.published c.self.inside.published fits' round_restarted c.args.aggregator c.restart.ensures;
        wire = fits'.wire;
        requests = fits'.requests;
        published = fits'.published;
      },
      refl,
    )
