use Rattle.std.proofs.Common.{refl, sym, subst}
use Rattle.ksi_corenode.specs.Rows.{restart_row}
use Rattle.ksi_world.specs.Histories.{happens}
use Rattle.ksi_world.specs.Nodes.{NodesState, Fits}
use Rattle.ksi_world.proofs.Fitting.{core_restarts_fits}
use Rattle.ksi_world.proofs.nodes.Nodes.restart_core.Goals as goal

pub returns : goal.returns
unfolding happens
returns g c = λ plan w fits.
    let fits' = subst (λ (n : NodesState). Fits plan w n) (sym c.self.view_is) fits in (
      record {
        cores = core_restarts_fits plan w c.self.inside.cores.items c.restart.new.cores.items c.self.inside.aggregators.items c.self.inside.aggregators.items c.self.inside.wire c.self.inside.wire c.self.inside.requests.items c.self.inside.requests.items c.self.inside.published c.self.inside.published fits' restart_row c.args.core c.restart.ensures;
        aggregators = record { many = fits'.aggregators.many; each = fits'.aggregators.each };
        wire = fits'.wire;
        requests = fits'.requests;
        published = fits'.published;
      },
      refl,
    )
