use Rattle.std.proofs.Common.{Option, subst, sym}
use Rattle.ksi_aggregator.specs.declared.fact.Fact.{Fact}
use Rattle.ksi_roundstore.specs.Takes.{HasStored}
use Rattle.ksi_roundstore.proofs.Kept.{left_now, nothing_stored}
use Rattle.ksi_roundstore.proofs.appending.keep.Goals as goal

pub returns-in-None-clause-stored : goal.returns-in-None-clause-stored
returns-in-None-clause-stored g c =
    let log = c.args.log.now in
    subst (λ (f : Option Fact). HasStored g.D.Disk.content g.D.Disk.images f log log) (sym c.in-None.is) (nothing_stored g.D.Disk.content g.D.Disk.images log c.requires.settled c.requires.from)

pub returns-in-None-clause-any_moment : goal.returns-in-None-clause-any_moment
returns-in-None-clause-any_moment g c =
    let log = c.args.log.now in
    left_now g.D.Disk.content g.D.Disk.images log c.requires.settled c.requires.from g.D.Disk.moment g.D.Disk.images_since c.args.fact.now (g.met.D.Disk.only_now log.disk)
