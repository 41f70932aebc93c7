use Rattle.std.proofs.Common.{◌∙◌, Bool, subst, arith}
use Rattle.ksi_aggregator.specs.Rounds.{rounds_of}
use Rattle.ksi_roundstore.specs.Facts.{TakesAs}
use Rattle.ksi_roundstore.proofs.Taken.{not_all, one_more}
use Rattle.ksi_roundstore.proofs.folding.take_all.Goals as goal

pub taking-preserved : goal.taking-preserved
taking-preserved g c =
    let image = g.C.Compress.image in
    let old = rounds_of c.args.aggregator.now in
    let mid = rounds_of c.taking.aggregator in
    let new = rounds_of c.take_event.new.aggregator in
    let k = c.taking.k in
    let list = c.args.events.now in
    let event = c.index-events-k.result in
    let took = subst (λ (b : Bool). TakesAs image mid new event b) c.if-not-branch.false c.in_ok-take_event.ensures.taken in
    let more = one_more image old mid new list k event (omega arith) c.index-events-k.is c.taking.invariant.accepted c.taking.invariant.after took in
    record { mine = c.in_ok-take_event.ensures.me ∙ c.taking.invariant.mine; accepted = more.0; after = more.1 }

pub returns-then-not-branch-clause-taken : goal.returns-then-not-branch-clause-taken
returns-then-not-branch-clause-taken g c =
    let image = g.C.Compress.image in
    let old = rounds_of c.args.aggregator.now in
    let mid = rounds_of c.taking.aggregator in
    let k = c.taking.k in
    let list = c.args.events.now in
    let event = c.index-events-k.result in
    let none = subst (λ (b : Bool). TakesAs image mid (rounds_of c.take_event.new.aggregator) event b) c.if-not-branch.true c.in_ok-take_event.ensures.taken in
    not_all image old mid list k event (omega arith) c.index-events-k.is c.taking.invariant.after none
