use Rattle.std.proofs.Common.{◌≡◌, ◌∙◌, slice_get, take, Some, sym, ap}
use Rattle.std.proofs.lemmas.Option.{slice_get-get_or}
use Rattle.ksi_corenode.specs.declared.fact.Fact.{Fact}
use Rattle.ksi_corenode.proofs.Returning.{none_of_facts, lawful_there, next_stored}
use Rattle.ksi_corenode.proofs.node.Core.from_facts.Goals as goal

pub storing-init : goal.storing-init
storing-init g c = none_of_facts g.C.Compress.image c.args.me c.args.plan.now c.new-core.result c.new-core.ensures.me c.new-core.ensures.plan c.new-core.ensures.start c.new-core.ensures.seconds

pub store-requires : goal.store-requires
store-requires g c =
    let facts = c.args.facts.now in
    let k = c.storing.k in
    let fact = c.index-facts-k.result in
    let is : slice_get facts k ≡ Some fact = slice_get-get_or facts k fact c.storing-test.true ∙ ap (λ (f : Fact). Some f) (sym c.index-facts-k.is) in
    lawful_there g.C.Compress.image c.args.me c.args.plan.now (take k facts) fact c.storing.core c.storing.invariant (c.requires.lawful k fact is)

pub storing-preserved : goal.storing-preserved
storing-preserved g c =
    let facts = c.args.facts.now in
    let k = c.storing.k in
    let fact = c.index-facts-k.result in
    let is : slice_get facts k ≡ Some fact = slice_get-get_or facts k fact c.storing-test.true ∙ ap (λ (f : Fact). Some f) (sym c.index-facts-k.is) in
    next_stored g.C.Compress.image c.args.me c.args.plan.now facts k fact c.storing.core c.store.new.self is c.storing.invariant c.in_ok-store.ensures.stored
