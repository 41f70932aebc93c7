use Rattle.std.proofs.Common.{◌≡◌, ◌++◌, length, refl, ap, subst, ◌∙◌, arith, Some}
use Rattle.std.specs.Prelude.{slice_get, map}
use Rattle.std.proofs.lemmas.Option.{slice_get_read}
use Rattle.ksi_corenode.specs.CoreState.{IsTurn}
use Rattle.ksi_corenode.specs.Events.{core_row}
use Rattle.ksi_world.specs.Histories.{core_message}
use Rattle.ksi_world.proofs.Turning.{at_error, core_turned, cores_stay, few_sent, respond_same}
use Rattle.ksi_world.proofs.cores.take.Goals as goal

pub make_room-requires-clause-few : goal.make_room-requires-clause-few
make_room-requires-clause-few g c = λ other.
    let core = c.index_mut.result.now in
    let at : slice_get c.args.cores.now.items c.args.core ≡ Some core = slice_get_read c.args.cores.now.items _ c.args.core core refl c.requires.there c.index_mut.ensures.value in
    omega (arith, ap length c.in_ok-step.ensures.turn.sends, few_sent c.voters_are_cores.ensures.voters c.voters_are_cores.ensures.few g.C.Compress.image core (c.requires.plan c.args.core core at) c.args.event other)

pub returns-in_err-step-clause-cores : goal.returns-in_err-step-clause-cores
returns-in_err-step-clause-cores g c =
    let core = c.index_mut.result.now in
    let at : slice_get c.args.cores.now.items c.args.core ≡ Some core = slice_get_read c.args.cores.now.items _ c.args.core core refl c.requires.there c.index_mut.ensures.value in
    at_error c.from_residual-in_err-step.result (cores_stay c.args.cores.now.items c.args.core core c.take.new.self at c.in_err-step.ensures.unchanged)

pub returns-in_err-make_room-clause-cores : goal.returns-in_err-make_room-clause-cores
returns-in_err-make_room-clause-cores g c =
    let core = c.index_mut.result.now in
    let at : slice_get c.args.cores.now.items c.args.core ≡ Some core = slice_get_read c.args.cores.now.items _ c.args.core core refl c.requires.there c.index_mut.ensures.value in
    at_error c.from_residual-in_err-make_room.result (cores_stay c.args.cores.now.items c.args.core core c.take.new.self at
    (respond_same g.C.Compress.image core c.take.new.self c.args.event c.in_ok-step.step c.in_err-make_room.ensures.respond c.in_ok-step.ensures.turn))

pub returns-clause-ok : goal.returns-clause-ok
returns-clause-ok g c =
    let image = g.C.Compress.image in
    let core = c.index_mut.result.now in
    let at : slice_get c.args.cores.now.items c.args.core ≡ Some core = slice_get_read c.args.cores.now.items _ c.args.core core refl c.requires.there c.index_mut.ensures.value in
    core_turned (λ c'. core_row image c' c.args.event) c.args.core c.args.second c.args.cores.now.items c.args.wire.now c.post_core.new.posted.messages core c.take.new.self c.in_ok-step.step c.post_core.result at
    (subst (λ t. IsTurn core c.take.new.self t (core_row image core c.args.event) c.in_ok-step.step) c.requires.second c.in_ok-step.ensures.turn)
    (c.post_core.ensures.messages ∙ ap (λ xs. xs ++ map (core_message c.args.core c.args.second) c.in_ok-step.step.sends) (c.make_room.ensures.messages ∙ c.reserve.ensures.messages ∙ c.wire.view_is)) c.post_core.ensures.outcome
