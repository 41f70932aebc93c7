use Rattle.std.proofs.Common.{◌≡◌, refl, Some}
use Rattle.std.specs.Prelude.{slice_get}
use Rattle.std.proofs.lemmas.Option.{slice_get_read}
use Rattle.std.proofs.lemmas.Result.{on_err_weaker}
use Rattle.ksi_world.proofs.RoundTurning.{aggregators_stay}
use Rattle.ksi_world.proofs.aggregators.answer.Goals as goal

pub returns-clause-err : goal.returns-clause-err
returns-clause-err g c =
    let one = c.index_mut.result.now in
    let at : slice_get c.args.aggregators.now.items c.args.aggregator ≡ Some one = slice_get_read c.args.aggregators.now.items _ c.args.aggregator one refl c.requires.there c.index_mut.ensures.value in
    on_err_weaker c.response.result (λ same. aggregators_stay c.args.aggregators.now.items c.args.aggregator one c.response.new.self at c.response.ensures.me same) c.response.ensures.unchanged
