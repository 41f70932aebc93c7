use Rattle.std.proofs.Common.{◌≡◌, ◌∷◌, List, ◌∙◌, ap, refl}
use Rattle.ksi_schedule.specs.Pieces.{Text, words}
use Rattle.ksi_schedule.specs.Reading.{words_left}
use Rattle.ksi_schedule.proofs.Cuts.{not_one}
use Rattle.ksi_schedule.proofs.cut.one.Goals as goal

pub returns-in-Some-others : goal.returns-in-Some-others
returns-in-Some-others c =
    let left : words_left c.args.words ≡ words c.in-Some.words.now = ap words_left c.in-Some.is in
    let cut : words c.in-Some.words.now ≡ c.cut.result.0.now ∷ words_left c.cut.result.1 = c.cut.ensures.words refl in
    let is : words_left c.args.words ≡ c.cut.result.0.now ∷ words c.in-Some-others.field-0.now =
    left ∙ cut ∙ ap (λ (ws : List Text). c.cut.result.0.now ∷ ws) (ap words_left c.in-Some-others.is) in
    not_one _ _ c.in-Some-others.field-0.now is
