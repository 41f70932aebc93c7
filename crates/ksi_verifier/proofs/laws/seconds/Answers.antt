use Rattle.ksi_split.specs.Parts.{second_at}
use Rattle.ksi_split.specs.declared.fault.ShapeFault.TheVariants.{TooMany, TooFew}
use Rattle.ksi_calendar.specs.Sides.{sides_from_top}
use Rattle.ksi_verifier.proofs.Whole.{shape_both, fault_both}
use Rattle.ksi_verifier.proofs.Passing.{both_then}
use Rattle.ksi_verifier.proofs.laws.seconds.Goals as goal

pub returns-clause-second : goal.returns-clause-second
returns-clause-second c = λ calendar t.
    let sides = sides_from_top calendar.links in
    both_then (shape_both (second_at calendar.publication sides) t) (c.one_answer.ensures.second calendar.publication t sides)

pub returns-clause-too_many : goal.returns-clause-too_many
returns-clause-too_many c = λ calendar place.
    let sides = sides_from_top calendar.links in
    both_then (fault_both (second_at calendar.publication sides) (TooMany place)) (c.one_answer.ensures.too_many calendar.publication place sides)

pub returns-clause-too_few : goal.returns-clause-too_few
returns-clause-too_few c = λ calendar rest.
    let sides = sides_from_top calendar.links in
    both_then (fault_both (second_at calendar.publication sides) (TooFew rest)) (c.one_answer.ensures.too_few calendar.publication rest sides)
