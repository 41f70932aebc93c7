use Rattle.std.proofs.Common.{◌≡◌, ◌∙◌, ap, min, ℕ, length, List, sym, Ok, Err, arith}
use Rattle.ksi_split.specs.declared.side.Side.{Side}
use Rattle.ksi_split.specs.declared.fault.ShapeFault.TheVariants.{TooMany, TooFew}
use Rattle.ksi_split.specs.Ways.{NamesSecond, PassesLeaf, EndsAbove}
use Rattle.ksi_split.specs.Parts.{second_at}
use Rattle.ksi_calendar.specs.Sides.{sides_from_top}
use Rattle.ksi_calendar.proofs.SideLemmas.{along, count_sides, uppermost_is}
use Rattle.ksi_calendar.proofs.seconds.second.Goals as goal

pub returns : goal.returns
returns c =
    let p = c.args.p in
    let sides : List Side = sides_from_top c.args.links.now in
    let count : c.min-count.result ≡ min (length sides) 65 = c.min-count.ensures ∙ ap (λ (n : ℕ). min n 65) (sym (count_sides c.args.links.now)) in
    let is : c.second_of.result ≡ second_at p sides
    = c.second_of.ensures.value ∙ ap (second_at p) c.uppermost-sides.ensures ∙ uppermost_is p c.min-count.result sides count (c.uppermost_tell.ensures p sides (omega arith)) in
    record {
      second = λ t. along c.second_of.result (second_at p sides) (Ok t) (NamesSecond p sides t) is (c.one_answer.ensures.second p t sides);
      too_many = λ place. along c.second_of.result (second_at p sides) (Err (TooMany place)) (PassesLeaf p sides place) is (c.one_answer.ensures.too_many p place sides);
      too_few = λ rest. along c.second_of.result (second_at p sides) (Err (TooFew rest)) (EndsAbove p sides rest) is (c.one_answer.ensures.too_few p rest sides);
      value = is;
    }
