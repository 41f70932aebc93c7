use Rattle.std.proofs.Common.{refl, take}
use Rattle.ksi_split.specs.Parts.{second_at}
use Rattle.ksi_calendar.proofs.SideLemmas.{told}
use Rattle.ksi_calendar.proofs.seconds.uppermost_tell.Goals as goal

pub returns : goal.returns
returns c = λ p sides small long.
    told p sides small long c.short_ways.ensures c.proper_fronts.ensures.goes_on c.one_answer.ensures.second c.one_answer.ensures.too_many c.one_answer.ensures.too_few
    (second_at p (take 65 sides)) refl
