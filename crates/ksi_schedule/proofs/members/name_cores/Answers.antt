use Rattle.std.proofs.Common.{◌∙◌, sym, ap, Option, List, ℕ}
use Rattle.std.specs.List.{list_all}
use Rattle.std.specs.Borrow.{Bor}
use Rattle.ksi_schedule.specs.Words.{core_actor, looks_like}
use Rattle.ksi_schedule.specs.Reading.{words_left}
use Rattle.ksi_schedule.proofs.Taking.{named}
use Rattle.ksi_schedule.proofs.members.name_cores.Goals as goal

pub returns : goal.returns
returns c =
    ap (λ (rest : Option (Bor (List ℕ))). list_all (looks_like core_actor) (words_left rest)) (sym c.in_default.is) ∙ c.words.invariant ∙ named c.args.words c.if-is_none.ensures
