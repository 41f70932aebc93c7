use Rattle.std.proofs.Common.{ap, ◌∙◌}
use Rattle.ksi_publications.specs.Finding.{find}
use Rattle.ksi_publications.proofs.Finds.{find_none}
use Rattle.ksi_publications.proofs.publications.Publications.find.Goals as goal

pub returns-clause-none : goal.returns-clause-none
returns-clause-none c = find_none c.args.time c.args.self.now c.first_of.result (c.first_of.ensures ∙ ap (find c.args.time) (c.as_slice.ensures.value ∙ c.self.view_is))
