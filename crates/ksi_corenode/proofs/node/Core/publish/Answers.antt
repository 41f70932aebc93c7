use Rattle.std.proofs.Common.{◌∙◌}
use Rattle.ksi_signature.specs.declared.answer.Answer.TheVariants.{Undecided}
use Rattle.ksi_corenode.specs.Rows.{publish_answer}
use Rattle.ksi_corenode.specs.CoreState.{held_by}
use Rattle.ksi_corenode.proofs.Words.{same_answer, publish_undecided}
use Rattle.ksi_corenode.proofs.node.Core.publish.Goals as goal

pub returns-clause-undecided : goal.returns-clause-undecided
returns-clause-undecided g c = λ s.
    let held = held_by c.args.self.now in
    let start = c.args.self.now.start in
    same_answer c.without_sends.result.answer (publish_answer g.C.Compress.image held start c.args.p) (Undecided s)
    (c.without_sends.ensures.answer ∙ c.published-answer.ensures)
    (publish_undecided g.C.Compress.image held (record { some = c.one_first_missing.ensures.some; none = c.one_first_missing.ensures.none }) start c.args.p s)
