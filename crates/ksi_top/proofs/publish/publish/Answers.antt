use Rattle.std.proofs.Common.{rules}
use Rattle.ksi_top.specs.Publish.{published}
use Rattle.ksi_top.proofs.Ends.{ends_as, nothing_of, saving_ends}
use Rattle.ksi_top.proofs.Performing.{halted_last, performed_last}
use Rattle.ksi_top.proofs.publish.publish.Goals as goal

pub returns-in_err-journal : goal.returns-in_err-journal
returns-in_err-journal g c =
    halted_last g.F.Files _ _ _ _ (λ j held. published c.args.out.now j.publications) _ _ _ _ _ (λ j. saving_ends _ _ _) c.in_err-journal.ensures.loaded (search rules)

pub returns : goal.returns
returns g c =
    performed_last g.F.Files _ _ _ _ (λ j held. published c.args.out.now j.publications) _ _ _ _ c.published.result _
    (saving_ends _ _ _) c.in_ok-journal.ensures.loaded c.ended.ensures (ends_as 1 _ _ c.published.ensures (saving_ends _ _ _)) (λ tells. rw c.publications.ensures at c.published.ensures) (λ tells. nothing_of c.published.result)
