use Rattle.std.proofs.Common.{List, ℕ, subst, arith, rules}
use Rattle.ksi_publications.specs.Lent.{lent_pairs}
use Rattle.ksi_signature.specs.Seen.{seen}
use Rattle.ksi_top.specs.Loading.{content}
use Rattle.ksi_top.specs.CheckLine.{IsLineCheckedBy, checkline_by}
use Rattle.ksi_top.proofs.Performing.{halted, performed_behind}
use Rattle.ksi_top.proofs.checkline.checkline_beside.Goals as goal

pub returns-in_err-line : goal.returns-in_err-line
returns-in_err-line g c =
    halted g.F.Files _ _ _ _ _ (λ line. (checkline_by (seen c.args.signature.now) (lent_pairs c.args.publications.now) line c.args.proof.now).ran) _ _ _ _ _ (λ line long. omega arith) c.in_err-line.ensures.loaded (search rules)

pub returns : goal.returns
returns g c =
    performed_behind g.F.Files _ _ _ _ _ (λ line. (checkline_by (seen c.args.signature.now) (lent_pairs c.args.publications.now) line c.args.proof.now).ran) _ _ _ _ _ _ _
    (λ tells report is. subst (λ (line : List ℕ). IsLineCheckedBy (seen c.args.signature.now) (lent_pairs c.args.publications.now) line (content (g.F.Files.held c.args.files.now) c.args.proof.now) report) (c.in_ok-line.ensures.whole tells) is)
    c.in_ok-line.ensures.loaded (rw c.as_slice.ensures at c.checkline_by.ensures)
