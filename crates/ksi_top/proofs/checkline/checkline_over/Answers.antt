use Rattle.std.proofs.Common.{List, ℕ, refl, subst, arith, rules, ◌∙◌}
use Rattle.ksi_publications.specs.File.{IsPublications}
use Rattle.ksi_publications.specs.Lent.{lent_pairs}
use Rattle.ksi_signature.specs.Seen.{seen}
use Rattle.ksi_top.specs.CheckLine.{checkline_beside}
use Rattle.ksi_top.specs.Loading.{publications_file}
use Rattle.ksi_top.proofs.Loads.{read_after, unloaded}
use Rattle.ksi_top.proofs.Performing.{halted, performed_behind}
use Rattle.ksi_top.proofs.checkline.checkline_over.Goals as goal

pub returns-in_err-bytes : goal.returns-in_err-bytes
returns-in_err-bytes g c =
    halted g.F.Files _ _ _ _ _ (λ p. (checkline_beside (seen c.args.signature.now) p c.args.line.now c.args.proof.now).ran) _ _ _ _ _ (λ p long. omega arith)
    (unloaded g.F.Files publications_file _ _ _ _ _ _ _ _ c.in_err-bytes.ensures.loaded refl) (search rules)

pub returns-in_err-publications : goal.returns-in_err-publications
returns-in_err-publications g c =
    halted g.F.Files _ _ _ _ _ (λ p. (checkline_beside (seen c.args.signature.now) p c.args.line.now c.args.proof.now).ran) _ _ _ _ _ (λ p long. omega arith)
    (read_after g.F.Files publications_file _ _ _ _ _ _ _ _ _ c.as_slice.ensures c.in_ok-bytes.ensures.loaded c.in_err-publications.ensures.told c.in_err-publications.ensures.halts) (search rules)

pub returns : goal.returns
returns g c =
    let is = c.in_ok-publications.ensures in
    performed_behind g.F.Files _ _ _ _ _ (λ p. (checkline_beside (seen c.args.signature.now) p c.args.line.now c.args.proof.now).ran) _ _ _ _ _ _ _
    (λ tells report by. record { pairs = _; publications_are = subst (λ (bytes : List ℕ). IsPublications bytes (lent_pairs c.in_ok-publications.publications)) (c.as_slice.ensures ∙ c.in_ok-bytes.ensures.whole tells) is.is; by = by })
    (read_after g.F.Files publications_file _ _ _ _ _ _ _ _ _ c.as_slice.ensures c.in_ok-bytes.ensures.loaded is.told is.halts) c.checkline_beside.ensures
