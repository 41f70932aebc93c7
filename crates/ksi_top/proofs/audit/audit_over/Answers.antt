use Rattle.std.proofs.Common.{List, ℕ, refl, subst, arith, rules, ◌∙◌}
use Rattle.std.proofs.lemmas.Result.{IfOk-weaker}
use Rattle.ksi_imprint.specs.Imprints.{imprint_of}
use Rattle.ksi_publications.specs.File.{IsPublications}
use Rattle.ksi_publications.specs.Lent.{lent_pairs}
use Rattle.ksi_signature.specs.Seen.{seen}
use Rattle.ksi_auditor.specs.Audit as audits
use Rattle.ksi_top.specs.Audit.{audited}
use Rattle.ksi_top.specs.Loading.{publications_file}
use Rattle.ksi_top.proofs.Loads.{read_after, unloaded}
use Rattle.ksi_top.proofs.Ends.{IsEnd, ends_as}
use Rattle.ksi_top.proofs.Performing.{halted_last, performed_last}
use Rattle.ksi_auditor.specs.declared.answer.Audit.{Audit}
use Rattle.ksi_auditor.specs.declared.answer.Audit.TheVariants as answers
use Rattle.ksi_top.proofs.audit.audit_over.Goals as goal

audited_ends : (answer : Audit) → IsEnd 0 (audited answer)
audited_ends (answers.Inside second way) = record { judged = tt; few = omega arith }
audited_ends (answers.Beneath second item links) = record { judged = tt; few = omega arith }
audited_ends _ = record { judged = refl; few = omega arith }

pub returns-in_err-bytes : goal.returns-in_err-bytes
returns-in_err-bytes g c =
    halted_last g.F.Files _ _ _ _ (λ p held. audited (audits.audit imprint_of c.args.journal.now (seen c.args.signature.now) c.args.hash.now p)) _ _ _ _ _ (λ p. audited_ends _)
    (unloaded g.F.Files publications_file _ _ _ _ _ _ _ _ c.in_err-bytes.ensures.loaded refl) (search rules)

pub returns-in_err-publications : goal.returns-in_err-publications
returns-in_err-publications g c =
    halted_last g.F.Files _ _ _ _ (λ p held. audited (audits.audit imprint_of c.args.journal.now (seen c.args.signature.now) c.args.hash.now p)) _ _ _ _ _ (λ p. audited_ends _)
    (read_after g.F.Files publications_file _ _ _ _ _ _ _ _ _ c.as_slice.ensures c.in_ok-bytes.ensures.loaded c.in_err-publications.ensures.told c.in_err-publications.ensures.halts) (search rules)

pub returns : goal.returns
returns g c =
    let is = c.in_ok-publications.ensures in
    performed_last g.F.Files _ _ _ _ (λ p held. audited (audits.audit imprint_of c.args.journal.now (seen c.args.signature.now) c.args.hash.now p)) _ _ _ _ c.answer.result _
    (audited_ends _) (read_after g.F.Files publications_file _ _ _ _ _ _ _ _ _ c.as_slice.ensures c.in_ok-bytes.ensures.loaded is.told is.halts) c.ended.ensures
    (ends_as 0 _ _ c.answer.ensures.answer (audited_ends _)) (λ tells. c.answer.ensures.answer)
    (λ tells. IfOk-weaker c.answer.result _ _ (λ report answered. record { pairs = _; publications_are = subst (λ (bytes : List ℕ). IsPublications bytes (lent_pairs c.in_ok-publications.publications)) (c.as_slice.ensures ∙ c.in_ok-bytes.ensures.whole tells) is.is; answered = answered }) c.answer.ensures.answered)
