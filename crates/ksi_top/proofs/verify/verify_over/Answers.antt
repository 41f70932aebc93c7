use Rattle.std.proofs.Common.{List, ℕ, Ok, refl, subst, arith, rules, ◌∙◌}
use Rattle.ksi_imprint.specs.Imprints.{imprint_of}
use Rattle.ksi_publications.specs.File.{IsPublications}
use Rattle.ksi_publications.specs.Lent.{lent_pairs}
use Rattle.ksi_signature.specs.Seen.{seen}
use Rattle.ksi_verifier.specs.Verdict.{verdict}
use Rattle.ksi_top.specs.Loading.{publications_file}
use Rattle.ksi_top.specs.Verify.{judged}
use Rattle.ksi_top.proofs.Loads.{read_after, unloaded}
use Rattle.ksi_top.proofs.Ends.{IsEnd, ends_as}
use Rattle.ksi_top.proofs.Performing.{halted_last, performed_last}
use Rattle.ksi_verifier.specs.declared.verdict.Verdict.{Verdict}
use Rattle.ksi_verifier.specs.declared.verdict.Verdict.TheVariants.{Accepted, Refused}
use Rattle.ksi_top.proofs.verify.verify_over.Goals as goal

judged_ends : (verdict : Verdict) → IsEnd 0 (judged verdict)
judged_ends (Accepted second) = record { judged = tt; few = omega arith }
judged_ends (Refused refusal) = record { judged = refl; few = omega arith }

pub returns-in_err-bytes : goal.returns-in_err-bytes
returns-in_err-bytes g c =
    halted_last g.F.Files _ _ _ _ (λ p held. judged (verdict imprint_of (seen c.args.signature.now) c.args.hash.now p)) _ _ _ _ _ (λ p. judged_ends _)
    (unloaded g.F.Files publications_file _ _ _ _ _ _ _ _ c.in_err-bytes.ensures.loaded refl) (search rules)

pub returns-in_err-publications : goal.returns-in_err-publications
returns-in_err-publications g c =
    halted_last g.F.Files _ _ _ _ (λ p held. judged (verdict imprint_of (seen c.args.signature.now) c.args.hash.now p)) _ _ _ _ _ (λ p. judged_ends _)
    (read_after g.F.Files publications_file _ _ _ _ _ _ _ _ _ c.as_slice.ensures c.in_ok-bytes.ensures.loaded c.in_err-publications.ensures.told c.in_err-publications.ensures.halts) (search rules)

pub returns : goal.returns
returns g c =
    let is = c.in_ok-publications.ensures in
    performed_last g.F.Files _ _ _ _ (λ p held. judged (verdict imprint_of (seen c.args.signature.now) c.args.hash.now p)) _ _ _ _ (Ok c.judge.result) _
    (judged_ends _) (read_after g.F.Files publications_file _ _ _ _ _ _ _ _ _ c.as_slice.ensures c.in_ok-bytes.ensures.loaded is.told is.halts) refl
    (ends_as 0 _ (Ok c.judge.result) c.judge.ensures (judged_ends _)) (λ tells. c.judge.ensures)
    (λ tells. record { pairs = _; publications_are = subst (λ (bytes : List ℕ). IsPublications bytes (lent_pairs c.in_ok-publications.publications)) (c.as_slice.ensures ∙ c.in_ok-bytes.ensures.whole tells) is.is; reported = c.judge.ensures })
