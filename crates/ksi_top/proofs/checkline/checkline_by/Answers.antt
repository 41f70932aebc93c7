use Rattle.std.proofs.Common.{◌≡◌, List, ℕ, Result, Ok, Err, refl, arith, rules}
use Rattle.ksi_imprint.specs.Imprints.{imprint_of}
use Rattle.ksi_aggtree.specs.declared.chains.climbing.LevelFault.{LevelFault}
use Rattle.ksi_signature.specs.declared.signature.Signature.{Signature}
use Rattle.ksi_publications.specs.Lent.{lent_pairs}
use Rattle.ksi_signature.specs.Seen.{seen}
use Rattle.ksi_logblock.specs.declared.line_proof.LineProof.{LineProof}
use Rattle.ksi_logblock.specs.Proofs.{root_by}
use Rattle.ksi_verifier.specs.declared.verdict.Verdict.{Verdict}
use Rattle.ksi_verifier.specs.declared.verdict.Verdict.TheVariants.{Accepted, Refused}
use Rattle.ksi_verifier.specs.Verdict.{verdict}
use Rattle.ksi_top.specs.CheckLine.{IsLineAccepted, line_checked, line_judged, root_judged}
use Rattle.ksi_top.specs.declared.report.Report.{Report}
use Rattle.ksi_top.specs.declared.status.Status.TheVariants as statuses
use Rattle.ksi_top.proofs.Ends.{IsEnd, ends_as}
use Rattle.ksi_top.proofs.Performing.{halted_last, performed_last}
use Rattle.ksi_top.proofs.checkline.checkline_by.Goals as goal

judged_ends : (verdict : Verdict) → IsEnd 0 (line_judged verdict)
judged_ends (Accepted second) = record { judged = tt; few = omega arith }
judged_ends (Refused refusal) = record { judged = refl; few = omega arith }

root_ends : (signature : Signature) (pairs : List (ℕ × List ℕ)) (root : Result (List ℕ) LevelFault) → IsEnd 0 (root_judged signature pairs root)
root_ends signature pairs (Ok root) = judged_ends (verdict imprint_of signature root pairs)
root_ends signature pairs (Err fault) = record { judged = refl; few = omega arith }

-- a report of status 0 is of an accepted root
module _ (signature : Signature) (pairs : List (ℕ × List ℕ)) (line : List ℕ) (proof : LineProof) (report : Report) where
  by_verdict : (root : List ℕ) (v : Verdict) → root_by imprint_of line proof ≡ Ok root → verdict imprint_of signature root pairs ≡ v → report ≡ line_judged v → report.status ≡ statuses.Done → IsLineAccepted signature pairs line proof report
  by_verdict root (Accepted second) leads is reported done = record { root = root; second = second; leads = leads; accepted = is; reported = reported }
  by_verdict root (Refused refusal) leads is reported done = absurd (cc (reported, done))

  by_root : (led : Result (List ℕ) LevelFault) → root_by imprint_of line proof ≡ led → report ≡ root_judged signature pairs led → report.status ≡ statuses.Done → IsLineAccepted signature pairs line proof report
  by_root (Ok root) leads reported done = by_verdict root (verdict imprint_of signature root pairs) leads refl reported done
  by_root (Err fault) leads reported done = absurd (cc (reported, done))

pub returns-in_err-proof : goal.returns-in_err-proof
returns-in_err-proof g c =
    halted_last g.F.Files _ _ _ _ (λ p held. line_checked (seen c.args.signature.now) (lent_pairs c.args.publications.now) c.args.line.now p) _ _ _ _ _ (λ p. root_ends _ _ _) c.in_err-proof.ensures.loaded (search rules)

pub returns : goal.returns
returns g c =
    let proof = c.in_ok-proof.proof in
    let ends = root_ends (seen c.args.signature.now) (lent_pairs c.args.publications.now) (root_by imprint_of c.args.line.now proof) in
    performed_last g.F.Files _ _ _ _ (λ p held. line_checked (seen c.args.signature.now) (lent_pairs c.args.publications.now) c.args.line.now p) _ _ _ _ (Ok c.line_checked.result) _
    ends c.in_ok-proof.ensures.loaded refl (ends_as 0 _ (Ok c.line_checked.result) c.line_checked.ensures ends) (λ tells. c.line_checked.ensures)
    (λ tells. record { read = _; proof_is = c.in_ok-proof.ensures.is tells; reported = c.line_checked.ensures; accepted = λ done. by_root (seen c.args.signature.now) (lent_pairs c.args.publications.now) c.args.line.now proof c.line_checked.result (root_by imprint_of c.args.line.now proof) refl c.line_checked.ensures done })
