use Rattle.std.proofs.Common.{ℕ, List, Result, Ok, Err, refl, arith, rules, ◌∙◌}
use Rattle.ksi_imprint.specs.Imprints.{imprint_of}
use Rattle.ksi_extender.specs.Accepted.{first_time}
use Rattle.ksi_extender.specs.Extended.{extended}
use Rattle.ksi_top.specs.Extend.{extended_report}
use Rattle.ksi_top.specs.Loading.{content, signature_file}
use Rattle.ksi_top.proofs.Ends.{IsEnd, ends_as}
use Rattle.ksi_top.proofs.Extending.{extended_same, extension_means}
use Rattle.ksi_top.proofs.Loads.{read_after, unloaded}
use Rattle.ksi_top.proofs.Performing.{halted_last, performed_last}
use Rattle.ksi_extender.specs.declared.refusal.ExtendRefusal.{ExtendRefusal}
use Rattle.ksi_extender.specs.declared.refusal.ExtendRefusal.TheVariants as refusals
use Rattle.ksi_top.proofs.extend.extend_over.Goals as goal

extended_ends : (second publication : ℕ) (out : List ℕ) (extension : Result (List ℕ) ExtendRefusal) → IsEnd 1 (extended_report second publication out extension)
extended_ends second publication out (Ok bytes) = record { judged = tt; few = omega arith }
extended_ends second publication out (Err (refusals.Malformed fault)) = record { judged = refl; few = omega arith }
extended_ends second publication out (Err _) = record { judged = refl; few = omega arith }

pub returns-in_err-bytes : goal.returns-in_err-bytes
returns-in_err-bytes g c =
    halted_last g.F.Files _ _ _ _ (λ s held. extended_report (first_time s) c.args.second c.args.out.now (extended imprint_of c.args.journal.now (content held c.args.signature.now) c.args.second)) _ _ _ _ _ (λ s. extended_ends _ _ _ _)
    (unloaded g.F.Files signature_file _ _ _ _ _ _ _ _ c.in_err-bytes.ensures.loaded refl) (search rules)

pub returns-in_err-signature : goal.returns-in_err-signature
returns-in_err-signature g c =
    halted_last g.F.Files _ _ _ _ (λ s held. extended_report (first_time s) c.args.second c.args.out.now (extended imprint_of c.args.journal.now (content held c.args.signature.now) c.args.second)) _ _ _ _ _ (λ s. extended_ends _ _ _ _)
    (read_after g.F.Files signature_file _ _ _ _ _ _ _ _ _ c.as_slice.ensures c.in_ok-bytes.ensures.loaded c.in_err-signature.ensures.told c.in_err-signature.ensures.halts) (search rules)

pub returns : goal.returns
returns g c =
    performed_last g.F.Files _ _ _ _ (λ s held. extended_report (first_time s) c.args.second c.args.out.now (extended imprint_of c.args.journal.now (content held c.args.signature.now) c.args.second)) _ _ _ _ c.extended_report.result _
    (extended_ends _ _ _ _) (read_after g.F.Files signature_file _ _ _ _ _ _ _ _ _ c.as_slice.ensures c.in_ok-bytes.ensures.loaded c.in_ok-signature.ensures.told c.in_ok-signature.ensures.halts)
    c.ended.ensures (ends_as 1 _ _ c.extended_report.ensures.taken (extended_ends _ _ _ _))
    (λ tells. extended_same _ _ _ _ _ _ _ (c.in_ok-signature.ensures.bytes ∙ c.as_slice.ensures ∙ c.in_ok-bytes.ensures.whole tells) c.extended_report.ensures.taken)
    (λ tells. extension_means _ _ _ _ _ _ (c.in_ok-signature.ensures.bytes ∙ c.as_slice.ensures ∙ c.in_ok-bytes.ensures.whole tells) c.extended_report.ensures.extended)
