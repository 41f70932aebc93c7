use Rattle.std.proofs.Common.{List, ℕ, refl, subst, arith, rules, ◌∙◌}
use Rattle.ksi_signature.specs.File.{IsSignature}
use Rattle.ksi_signature.specs.Seen.{seen}
use Rattle.ksi_top.specs.Verify.{verify_over}
use Rattle.ksi_top.specs.Loading.{signature_file}
use Rattle.ksi_top.proofs.Loads.{read_after, unloaded}
use Rattle.ksi_top.proofs.Performing.{halted, performed_behind}
use Rattle.ksi_top.proofs.verify.verify.Goals as goal

pub returns-in_err-bytes : goal.returns-in_err-bytes
returns-in_err-bytes g c =
    halted g.F.Files _ _ _ _ _ (λ s. (verify_over s c.args.hash.now c.args.publications.now).ran) _ _ _ _ _ (λ s long. omega arith)
    (unloaded g.F.Files signature_file _ _ _ _ _ _ _ _ c.in_err-bytes.ensures.loaded refl) (search rules)

pub returns-in_err-signature : goal.returns-in_err-signature
returns-in_err-signature g c =
    halted g.F.Files _ _ _ _ _ (λ s. (verify_over s c.args.hash.now c.args.publications.now).ran) _ _ _ _ _ (λ s long. omega arith)
    (read_after g.F.Files signature_file _ _ _ _ _ _ _ _ _ c.as_slice.ensures c.in_ok-bytes.ensures.loaded c.in_err-signature.ensures.told c.in_err-signature.ensures.halts) (search rules)

pub returns : goal.returns
returns g c =
    let is = c.in_ok-signature.ensures in
    performed_behind g.F.Files _ _ _ _ _ (λ s. (verify_over s c.args.hash.now c.args.publications.now).ran) _ _ _ _ _ _ _
    (λ tells report over. record { read = _; signature_is = subst (λ (bytes : List ℕ). IsSignature bytes (seen c.in_ok-signature.signature)) (c.as_slice.ensures ∙ c.in_ok-bytes.ensures.whole tells) is.is; over = over })
    (read_after g.F.Files signature_file _ _ _ _ _ _ _ _ _ c.as_slice.ensures c.in_ok-bytes.ensures.loaded is.told is.halts) c.verify_over.ensures
