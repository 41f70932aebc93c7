use Rattle.std.proofs.Common.{◌≡◌, ◌<◌, ℕ, List, length, Err, subst, arith}
use Rattle.std.specs.Prelude.{◌↔◌}
use Rattle.std.proofs.lemmas.List.Elements.{All-from_get_or}
use Rattle.ksi_imprint.specs.declared.refused.Refused.TheVariants.{Fault}
use Rattle.ksi_signature.specs.declared.extension.WithRefusal.TheVariants as refusals
use Rattle.ksi_signature.specs.Extended.{extended_content, IsTooLong}
use Rattle.ksi_signature.specs.Seen.{seen}
use Rattle.ksi_signature.proofs.Refusing.{malformed_passed}
use Rattle.ksi_signature.proofs.extension.with_calendar.Goals as goal

pub returns-in-Err-clause-malformed : goal.returns-in-Err-clause-malformed
returns-in-Err-clause-malformed c = λ fault. malformed_passed _ fault _ (c.in-Err.ensures.fault fault)

pub returns-in-Ok-clause-malformed : goal.returns-in-Ok-clause-malformed
returns-in-Ok-clause-malformed c =
    let fits = All-from_get_or (λ b. b < 256) c.args.bytes.now 0 (λ i lt. omega (arith, c.type_inv.bytes i)) in
    λ fault. (
      λ is. absurd (c.renewed.ensures.malformed fault is),
      λ stands. absurd (c.signature_or_fault.ensures.not_both c.args.bytes.now (seen c.in-Ok.view) fault fits c.in-Ok.ensures.signature stands),
    )

pub returns-in-Ok-clause-too_long : goal.returns-in-Ok-clause-too_long
returns-in-Ok-clause-too_long c = λ n.
    let law = subst (λ (bytes : List ℕ). (c.renewed.result ≡ Err (Fault (refusals.TooLong n))) ↔ IsTooLong (length (extended_content bytes c.args.calendar.now c.args.publication.now)) n) c.in-Ok.ensures.bytes (c.renewed.ensures.too_long n) in
    (λ is. ((seen c.in-Ok.view, c.in-Ok.ensures.signature), law.0 is), λ h. law.1 h.1)
