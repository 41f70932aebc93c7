use Rattle.std.proofs.Common.{◌≡◌, ℕ, ◌<◌, Result, Err, ap, ◌∙◌, arith}
use Rattle.std.specs.Prelude.{◌↔◌}
use Rattle.ksi_imprint.specs.declared.refused.Refused.{Refused}
use Rattle.ksi_imprint.specs.declared.refused.Refused.TheVariants.{Fault}
use Rattle.ksi_tlv.specs.declared.write.PutRefusal.{PutRefusal}
use Rattle.ksi_tlv.specs.declared.write.PutRefusal.TheVariants.{TooLong}
use Rattle.ksi_tlv.proofs.grammar.publication.put_short.Goals as goal

long : {A : Type 0} (r : Result A (Refused PutRefusal)) (refusal : PutRefusal) (size : ℕ) → r ≡ Err (Fault refusal)
    → ((n : ℕ) → (r ≡ Err (Fault (TooLong n))) ↔ ((n ≡ size) × (65535 < n))) → 65535 < size
long r (TooLong n) size is law = let both = (law n).0 is in omega (arith, both.0, both.1)

-- the body is not too long
pub unreachable-requires : goal.unreachable-requires
unreachable-requires c =
    let is = c.in-Err-Fault.is ∙ ap (λ (refused : Refused PutRefusal). Err refused) c.in-Err-Fault.field-0-is in
    let above = long c.put.result c.in-Err-Fault.field-0-0 _ is c.put.ensures.too_long in
    omega (arith, above, c.requires.body)
