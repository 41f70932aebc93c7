use Rattle.std.proofs.Common.{◌∙◌, ap, Err}
use Rattle.ksi_imprint.specs.declared.refused.Refused.{Refused}
use Rattle.ksi_signature.specs.declared.refusal.WriteRefusal.{WriteRefusal}
use Rattle.ksi_signature.proofs.Refusing.{record_short}
use Rattle.ksi_signature.proofs.extension.record_body.Goals as goal

pub unreachable-requires : goal.unreachable-requires
unreachable-requires c =
    record_short c.args.publication.now c.publishing_body.result c.in-Err-Fault.field-0-0 c.publishing_body.ensures.long
    (c.in-Err-Fault.is ∙ ap (λ (refused : Refused WriteRefusal). Err refused) c.in-Err-Fault.field-0-is) c.requires
