use Rattle.std.proofs.Common.{◌≡◌, Ok, Err, inl, refl, sym, ap, subst, ◌∙◌}
use Rattle.ksi_tlv.specs.Order.{walked}
use Rattle.ksi_tlv.specs.Format.{behind, end_of}
use Rattle.ksi_tlv.specs.Reading.{value_said}
use Rattle.ksi_consistency.specs.declared.fault.FrontFault.{FrontFault}
use Rattle.ksi_consistency.specs.declared.fault.FrontFault.TheVariants.{Magic}
use Rattle.ksi_consistency.specs.Elements.{Said}
use Rattle.ksi_consistency.specs.File.{front_format}
use Rattle.ksi_consistency.specs.Few.{few_at, few_order}
use Rattle.ksi_consistency.proofs.Keeping.{noted_few, step_fault}
use Rattle.ksi_consistency.proofs.noting.note.Goals as goal

pub returns-in_default : goal.returns-in_default
unfolding front_format
returns-in_default c =
    ap few_at (sym ((c.front_is_read.ensures.fault c.args.bytes.now Magic).1 (inl (record { begins = c.after_magic.ensures.none c.in_default.is; named = refl }))))

pub returns-in-Ok : goal.returns-in-Ok
unfolding front_format
returns-in-Ok c =
    let rest = c.in-Some.rest.now in
    ap (value_said (λ s. s.contents)) (sym (subst (λ (s : Said). walked few_order (end_of front_format rest) (behind front_format rest) s ≡ Ok c.walk.new.state) c.new-noting.ensures c.in-Ok.ensures.exact))
    ∙ noted_few c.args.bytes.now rest c.in-Some.ensures.some

pub returns-in-Err-Fault : goal.returns-in-Err-Fault
unfolding front_format
returns-in-Err-Fault c =
    let rest = c.in-Some.rest.now in
    let walk = walked few_order (end_of front_format rest) (behind front_format rest) c.new-noting.result in
    let fault : walk ≡ Err c.in-Err-Fault.fault = step_fault walk c.walk.new.state c.in-Err-Fault.field-0 c.in-Err-Fault.fault c.in-Err-Fault.field-0-is c.in-Err-Fault.ensures.exact in
    ap (λ (f : FrontFault). Err f) c.in-Err-Fault.fault-is
    ∙ ap (value_said (λ s. s.contents)) (sym (subst (λ (s : Said). walked few_order (end_of front_format rest) (behind front_format rest) s ≡ Err c.in-Err-Fault.fault) c.new-noting.ensures fault))
    ∙ noted_few c.args.bytes.now rest c.in-Some.ensures.some
