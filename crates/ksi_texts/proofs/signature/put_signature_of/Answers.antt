use Rattle.std.proofs.Common.{◌≡◌, ◌++◌, length, Result, Ok, Err, Some, ap, ◌∙◌}
use Rattle.ksi_signature.specs.declared.signature.Signature.{Signature}
use Rattle.ksi_texts.specs.Text.{signature_text}
use Rattle.ksi_texts.proofs.signature.put_signature_of.Goals as goal

never : {A B : Type 0} (r : Result A B) (x : A) (e : B) → r ≡ Ok x → r ≡ Err e → ⊥
never r x e is other = absurd cc

same : {A B : Type 0} (r : Result A B) (e f : B) → r ≡ Err e → r ≡ Err f → Some e ≡ Some f
same r e f is other = cc

pub returns-in_err-put_signature-in-Ok-clause-stays : goal.returns-in_err-put_signature-in-Ok-clause-stays
returns-in_err-put_signature-in-Ok-clause-stays c = λ fault is. absurd (never c.view.result c.in-Ok.signature fault c.in-Ok.is ((c.view.ensures.fault fault).1 is))

pub returns-in_ok-put_signature-in-Ok-clause-told : goal.returns-in_ok-put_signature-in-Ok-clause-told
returns-in_ok-put_signature-in-Ok-clause-told c =
    λ signature is.
    c.in_ok-put_signature-in-Ok.ensures
    ∙ ap (λ (it : Signature). c.args.text.now.items ++ signature_text (length c.args.bytes.now) it) (c.signature_or_fault.ensures.one_signature _ _ _ c.in-Ok.ensures.signature is)

pub returns-in_ok-put_signature-in-Ok-clause-fault : goal.returns-in_ok-put_signature-in-Ok-clause-fault
returns-in_ok-put_signature-in-Ok-clause-fault c = λ fault is. absurd (never c.view.result c.in-Ok.signature fault c.in-Ok.is ((c.view.ensures.fault fault).1 is))

pub returns-in_ok-put_signature-in-Ok-clause-stays : goal.returns-in_ok-put_signature-in-Ok-clause-stays
returns-in_ok-put_signature-in-Ok-clause-stays c = λ fault is. absurd (never c.view.result c.in-Ok.signature fault c.in-Ok.is ((c.view.ensures.fault fault).1 is))

pub returns-in-Err-clause-fault : goal.returns-in-Err-clause-fault
returns-in-Err-clause-fault c = λ fault is. same c.view.result c.in-Err.fault fault c.in-Err.is ((c.view.ensures.fault fault).1 is)
