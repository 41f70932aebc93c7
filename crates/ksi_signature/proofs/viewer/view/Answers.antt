use Rattle.std.proofs.Common.{◌<◌, refl, ap, arith}
use Rattle.std.proofs.lemmas.List.Elements.{All-from_get_or}
use Rattle.ksi_tlv.specs.Views.{view}
use Rattle.ksi_signature.specs.Reading.{held_by}
use Rattle.ksi_signature.specs.Seen.{seen}
use Rattle.ksi_signature.proofs.Whole.{read_is, err_found}
use Rattle.ksi_signature.proofs.viewer.view.Goals as goal

pub returns-in-Err-clause-fault : goal.returns-in-Err-clause-fault
returns-in-Err-clause-fault c =
    let fits = All-from_get_or (λ b. b < 256) c.args.bytes.now 0 (λ i lt. omega (arith, c.type_inv.bytes i)) in
    λ fault. err_found c.args.bytes.now c.in-Err.fault fault c.in-Err.ensures.fault (c.signature_or_fault.ensures.fault c.args.bytes.now fault fits)

pub new-requires-clause-elements : goal.new-requires-clause-elements
new-requires-clause-elements c = ap held_by c.in-Ok.ensures.front

pub returns-clause-signature : goal.returns-clause-signature
returns-clause-signature c =
    let fits = All-from_get_or (λ b. b < 256) c.args.bytes.now 0 (λ i lt. omega (arith, c.type_inv.bytes i)) in
    read_is (record { whole = c.whole_or_fault.ensures.whole; fault = c.whole_or_fault.ensures.fault; found = c.front_by_spelling.ensures.found; spelled = c.front_by_spelling.ensures.spelled })
    c.args.bytes.now (view c.in-Ok.found.0) c.in-Ok.found.1 (seen c.new.result) c.in-Ok.ensures.front ((c.signature_or_fault.ensures.whole c.args.bytes.now fits).0 c.in-Ok.ensures.ok) c.new.ensures.value

pub returns-clause-ok : goal.returns-clause-ok
returns-clause-ok c =
    let fits = All-from_get_or (λ b. b < 256) c.args.bytes.now 0 (λ i lt. omega (arith, c.type_inv.bytes i)) in
    (λ is. (c.signature_or_fault.ensures.whole c.args.bytes.now fits).0 c.in-Ok.ensures.ok, λ s. refl)

pub returns-clause-fault : goal.returns-clause-fault
returns-clause-fault c =
    let fits = All-from_get_or (λ b. b < 256) c.args.bytes.now 0 (λ i lt. omega (arith, c.type_inv.bytes i)) in
    let s = (c.signature_or_fault.ensures.whole c.args.bytes.now fits).0 c.in-Ok.ensures.ok in
    λ fault. (λ is. absurd cc, λ is. absurd (c.signature_or_fault.ensures.not_both c.args.bytes.now s.0 fault fits s.1 is))
