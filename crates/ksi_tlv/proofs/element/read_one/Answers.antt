use Rattle.std.proofs.Common.{arith, sym}
use Rattle.ksi_tlv.proofs.ReadLaws.{is_found, is_only, is_ok, is_short}
use Rattle.ksi_tlv.proofs.element.read_one.Goals as goal

pub returns-clause-found : goal.returns-clause-found
returns-clause-found c = is_found c.args.bytes.now c.front.result (λ i. omega (arith, c.type_inv.bytes i)) (sym c.front.ensures.exact)

pub returns-clause-only : goal.returns-clause-only
returns-clause-only c = λ e text rest spells is. is_only c.args.bytes.now c.front.result e text rest (sym c.front.ensures.exact) spells is

pub returns-clause-ok : goal.returns-clause-ok
returns-clause-ok c = is_ok c.args.bytes.now c.front.result (sym c.front.ensures.exact)

pub returns-clause-short : goal.returns-clause-short
returns-clause-short c = is_short c.args.bytes.now c.front.result (sym c.front.ensures.exact) c.front.ensures.have
