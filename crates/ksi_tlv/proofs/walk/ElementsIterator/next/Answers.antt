use Rattle.std.proofs.Common.{sym, ◌∙◌}
use Rattle.ksi_tlv.proofs.WalkLaws.{elements-empty, elements-cons, element_at-takes}
use Rattle.ksi_tlv.specs.Views.{view}
use Rattle.ksi_tlv.proofs.ReadLaws.{rest_cut}
use Rattle.ksi_tlv.proofs.walk.ElementsIterator.next.Goals as goal

pub returns-then-is_empty-clause-steps : goal.returns-then-is_empty-clause-steps
returns-then-is_empty-clause-steps c =
    let none = elements-empty c.args.self.now.place c.args.self.now.bytes.now (sym c.is_empty.ensures ∙ c.if-is_empty.true) in (none, none)

pub overflow_sub-inside : goal.overflow_sub-inside
overflow_sub-inside c = (element_at-takes c.args.self.now.bytes.now (view c.in-Ok.element) c.in-Ok.size (sym c.in-Ok.ensures.exact)).content

pub returns-in-Ok-clause-steps : goal.returns-in-Ok-clause-steps
returns-in-Ok-clause-steps c = rw c.split_at.ensures.back (elements-cons c.args.self.now.place c.args.self.now.bytes.now (view c.in-Ok.element) c.in-Ok.size (sym c.in-Ok.ensures.exact))

pub returns-in-Err-clause-steps : goal.returns-in-Err-clause-steps
returns-in-Err-clause-steps c = rest_cut c.args.self.now.place c.args.self.now.bytes.now c.in-Err.fault (sym c.is_empty.ensures ∙ c.if-is_empty.false) (sym c.in-Err.ensures.exact) c.in-Err.ensures.short
