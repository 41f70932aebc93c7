use Rattle.std.proofs.Common.{◌≡◌, ◌+◌, ℕ, List, [], Bool, sym, subst, arith, get_or, refl}
use Rattle.ksi_nodestore.specs.Stores.{GoesOn}
use Rattle.ksi_nodestore.proofs.Onward.{core_more, fault_here, place_more, place_within}
use Rattle.ksi_nodestore.proofs.folding.fold_records.Goals as goal

pub folding-init : goal.folding-init
folding-init g c = record {
  so_far = ([], record { texts = tt; lawful = c.facts_one_by_one.ensures.none c.args.plan.now.cores c.args.plan.now.start }, c.one_core_of_facts.ensures.none g.C.Compress.image c.args.me c.args.plan.now c.new-core.result c.new-core.ensures.me c.new-core.ensures.plan c.new-core.ensures.start c.new-core.ensures.seconds);
  here = refl;
}

pub returns-then-not-branch : goal.returns-then-not-branch
returns-then-not-branch g c =
    let records = c.args.records.now in
    let k = c.folding.k in
    let content = c.get-content.result.now in
    let is : content ≡ get_or records k content = c.get-content.ensures content in
    let of = c.folding.invariant.so_far in
    let none = subst (λ (b : Bool). GoesOn g.C.Compress.image c.args.me c.args.plan.now of.0 content c.fold_record.new.core b) c.if-not-branch.true (c.in_ok-fold_record.ensures c.args.me c.args.plan.now of.0 of.1.lawful of.2) in
    fault_here c.args.plan.now.cores c.args.plan.now.start of.0 records k c.folding.place content (omega arith) is c.folding.invariant.here of.1 none

pub overflow_add-place-in-folding : goal.overflow_add-place-in-folding
overflow_add-place-in-folding g c =
    let records = c.args.records.now in
    let k = c.folding.k in
    let content = c.get-content.result.now in
    let is : content ≡ get_or records k content = c.get-content.ensures content in
    let more = place_more records k c.folding.place content (omega arith) is c.folding.invariant.here in
    omega (arith, more, place_within records (k + 1))

pub folding-preserved : goal.folding-preserved
folding-preserved g c =
    let records = c.args.records.now in
    let k = c.folding.k in
    let content = c.get-content.result.now in
    let is : content ≡ get_or records k content = c.get-content.ensures content in
    let of = c.folding.invariant.so_far in
    let on = subst (λ (b : Bool). GoesOn g.C.Compress.image c.args.me c.args.plan.now of.0 content c.fold_record.new.core b) c.if-not-branch.false (c.in_ok-fold_record.ensures c.args.me c.args.plan.now of.0 of.1.lawful of.2) in
    record {
      so_far = core_more g.C.Compress.image c.args.me c.args.plan.now records k content c.folding.core (omega arith) is of c.fold_record.new.core on;
      here = place_more records k c.folding.place content (omega arith) is c.folding.invariant.here;
    }
