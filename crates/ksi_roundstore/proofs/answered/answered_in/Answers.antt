use Rattle.std.proofs.Common.{◌≡◌, ◌∙◌, ℕ, List, get_or, sym, ap, subst, arith}
use Rattle.std.specs.Prelude.{is_some}
use Rattle.std.specs.Ordering.{nat_cmp}
use Rattle.std.specs.BTreeSet.{contains}
use Rattle.ksi_aggregator.specs.declared.fact.Fact.{Fact}
use Rattle.ksi_aggregator.specs.Lawful.{stored_by}
use Rattle.ksi_roundstore.proofs.Folded.{texts_size}
use Rattle.ksi_roundstore.proofs.Telling.{noted_more, take_whole}
use Rattle.ksi_roundstore.proofs.answered.answered_in.Goals as goal

pub noting-preserved : goal.noting-preserved
noting-preserved c = λ facts are t.
    let records = c.args.records.now in
    let k = c.noting.k in
    let content = c.get.result.now in
    let is : content ≡ get_or records k content = c.get.ensures content in
    noted_more c.args.plan.now c.args.me c.facts_one_by_one.ensures.stored facts records k content are (omega arith) is
    (λ u. contains nat_cmp c.noting.answered u) (λ u. contains nat_cmp c.note.new.answered u) (c.noting.invariant facts are) c.in_ok-note.ensures t

pub returns : goal.returns
returns c = λ facts are t.
    c.noting.invariant facts are t
    ∙ ap (λ (l : List Fact). is_some (stored_by l t).answered) (take_whole facts c.noting.k (omega (arith, texts_size c.args.plan.now c.args.me facts c.args.records.now are)))
