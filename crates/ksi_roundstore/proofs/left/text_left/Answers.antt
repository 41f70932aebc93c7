use Rattle.std.specs.Ordering.{nat_cmp}
use Rattle.std.specs.BTreeSet.{contains}
use Rattle.ksi_roundstore.proofs.NewFile.{file_left}
use Rattle.ksi_roundstore.proofs.left.text_left.Goals as goal

pub returns : goal.returns
returns c = λ facts file of header_is records_are.
    file_left c.records_are_read_again.ensures.closed c.facts_left_are_lawful.ensures.lawful c.args.me c.args.plan.now c.args.before facts file c.args.header.now _ _ _ c.args.records.now (λ t. contains nat_cmp c.in_ok-answered.answered t) _ _ of header_is c.requires.header records_are
    c.in_ok-answered.ensures c.in_ok-left.ensures c.in_ok-text.ensures c.in_ok-close.ensures c.count_of-records.ensures
