use Rattle.std.proofs.Common.{ℕ, length, subst}
use Rattle.ksi_forgetting.specs.Puts.{is_early, IsPutAll}
use Rattle.ksi_forgetting.proofs.NewFile.{file_left}
use Rattle.ksi_forgetting.proofs.left.text_left.Goals as goal

pub returns : goal.returns
returns c =
    let records = c.args.records.now in
    let put : IsPutAll (is_early c.args.plan.now.start c.args.horizon) records (length records) c.in_ok-text.text.items c.put_all.new.text.items c.in_ok-left.left =
    subst (λ (n : ℕ). IsPutAll (is_early n c.args.horizon) records (length records) c.in_ok-text.text.items c.put_all.new.text.items c.in_ok-left.left) c.start.ensures.start c.in_ok-left.ensures in
    λ facts file of held header_is records_are.
    file_left c.records_are_read_again.ensures.closed c.facts_left_are_valid.ensures.valid c.args._me c.args.plan.now c.args.horizon facts file c.args.header.now _ c.in_ok-text.text.items c.put_all.new.text.items records _ c.in_ok-left.left of held header_is c.requires.header records_are
    put c.in_ok-text.ensures c.in_ok-close.ensures c.count_of-records.ensures
