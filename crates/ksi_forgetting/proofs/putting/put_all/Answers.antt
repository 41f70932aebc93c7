use Rattle.std.proofs.Common.{◌≡◌, ℕ, List, get_or, sym, subst, arith}
use Rattle.ksi_forgetting.specs.Puts.{is_early}
use Rattle.ksi_forgetting.proofs.PutBehind.{none_put, put_more}
use Rattle.ksi_forgetting.proofs.putting.put_all.Goals as goal

pub putting-init : goal.putting-init
putting-init c = none_put (is_early c.args.start c.args.horizon) c.args.records.now c.args.text.now.items

pub putting-preserved : goal.putting-preserved
putting-preserved c =
    let records = c.args.records.now in
    let k = c.putting.k in
    let content = c.get.result.now in
    let is : content ≡ get_or records k content = c.get.ensures content in
    put_more (is_early c.args.start c.args.horizon) records k content c.args.text.now.items c.putting.text.items c.put_left.new.text.items c.putting.count c.in_ok-more.more (omega arith) is
    c.putting.invariant c.in_ok-more.ensures
