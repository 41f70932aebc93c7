use Rattle.std.proofs.Common.{◌≡◌, ℕ, List, get_or, sym, subst, arith}
use Rattle.std.specs.Prelude.{◌&&◌, nat_lt}
use Rattle.std.specs.Ordering.{nat_cmp}
use Rattle.std.specs.BTreeSet.{contains}
use Rattle.ksi_roundstore.proofs.PutBehind.{none_put, put_more}
use Rattle.ksi_roundstore.proofs.putting.put_all.Goals as goal

pub putting-init : goal.putting-init
putting-init c = none_put c.args.plan.now c.args.me (λ t. nat_lt t c.args.before && contains nat_cmp c.args.answered.now t) c.args.records.now c.args.text.now.items

pub putting-preserved : goal.putting-preserved
putting-preserved c =
    let records = c.args.records.now in
    let k = c.putting.k in
    let content = c.get.result.now in
    let is : content ≡ get_or records k content = c.get.ensures content in
    put_more c.args.plan.now c.args.me (λ t. nat_lt t c.args.before && contains nat_cmp c.args.answered.now t) records k content c.args.text.now.items c.putting.text.items c.put_left.new.text.items c.putting.count c.in_ok-more.more (omega arith) is
    c.putting.invariant c.in_ok-more.ensures
