use Rattle.std.specs.Prelude.{◌&&◌, nat_lt}
use Rattle.std.specs.Ordering.{nat_cmp}
use Rattle.std.specs.BTreeSet.{contains}
use Rattle.ksi_roundstore.proofs.PutBehind.{put_from}
use Rattle.ksi_roundstore.proofs.putting.put_left.Goals as goal

pub returns : goal.returns
returns c =
    put_from c.args.plan.now c.args.me (λ t. nat_lt t c.args.before && contains nat_cmp c.args.answered.now t) c.args.content.now c.last_line.result.now c.args.text.now.items c.put_stays.new.text.items c.in_ok-kind.kind c.what_stays-stays.result c.put_stays.result
    c.in_ok-kind.ensures c.what_stays-stays.ensures c.last_line.ensures c.put_stays.ensures
