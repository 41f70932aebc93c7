use Rattle.ksi_forgetting.specs.Puts.{is_early}
use Rattle.ksi_forgetting.proofs.PutBehind.{put_from}
use Rattle.ksi_forgetting.proofs.putting.put_left.Goals as goal

pub returns : goal.returns
returns c =
    put_from (is_early c.args.start c.args.horizon) c.in_ok-stays.stays c.args.content.now c.args.text.now.items c.put_where.new.text.items c.put_where.result c.in_ok-stays.ensures c.put_where.ensures
