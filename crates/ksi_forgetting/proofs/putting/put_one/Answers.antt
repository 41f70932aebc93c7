use Rattle.ksi_forgetting.proofs.PutBehind.{one_put}
use Rattle.ksi_forgetting.proofs.putting.put_one.Goals as goal

pub returns : goal.returns
returns c = one_put c.args.content.now c.args.text.now.items c.put_record.new.text.items c.put_record.result c.put_record.ensures.one c.put_record.ensures.text c.put_record.ensures.small
