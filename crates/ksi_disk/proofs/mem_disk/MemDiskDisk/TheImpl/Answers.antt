use Rattle.ksi_disk.specs.Deeds.{sync_fails}
use Rattle.ksi_disk.proofs.SyncLemmas.{sync_durable, sync_stays, sync_no_image, sync_time, sync_spent, sync_sure}
use Rattle.ksi_disk.proofs.mem_disk.MemDiskDisk.TheImpl.Goals as goal

pub sync-tells : goal.sync-tells
sync-tells c =
    let old = c.args.self.now in
    let new = c.new.self.now in
    record {
      durable = sync_durable old new c.result (sync_fails old) c.ensures.answers c.ensures.after;
      stays = sync_stays old new c.result (sync_fails old) c.ensures.answers c.ensures.after;
      no_image = sync_no_image old new (sync_fails old) c.ensures.after;
      time = sync_time old new (sync_fails old) c.ensures.after;
      counted = c.ensures.counted;
      spent = sync_spent old new (sync_fails old) c.ensures.after;
      sure = sync_sure old c.result c.ensures.answers;
    }
