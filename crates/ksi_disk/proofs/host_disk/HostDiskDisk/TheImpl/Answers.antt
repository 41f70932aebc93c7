use Rattle.std.proofs.Common.{rules, ◌≡◌, Bool, true, false, [], sym, subst}
use Rattle.ksi_disk.specs.Images.{AddsNone}
use Rattle.ksi_disk.specs.DeedLaws.{content_is_image}
use Rattle.ksi_disk.specs.Host.{HostState, images_of, after_sync}
use Rattle.ksi_disk.proofs.host_disk.HostDiskDisk.TheImpl.Goals as goal

-- whether it failed or not
adds_none : (old new : HostState) (failed : Bool) → new ≡ after_sync old failed → AddsNone (images_of old) (images_of new)
adds_none old new true after image left = subst (λ (disk : HostState). images_of disk image) after left
adds_none old new false after image left = subst (images_of old) (sym (subst (λ (disk : HostState). images_of disk image) after left)) (content_is_image [] old.deeds)

pub sync-tells : goal.sync-tells
sync-tells c =
    record {
      durable = search rules;
      stays = search rules;
      no_image = adds_none c.args.self.now c.new.self.now _ c.ensures.after;
      time = search rules;
      counted = c.ensures.counted;
      spent = search rules;
      sure = search rules;
    }
