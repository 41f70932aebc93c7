-- What the trait asks, by the clauses of these files. Nothing is told of what they hold.
use Rattle.std.proofs.Common.{refl}
use Rattle.ksi_ports.proofs.ReadLemmas.{load_takes}
use Rattle.ksi_ports.proofs.host_files.HostFilesFiles.TheImpl.Goals as goal

pub load-tells : goal.load-tells
load-tells g c = record {
  later = c.ensures.later;
  called = c.ensures.called;
  unsaved = c.ensures.saves;
  counted = c.ensures.counted;
  failed = c.ensures.failed;
  taken = load_takes c.args.most c.args.self.now.taken c.new.self.now.taken c.result c.ensures.takes;
  last = load_takes c.args.most 0 c.new.self.now.last_taken c.result c.ensures.last;
  within = c.ensures.within;
  told = λ told. cc;
  lacks = λ told. cc;
  stays = refl;
}

pub save-tells : goal.save-tells
save-tells g c = record { later = c.ensures.later; called = c.ensures.called; saved = c.ensures.saved; counted = c.ensures.counted; unloaded = c.ensures.unloaded; taken = c.ensures.taken; last = c.ensures.last; leaves = λ told. cc }
