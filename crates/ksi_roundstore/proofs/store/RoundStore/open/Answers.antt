use Rattle.std.proofs.Common.{◌∙◌, ap, sym}
use Rattle.ksi_roundstore.specs.Stores.{IsFileOf}
use Rattle.ksi_roundstore.proofs.Folded.{store_found, texts_size}
use Rattle.ksi_roundstore.proofs.store.RoundStore.open.Goals as goal

pub returns-in-Ok-clause-opens : goal.returns-in-Ok-clause-opens
returns-in-Ok-clause-opens g c =
    let found = c.in-Ok.ensures.found in
    let me = c.args.me in
    let plan = c.args.plan.now in
    let content = g.D.Disk.content in
    let facts = found.folded.0 in
    let file : IsFileOf me plan facts (content c.args.disk) = record { gate = c.in-Ok.found.gate; head = found.head; texts = found.folded.1.texts; lawful = found.folded.1.lawful; closed = found.closed } in
    let has = c.one_aggregator_of_facts.ensures.has me facts c.in-Ok.found.aggregator found.folded.1.lawful found.folded.2 in (
      facts,
      file,
      found.folded.2,
      store_found content g.D.Disk.images me plan facts (content c.args.disk) c.in-Ok.found.aggregator c.new-log.result c.in-Ok.found.records file found.folded.2 has
          c.new-log.ensures.settled c.new-log.ensures.from (ap content c.new-log.ensures.disk ∙ c.in-Ok.ensures.stays),
      found.counted ∙ sym (texts_size plan me facts _ found.folded.1.texts),
    )
