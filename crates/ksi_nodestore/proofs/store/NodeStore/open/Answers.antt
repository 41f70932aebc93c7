use Rattle.std.proofs.Common.{◌<◌, ◌∙◌, ap, arith}
use Rattle.ksi_nodestore.specs.Stores.{IsFileOf}
use Rattle.ksi_nodestore.proofs.Acknowledged.{store_found}
use Rattle.ksi_nodestore.proofs.store.NodeStore.open.Goals as goal

pub invariant_of-result : goal.invariant_of-result
invariant_of-result g c = λ fresh.
    let found = c.in-Ok.ensures.found in
    let me = c.args.me in
    let plan = c.args.plan.now in
    let content = g.D.Disk.content in
    let facts = found.folded.0 in
    let file : IsFileOf me plan facts (content c.args.disk) = record { gate = c.in-Ok.found.gate; head = found.head; are = found.folded.1; closed = found.closed } in
    let few = c.cores.ensures.limits.few in
    let below : me < 9 = omega arith in
    let there : me < plan.cores = omega arith in
    let has = c.one_core_of_facts.ensures.has g.C.Compress.image me plan facts c.in-Ok.found.core below there found.folded.1.lawful found.folded.2 in (
      me,
      plan,
      facts,
      store_found g.C.Compress.image content g.D.Disk.images me plan facts (content c.args.disk) c.in-Ok.found.core c.new-log.result c.in-Ok.found.records file found.folded.2.mine has found.counted
          c.new-log.ensures.settled c.new-log.ensures.from (ap content c.new-log.ensures.disk ∙ c.in-Ok.ensures.stays),
    )

pub returns-in-Ok-clause-opens : goal.returns-in-Ok-clause-opens
returns-in-Ok-clause-opens g c =
    let found = c.in-Ok.ensures.found in
    let me = c.args.me in
    let plan = c.args.plan.now in
    let content = g.D.Disk.content in
    let facts = found.folded.0 in
    let file : IsFileOf me plan facts (content c.args.disk) = record { gate = c.in-Ok.found.gate; head = found.head; are = found.folded.1; closed = found.closed } in
    let few = c.cores.ensures.limits.few in
    let below : me < 9 = omega arith in
    let there : me < plan.cores = omega arith in
    let has = c.one_core_of_facts.ensures.has g.C.Compress.image me plan facts c.in-Ok.found.core below there found.folded.1.lawful found.folded.2 in (
      facts,
      file,
      found.folded.2,
      store_found g.C.Compress.image content g.D.Disk.images me plan facts (content c.args.disk) c.in-Ok.found.core c.new-log.result c.in-Ok.found.records file found.folded.2.mine has found.counted
          c.new-log.ensures.settled c.new-log.ensures.from (ap content c.new-log.ensures.disk ∙ c.in-Ok.ensures.stays),
    )
