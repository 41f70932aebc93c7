use Rattle.std.proofs.Common.{◌∙◌, List, ℕ, ap, take}
use Rattle.ksi_disk.specs.Gates.{reading_of}
use Rattle.ksi_forgetting.proofs.Nothing.{nothing_then, one_read}
use Rattle.ksi_forgetting.proofs.left.read_left.Goals as goal

pub returns-clause-left : goal.returns-clause-left
returns-clause-left g c =
    let content = g.D.Disk.content in
    c.in_ok-left.ensures c.requires.file.facts (content c.args.disk.now) c.requires.file.of c.requires.file.held
    (c.in_ok-header.ensures.front ∙ ap (λ (file : List ℕ). take 18 file) c.in_ok-len.ensures.stays)
    (c.in_ok-log.ensures.records ∙ ap (λ (file : List ℕ). (reading_of 18 file).records) (c.in_ok-header.ensures.stays ∙ c.in_ok-len.ensures.stays))

pub returns-in_err-header-clause-nothing : goal.returns-in_err-header-clause-nothing
returns-in_err-header-clause-nothing g c =
    let d = g.D.Disk in
    nothing_then d.images d.moment d.images_since d.meter g.met.D.Disk.only_now c.args.disk.now c.len.new.self c.header_of.new.disk
    (one_read d.images d.moment d.images_since d.meter g.met.D.Disk.only_now c.args.disk.now c.len.new.self c.len.ensures.no_image c.len.ensures.time c.len.ensures.unspent) c.header_of.ensures.nothing

pub returns-in_err-left-clause-nothing : goal.returns-in_err-left-clause-nothing
returns-in_err-left-clause-nothing g c =
    let d = g.D.Disk in
    nothing_then d.images d.moment d.images_since d.meter g.met.D.Disk.only_now c.args.disk.now c.header_of.new.disk c.read_log.new.disk
    (nothing_then d.images d.moment d.images_since d.meter g.met.D.Disk.only_now c.args.disk.now c.len.new.self c.header_of.new.disk
    (one_read d.images d.moment d.images_since d.meter g.met.D.Disk.only_now c.args.disk.now c.len.new.self c.len.ensures.no_image c.len.ensures.time c.len.ensures.unspent) c.header_of.ensures.nothing)
    c.read_log.ensures.nothing

pub returns-clause-nothing : goal.returns-clause-nothing
returns-clause-nothing g c =
    let d = g.D.Disk in
    nothing_then d.images d.moment d.images_since d.meter g.met.D.Disk.only_now c.args.disk.now c.header_of.new.disk c.read_log.new.disk
    (nothing_then d.images d.moment d.images_since d.meter g.met.D.Disk.only_now c.args.disk.now c.len.new.self c.header_of.new.disk
    (one_read d.images d.moment d.images_since d.meter g.met.D.Disk.only_now c.args.disk.now c.len.new.self c.len.ensures.no_image c.len.ensures.time c.len.ensures.unspent) c.header_of.ensures.nothing)
    c.read_log.ensures.nothing
