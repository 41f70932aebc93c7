use Rattle.std.proofs.Common.{◌∙◌, List, ℕ, ap, take}
use Rattle.ksi_disk.specs.Gates.{reading_of}
use Rattle.ksi_roundstore.proofs.left.read_left.Goals as goal

pub returns-clause-left : goal.returns-clause-left
returns-clause-left g c =
    let content = g.D.Disk.content in
    c.in_ok-left.ensures c.requires.file.0 (content c.args.disk.now) c.requires.file.1
    (c.in_ok-header.ensures.front ∙ ap (λ (file : List ℕ). take 20 file) c.in_ok-len.ensures.stays)
    (c.in_ok-log.ensures.records ∙ ap (λ (file : List ℕ). (reading_of 20 file).records) (c.in_ok-header.ensures.stays ∙ c.in_ok-len.ensures.stays))
