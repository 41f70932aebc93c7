use Rattle.std.proofs.Common.{ℕ, List, ◌+◌, ◌∙◌, ap, sym, length}
use Rattle.ksi_disk.specs.Gates.{place_of, records_text}
use Rattle.ksi_roundstore.proofs.opening.read_settled.Goals as goal

pub find-requires-clause-end : goal.find-requires-clause-end
find-requires-clause-end g c =
    let file = g.D.Disk.content c.read_header.new.disk in
    ap (λ (rs : List (List ℕ)). 20 + length (records_text rs)) c.in_ok-read.ensures.records ∙ c.records_stand_one_after_the_other.ensures 20 file ∙ sym (ap place_of c.in_ok-read.ensures.ending)
