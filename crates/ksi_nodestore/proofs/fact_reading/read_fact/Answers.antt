use Rattle.std.proofs.Common.{◌∙◌, List, ℕ, ap, sym, slice_index}
use Rattle.ksi_nodestore.specs.TextReading.{what_at}
use Rattle.ksi_nodestore.proofs.Sound.{no_fact, what_none}
use Rattle.ksi_nodestore.proofs.fact_reading.read_fact.Goals as goal

pub returns-in-None-clause-sound : goal.returns-in-None-clause-sound
returns-in-None-clause-sound c =
    let bytes = c.args.bytes.now in
    let rest_is = ap (λ (l : List ℕ). what_at (slice_index bytes 0) l) c.split_at-2.ensures.back in
    no_fact bytes (what_none bytes (sym rest_is ∙ sym c.in_ok-read_what.ensures.read ∙ c.in-None.is))
