use Rattle.std.proofs.Common.{◌≡◌, ◌<◌, ◌++◌, ℕ, [], drop, get_or}
use Rattle.ksi_imprint.specs.Imprints.{IsImprint}
use Rattle.ksi_tlv.specs.Writing.{texts}
use Rattle.ksi_consistency.specs.Written.{imprint_elements}
use Rattle.ksi_consistency.proofs.writer.put_imprints.Given as goal

abbrev pub invariant-loop-imprint : goal.invariant-loop-imprint
invariant-loop-imprint l = record {
  text : l.writer ++ texts (imprint_elements (drop l.imprint-index l.list)) ≡ l.fn.writer ++ texts (imprint_elements l.list);
  imprints : (k : ℕ) → k < l.imprint-index → IsImprint (get_or l.list k []);
}
