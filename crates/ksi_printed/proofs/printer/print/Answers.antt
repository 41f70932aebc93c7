use Rattle.std.proofs.Common.{◌≡◌, ◌∙◌, List, ℕ, ◌<◌, slice_index, ap, subst}
use Rattle.ksi_imprint.specs.Imprints.{IsImprint}
use Rattle.ksi_printed.specs.Reading.{bare, reading}
use Rattle.ksi_printed.proofs.printer.print.Goals as goal

pub returns-clause-read_again : goal.returns-clause-read_again
returns-clause-read_again c =
    ap (λ (t : List ℕ). reading (bare t)) (c.from_vec.ensures ∙ c.in_ok-text.ensures)
    ∙ c.printed_is_read.ensures c.args.second c.args.root.now c.requires (subst IsImprint c.bytes.ensures.value c.bytes.ensures.imprint)
    (λ k. subst (λ (l : List ℕ). slice_index l k < 256) c.bytes.ensures.value (c.are_bytes.ensures k))
