use Rattle.std.proofs.Common.{ℕ, List, length, map, ap, ◌∙◌}
use Rattle.ksi_tlv.specs.Spelling.{plain}
use Rattle.ksi_tlv.specs.Writing.{texts}
use Rattle.ksi_signature.specs.Values.{Publishing}
use Rattle.ksi_signature.specs.Lengths.{capped}
use Rattle.ksi_signature.specs.Written.{publishing_elements}
use Rattle.ksi_signature.proofs.Capped.{publishing_length}
use Rattle.ksi_signature.proofs.lengths.publishing_size.Goals as goal

pub returns : goal.returns
returns c =
    let p : Publishing = record { time = c.published.inside.time; hash = c.published.inside.hash; references = c.published.inside.references; repositories = c.published.inside.repositories } in
    publishing_length p c.published_size-data.result c.bodies_size-references.result c.bodies_size-repositories.result
    c.saturating_add.result c.saturating_add-2.result c.published_size-data.ensures.value
    (c.bodies_size-references.ensures ∙ ap (λ (bodies : List (List ℕ)). capped (length (texts (map (plain 9) bodies)))) c.as_slice.ensures)
    (c.bodies_size-repositories.ensures ∙ ap (λ (bodies : List (List ℕ)). capped (length (texts (map (plain 10) bodies)))) c.as_slice-2.ensures)
    c.saturating_add.ensures c.saturating_add-2.ensures
    ∙ ap (λ (p : Publishing). capped (length (texts (publishing_elements p)))) c.published.view_is
