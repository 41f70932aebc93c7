use Rattle.std.proofs.Common.{◌≡◌, ◌∙◌, List, ℕ, length, vec_len, rules, sym, ap}
use Rattle.ksi_disk.proofs.Cutting.{length_cut}
use Rattle.ksi_disk.proofs.records.Records.len.Goals as goal

pub returns : goal.returns
returns c =
    let inside = c.self.inside in
    let count : vec_len inside.ends ≡ length inside.ends.items = search rules in
    c.len.ensures ∙ count ∙ sym (length_cut inside.bytes.items 0 inside.ends.items) ∙ ap (λ (l : List (List ℕ)). length l) c.self.view_is
