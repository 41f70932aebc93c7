use Rattle.std.proofs.Common.{◌∙◌, ap, Ok, List, ℕ, ◌∷◌}
use Rattle.ksi_imprint.proofs.HexDigits.{digest_behind}
use Rattle.ksi_imprint.proofs.imprint.Imprint.write_hex.Goals as goal

pub returns-clause-read_again : goal.returns-clause-read_again
returns-clause-read_again c =
    c.write_digits.ensures.read_again
    ∙ ap (λ (digest : List ℕ). Ok (1 ∷ digest)) c.split_at.ensures.back
    ∙ ap Ok (digest_behind c.self.inside.bytes c.self.invariant c.self.told ∙ c.self.view_is)
