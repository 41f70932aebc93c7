-- Words as texts.
use Rattle.std.proofs.Common.{◌≡◌, ℕ, List, [], ◌∷◌, Bool, ◌||◌, refl, ap}
use Rattle.std.specs.Prelude.{String, string_bytes}
use Rattle.std.specs.List.{list_any}
use Rattle.std.specs.declared.alloc.Global.{Global}
use Rattle.ksi_words.specs.Words.{texts}

pub any_text : (p : List ℕ → Bool) (words : List (String Global)) → list_any p (texts words) ≡ list_any (λ word. p (string_bytes word)) words
any_text p [] = refl
any_text p (word ∷ words) = ap (λ b. p (string_bytes word) || b) (any_text p words)
