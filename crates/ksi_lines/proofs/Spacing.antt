-- Words behind words.
use Rattle.std.proofs.Common.{◌≡◌, ℕ, List, [], ◌∷◌, ◌++◌, refl, sym, ap, ◌∙◌}
use Rattle.std.proofs.lemmas.List.{append_assoc}
use Rattle.ksi_schedule.specs.Printed.{spaced}

pub spaced_append : (words values : List (List ℕ)) → spaced (words ++ values) ≡ spaced words ++ spaced values
spaced_append [] values = refl
spaced_append (word ∷ words) values =
    ap (λ (rest : List ℕ). 32 ∷ (word ++ rest)) (spaced_append words values) ∙ ap (λ (rest : List ℕ). 32 ∷ rest) (sym (append_assoc word (spaced words) (spaced values)))

-- the first word, then words, then values, and a line feed
pub whole_line : (a b c d e first : List ℕ) (words values : List (List ℕ)) → a ≡ [] → b ≡ a ++ first → c ≡ b ++ spaced words → d ≡ c ++ spaced values → e ≡ d ++ (10 ∷ []) → e ≡ (first ++ spaced (words ++ values)) ++ (10 ∷ [])
whole_line a b c d e first words values none one two three four =
    rw (four, three, two, one, none, spaced_append words values) (ap (λ (text : List ℕ). text ++ (10 ∷ [])) (append_assoc first (spaced words) (spaced values)))
