-- The line of a message, compared with a line that came.
use Rattle.std.proofs.Common.{◌≡◌, ◌↔◌, [], ◌∷◌, ◌++◌, Bool, codes, refl, sym, ap, ◌∙◌}
use Rattle.std.specs.Prelude.{IsTrue}
use Rattle.ksi_schedule.specs.Pieces.{Text}

ends_alike : (one other : Text) → one ++ 10 ∷ [] ≡ other ++ 10 ∷ [] → one ≡ other
ends_alike [] [] same = refl
ends_alike [] (c ∷ []) same = absurd (cc same)
ends_alike [] (c ∷ d ∷ other) same = absurd (cc same)
ends_alike (b ∷ []) [] same = absurd (cc same)
ends_alike (b ∷ c ∷ one) [] same = absurd (cc same)
ends_alike (b ∷ one) (c ∷ other) same =
    let first : b ≡ c = cc same in
    let rest : one ++ 10 ∷ [] ≡ other ++ 10 ∷ [] = cc same in
    let more = ends_alike one other rest in
    λ i. first i ∷ more i

-- both are lines with their line feeds
pub same_lines : (is : Bool) (sent line words came : Text) → sent ≡ words ++ 10 ∷ [] → line ≡ (codes "send " ++ came) ++ 10 ∷ [] → IsTrue is ↔ (sent ≡ line) → IsTrue is ↔ (words ≡ codes "send " ++ came)
same_lines is sent line words came sent_is line_is told = (
  λ yes. ends_alike words (codes "send " ++ came) (sym sent_is ∙ told.0 yes ∙ line_is),
  λ same. told.1 (sent_is ∙ ap (λ (t : Text). t ++ 10 ∷ []) same ∙ sym line_is),
)
