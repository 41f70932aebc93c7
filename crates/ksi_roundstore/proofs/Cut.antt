-- Lines behind one another are cut in one way.
use Rattle.std.proofs.Common.{◌≡◌, ℕ, eqb, true, false, List, [], ◌∷◌, ◌++◌, refl, sym, ◌∙◌, ap, subst}
use Rattle.std.proofs.lemmas.Bool.Decides.{Decides-eqb}
use Rattle.ksi_schedule.specs.Pieces.{Text}
use Rattle.ksi_schedule.proofs.Cuts.{Lacks}
use Rattle.ksi_roundstore.specs.Written.{IsLine}

pub itself : (mark : ℕ) → eqb mark mark ≡ true
itself mark = (Decides-eqb mark mark).1 refl

no_mark : {P : Type 0} (mark b : ℕ) → eqb b mark ≡ false → b ≡ mark → P
no_mark {P} mark b other is =
    let self : eqb b mark ≡ true = subst (λ (m : ℕ). eqb b m ≡ true) is (itself b) in
    let no : false ≡ true = sym other ∙ self in
    absurd (cc no)

abbrev pub tail_of : List ℕ → List ℕ
tail_of [] = []
tail_of (x ∷ xs) = xs

abbrev pub head_of : List ℕ → ℕ
head_of [] = 0
head_of (x ∷ xs) = x

-- what stands before the first mark, and what stands behind it
pub record IsSameCut (one more other others : List ℕ) : Type 0 where
  pub before : one ≡ other
  pub behind : more ≡ others

pub cut_once : (mark : ℕ) (one other more others : List ℕ) → Lacks mark one → Lacks mark other → one ++ mark ∷ more ≡ other ++ mark ∷ others → IsSameCut one more other others
cut_once mark [] [] more others first second is = record { before = refl; behind = ap tail_of is }
cut_once mark [] (b ∷ other) more others first second is = no_mark mark b second.0 (sym (ap head_of is))
cut_once mark (b ∷ one) [] more others first second is = no_mark mark b first.0 (ap head_of is)
cut_once mark (b ∷ one) (c ∷ other) more others first second is =
    let rest = cut_once mark one other more others first.1 second.1 (ap tail_of is) in
    record { before = (λ i. ap head_of is i ∷ rest.before i); behind = rest.behind }

pub line_lacks : (text : Text) → IsLine text → Lacks 10 text
line_lacks [] is = tt
line_lacks (b ∷ text) is = (is.0, line_lacks text is.1)

pub lacks_line : (text : Text) → Lacks 10 text → IsLine text
lacks_line [] is = tt
lacks_line (b ∷ text) is = (is.0, lacks_line text is.1)
