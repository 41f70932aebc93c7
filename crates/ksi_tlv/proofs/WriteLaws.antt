-- What is written is read again, element by element.
use Rattle.std.proofs.Common.{◌≡◌, ℕ, ◌+◌, List, [], ◌∷◌, ◌++◌, length, Ok, refl, ap, ◌∙◌}
use Rattle.std.proofs.lemmas.List.{drop_at}
use Rattle.std.specs.List.{AllByRecursion}
use Rattle.ksi_tlv.specs.Spelling.{Tlv, FitsLong, Spells}
use Rattle.ksi_tlv.specs.Walking.{placed_at, Items, elements, joined, laid, items_of}
use Rattle.ksi_tlv.specs.Writing.{written, texts, placed}
use Rattle.ksi_tlv.proofs.FrontLaws.{element_at-spelled, Spells-canonical}
use Rattle.ksi_tlv.proofs.WalkLaws.{elements-nil, elements-cons}

pub elements-spelled : (place : ℕ) (e : Tlv) (text rest : List ℕ) → Spells e text → elements place (text ++ rest) ≡ Ok (placed_at place e (length text)) ∷ elements (place + length text) rest
elements-spelled place e text rest spells =
    elements-cons place (text ++ rest) e (length text) (element_at-spelled e text rest spells)
    ∙ ap (λ (more : List ℕ). Ok (placed_at place e (length text)) ∷ elements (place + length text) more) (drop_at text rest (length text) refl)

-- Texts that stand one after the other are read as their elements.
pub elements-joined : (place : ℕ) (parts : List (Tlv × List ℕ)) → AllByRecursion (λ part. Spells part.0 part.1) parts → elements place (joined parts) ≡ items_of (laid place parts)
elements-joined place [] spelled = elements-nil place
elements-joined place (part ∷ parts) spelled =
    elements-spelled place part.0 part.1 (joined parts) spelled.0
    ∙ ap (λ (items : Items). Ok (placed_at place part.0 (length part.1)) ∷ items) (elements-joined (place + length part.1) parts spelled.1)

pub written-spelled : (es : List Tlv) → AllByRecursion FitsLong es → AllByRecursion (λ part. Spells part.0 part.1) (written es)
written-spelled [] fits = tt
written-spelled (e ∷ es) fits = (Spells-canonical e fits.0, written-spelled es fits.1)

-- The elements of what was written are those that were written.
pub elements-texts : (place : ℕ) (es : List Tlv) → AllByRecursion FitsLong es → elements place (texts es) ≡ items_of (placed place es)
elements-texts place es fits = elements-joined place (written es) (written-spelled es fits)
