-- A publication of a file as text, and of a text as file.
use Rattle.std.specs.Prelude.{◌≡◌, ℕ, List, [], ◌∷◌, Some, Result, Ok, Err}
use Rattle.ksi_ports.specs.Stored.{Held, with_file}
use Rattle.ksi_publications.specs.File.{IsPublications, publications_text}
use Rattle.ksi_publications.specs.Finding.{find}
use Rattle.ksi_printed.specs.Printed.{printed}
use Rattle.ksi_printed.specs.Reading.{bare, reading}
use Rattle.ksi_print.specs.declared.report.Halt.{Halt}
use Rattle.ksi_print.specs.declared.report.Halt.TheVariants as halts

-- the bytes under a name are a publications file, and the text is that of the root which it has first for the second
pub record IsTextOf (held : Held) (name : List ℕ) (second : ℕ) (text : List ℕ) : Type 0 where
  pub bytes : List ℕ
  pub pairs : List (ℕ × List ℕ)
  pub root : List ℕ
  pub loaded : held name ≡ Some bytes
  pub file : IsPublications bytes pairs
  pub found : find second pairs ≡ Some root
  pub is : text ≡ printed second root

-- The text under one name, up to case, spaces and line breaks, is that of a second and a root. Under the other name the publications
-- file of this pair alone is saved, created in its second, and nothing else changed.
pub record IsSaved (name out : List ℕ) (old new : Held) (publication : ℕ × List ℕ) : Type 0 where
  pub text : List ℕ
  pub loaded : old name ≡ Some text
  pub is : reading (bare text) ≡ Ok publication
  pub saved : new ≡ with_file old out (publications_text publication.0 (publication ∷ []))

-- what a call leaves that saves a file: of a refusal no file is changed
abbrev pub Leaves : {T : Type 0} → (T → Type 0) → (old new : Held) → Result T Halt → Type 0
Leaves saved old new (Ok done) = saved done
Leaves saved old new (Err (halts.Reported report)) = new ≡ old
Leaves saved old new (Err halts.Fault) = Unit {0}
Leaves saved old new (Err halts.NoMemory) = Unit {0}
