-- Words that no row asks for: each row has another name, or another count of words.
use Rattle.std.proofs.Common.{◌≡◌, Bool, true, false, ℕ, List, [], ◌∷◌, length, Result, Err, refl, sym, nat_eq}
use Rattle.std.specs.Prelude.{if◌then◌else◌}
use Rattle.std.proofs.lemmas.Slice.Eq.{bytes_eq-Decides}
use Rattle.std.specs.Str.{bytes_eq}
use Rattle.clap.specs.Walk.{Text}
use Rattle.ksi_words.specs.Words.{Asked, CommandForm, asked_by, command_named}
use Rattle.ksi_words.specs.declared.asked.WordsRefusal.{WordsRefusal}
use Rattle.ksi_words.specs.declared.asked.WordsRefusal.TheVariants.{Words}

abbrev pub Also : Bool → Type 0 → Type 0 → Type 0
Also true P rest = P × rest
Also false P rest = rest

-- it is the name of none of the rows that have so many words
abbrev pub IsUnnamed : List CommandForm → Text → ℕ → Type 0
IsUnnamed [] name n = Unit {0}
IsUnnamed (row ∷ rows) name n = Also (nat_eq n (length row.sorts)) (name ≡ row.name → ⊥) (IsUnnamed rows name n)

differs : (one other : Text) (b : Bool) → bytes_eq one other ≡ b → (other ≡ one → ⊥) → bytes_eq one other ≡ false
differs one other true e not = absurd (not (sym ((bytes_eq-Decides one other).0 e)))
differs one other false e not = e

either : (b : Bool) (one other refused : Result Asked WordsRefusal) → one ≡ refused → other ≡ refused → (if b then one else other) ≡ refused
either true one other refused e f = e
either false one other refused e f = f

miscounted : (row : CommandForm) (words : List Text) → nat_eq (length words) (length row.sorts) ≡ false → asked_by row words ≡ Err Words
miscounted row words other = rw other refl

refused_next : (b : Bool) (row : CommandForm) (rows : List CommandForm) (name : Text) (words : List Text) → nat_eq (length words) (length row.sorts) ≡ b → Also b (name ≡ row.name → ⊥) (IsUnnamed rows name (length words)) → (IsUnnamed rows name (length words) → command_named rows name words ≡ Err Words) → command_named (row ∷ rows) name words ≡ Err Words
refused_next true row rows name words same unnamed rest = rw (differs row.name name (bytes_eq row.name name) refl unnamed.0) (rest unnamed.1)
refused_next false row rows name words other unnamed rest = either (bytes_eq row.name name) (asked_by row words) (command_named rows name words) (Err Words) (miscounted row words other) (rest unnamed)

pub unnamed_refused : (rows : List CommandForm) (name : Text) (words : List Text) → IsUnnamed rows name (length words) → command_named rows name words ≡ Err Words
unnamed_refused [] name words unnamed = refl
unnamed_refused (row ∷ rows) name words unnamed = refused_next (nat_eq (length words) (length row.sorts)) row rows name words refl unnamed (unnamed_refused rows name words)
