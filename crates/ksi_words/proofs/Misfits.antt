-- The rows of the table, by their names and counts.
use Rattle.std.proofs.Common.{◌≡◌, Bool, true, false, List, [], ◌∷◌, length, map, Some, Result, Err, refl, ◌∙◌, ◌⊎◌, inl, inr, subst}
use Rattle.std.specs.Str.{bytes_eq}
use Rattle.std.specs.List.{list_any}
use Rattle.clap.specs.Walk.{Text}
use Rattle.clap.specs.Words.{HasKind, fault_of, kind_of, subcommand_of}
use Rattle.clap.specs.declared.error.Error.{Error}
use Rattle.clap.specs.declared.error.kind.ErrorKind.{ErrorKind}
use Rattle.clap.specs.declared.error.kind.ErrorKind.TheVariants.{OutOfMemory}
use Rattle.ksi_words.specs.Grammar.{refusal_of}
use Rattle.ksi_words.specs.Words.{Asked, Reads, CommandForm, command_form, command_named, command_of, begins_with_dash, table}
use Rattle.ksi_words.specs.declared.asked.WordsRefusal.{WordsRefusal}
use Rattle.ksi_words.specs.declared.asked.WordsRefusal.TheVariants.{Words}
use Rattle.ksi_words.proofs.Leaf.{AllPlain, words_row}
use Rattle.ksi_words.proofs.Commands.{AllGood, all_good, Form, app_with, fits, fits_no_fault, fits_subcommand, misfit_fault}

abbrev pub form_in : CommandForm → Form
form_in row = (row.name, length row.sorts)

misfit_next : (b : Bool) (row : CommandForm) (rows : List CommandForm) (name : Text) (words : List Text) → bytes_eq row.name name ≡ b → (fits (map form_in rows) (name ∷ words) ≡ false → command_named rows name words ≡ Err Words) → fits (map form_in (row ∷ rows)) (name ∷ words) ≡ false → command_named (row ∷ rows) name words ≡ Err Words
misfit_next true row rows name words is rest =
    rw (is) (λ misfit. rw misfit refl)
misfit_next false row rows name words is rest = rw (is) rest

pub misfit_named : (rows : List CommandForm) (name : Text) (words : List Text) → fits (map form_in rows) (name ∷ words) ≡ false → command_named rows name words ≡ Err Words
misfit_named [] name words misfit = refl
misfit_named (row ∷ rows) name words misfit = misfit_next (bytes_eq row.name name) row rows name words refl (misfit_named rows name words) misfit

pub dash_refused : (words : List Text) → list_any begins_with_dash words ≡ true → command_of words ≡ Err Words
unfolding command_of
dash_refused words dash = rw dash refl

pub plain_form : (words : List Text) → AllPlain words → command_of words ≡ command_form words
unfolding command_of
plain_form words plain = rw plain refl

pub refused_kind : (expected : Result Asked WordsRefusal) (k : ErrorKind) → (k ≡ OutOfMemory) ⊎ (expected ≡ Err Words) → Reads expected (Err (refusal_of k))
refused_kind expected OutOfMemory h = tt
refused_kind expected k h = elim h [
  | inl memory ↦ absurd (cc (memory))
  | inr is ↦ is
]

-- ---- the parse by the table

abbrev pub forms : List Form
forms = map form_in table

pub forms_good : AllGood forms
forms_good = all_good forms refl

misfit_form : (words : List Text) → fits forms words ≡ false → command_form words ≡ Err Words
misfit_form [] misfit = refl
misfit_form (name ∷ words) misfit = misfit_named table name words misfit

error_by_fit : (b : Bool) (words : List Text) (e : Error) → fits forms words ≡ b → AllPlain words → HasKind (fault_of (app_with forms) words) e → Reads (command_of words) (Err (refusal_of (kind_of e)))
error_by_fit true words e fit plain kinds =
    let memory : HasKind [] e = subst (λ ks. HasKind ks e) (fits_no_fault forms words forms_good plain fit) kinds in
    refused_kind (command_of words) (kind_of e) (elim memory [
      | inl is ↦ inl is
      | inr among ↦ absurd among
    ])
error_by_fit false words e misfit plain kinds = refused_kind (command_of words) (kind_of e) (inr (plain_form words plain ∙ misfit_form words misfit))

-- a parse that fails: for want of memory, or for words that have no command's form
pub error_reads : (words : List Text) (e : Error) → AllPlain words → HasKind (fault_of (app_with forms) words) e → Reads (command_of words) (Err (refusal_of (kind_of e)))
error_reads words e plain kinds = error_by_fit (fits forms words) words e refl plain kinds

taken_by_fit : (b : Bool) (words : List Text) → fits forms words ≡ b → AllPlain words → fault_of (app_with forms) words ≡ [] → fits forms words ≡ true
taken_by_fit true words fit plain none = fit
taken_by_fit false words misfit plain none = absurd (misfit_fault forms words forms_good plain misfit none)

-- a parse that succeeds: the subcommand and its words
pub subcommand_named : (words : List Text) → AllPlain words → fault_of (app_with forms) words ≡ [] → (name : Text) × (rest : List Text) × (words ≡ name ∷ rest) × (subcommand_of (app_with forms) words ≡ Some (name, words_row rest ∷ []))
subcommand_named [] plain none = absurd (cc (taken_by_fit (fits forms []) [] refl plain none))
subcommand_named (name ∷ rest) plain none =
    let fit = taken_by_fit (fits forms (name ∷ rest)) (name ∷ rest) refl plain none in
    (name, rest, refl, fits_subcommand forms name rest forms_good plain fit)
