-- One root after the other.
use Rattle.std.proofs.Common.{◌≡◌, ◌∙◌, ℕ, suc, ◌+◌, List, [], ◌∷◌, ◌++◌, take, drop, Result, Ok, Err, ap, sym}
use Rattle.std.specs.List.{AllByRecursion}
use Rattle.ksi_imprint.specs.Imprints.{IsImprint}
use Rattle.ksi_imprint.specs.Reading.{imprint_at}
use Rattle.ksi_imprint.specs.declared.fault.ImprintFault.{ImprintFault}
use Rattle.ksi_calendar_files.specs.declared.fault.FileFault.TheVariants.{Imprint}
use Rattle.ksi_calendar_files.specs.Reading.{root_then, roots_from}

pub next_root : (roots more : List (List ℕ)) (place next left less : ℕ) (bytes after root : List ℕ) → left ≡ suc less → next ≡ place + 33 → more ≡ roots ++ root ∷ [] → after ≡ drop 33 bytes
    → imprint_at (take 33 bytes) ≡ Ok root → roots_from roots place left bytes ≡ roots_from more next less after
next_root roots more place next left less bytes after root left_is next_is more_is after_is ok =
    ap (λ (n : ℕ). roots_from roots place n bytes) left_is
    ∙ ap (λ (r : Result (List ℕ) ImprintFault). root_then place r (λ root. roots_from (roots ++ root ∷ []) (place + 33) less (drop 33 bytes))) ok
    ∙ (λ i. roots_from (sym more_is i) (sym next_is i) less (sym after_is i))

pub no_root : (roots : List (List ℕ)) (place left less : ℕ) (bytes : List ℕ) (fault : ImprintFault) → left ≡ suc less → imprint_at (take 33 bytes) ≡ Err fault
    → roots_from roots place left bytes ≡ Err (Imprint place)
no_root roots place left less bytes fault left_is none =
    ap (λ (n : ℕ). roots_from roots place n bytes) left_is
    ∙ ap (λ (r : Result (List ℕ) ImprintFault). root_then place r (λ root. roots_from (roots ++ root ∷ []) (place + 33) less (drop 33 bytes))) none

pub one_more : (roots : List (List ℕ)) (root : List ℕ) → AllByRecursion IsImprint roots → IsImprint root → AllByRecursion IsImprint (roots ++ root ∷ [])
one_more [] root each is = (is, tt)
one_more (first ∷ roots) root each is = (each.0, one_more roots root each.1 is)
