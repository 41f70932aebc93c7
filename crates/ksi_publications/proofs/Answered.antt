-- What is read in bytes are the times and hashes of the file that they are, or its first fault.
use Rattle.std.proofs.Common.{◌≡◌, ℕ, Bool, true, false, cond, eqb, List, [], ◌∷◌, ◌++◌, Option, Some, None, Ok, Err, refl, sym, ap, ◌∙◌, subst, inl}
use Rattle.std.specs.Prelude.{◌↔◌}
use Rattle.std.proofs.lemmas.Bool.{eqb-true, eq-eqb}
use Rattle.ksi_tlv.specs.Walking.{elements}
use Rattle.ksi_tlv.specs.declared.grammar.fault.ElementFault.{ElementFault}
use Rattle.ksi_tlv.specs.declared.grammar.fault.ElementFault.TheVariants as faults
use Rattle.ksi_tlv.specs.Table.{Verdict}
use Rattle.ksi_tlv.specs.Containing.{container_verdict}
use Rattle.ksi_tlv.specs.Valid.{IsContainer}
use Rattle.ksi_tlv.specs.Inside.{whole}
use Rattle.ksi_publications.specs.declared.fault.PublicationsFault.{PublicationsFault}
use Rattle.ksi_publications.specs.Tables.{file_table}
use Rattle.ksi_publications.specs.File.{magic, pairs_of, IsNamed, IsPublications, IsPublicationsFault}
use Rattle.ksi_publications.specs.Reading.{behind, name_of, Read, read_as, read_behind, publications_at}
use Rattle.ksi_publications.proofs.Named.{AreByTable, file_named}
use Rattle.ksi_publications.proofs.Files.{Laws, whole-items_of, not_both, one_list, one_fault, file_of, fault_of}

abbrev given : List (ℕ × List ℕ) → Read
given pairs = Ok pairs

abbrev refused : PublicationsFault → Read
refused fault = Err fault

abbrev found : List ℕ → Option (List ℕ)
found rest = Some rest

abbrev missed : Option (List ℕ)
missed = None

-- ---- the magic

same_head : (b c : ℕ) (is : Bool) (front bytes rest : List ℕ) → eqb b c ≡ is → cond is (behind front bytes) None ≡ found rest → (b ≡ c) × (behind front bytes ≡ found rest)
same_head b c true front bytes rest test e = (eqb-true b c test, e)
same_head b c false front bytes rest test e = absurd cc

is_behind : (front bytes rest : List ℕ) → behind front bytes ≡ found rest → bytes ≡ front ++ rest
is_behind [] bytes rest e = cc
is_behind (b ∷ front) [] rest e = absurd cc
is_behind (b ∷ front) (c ∷ bytes) rest e =
    let both = same_head b c (eqb b c) front bytes rest refl e in
    let tail = is_behind front bytes rest both.1 in
    let head = both.0 in cc

behind_of : (front rest : List ℕ) → behind front (front ++ rest) ≡ found rest
behind_of [] rest = refl
behind_of (b ∷ front) rest = rw (eq-eqb b b refl) (behind_of front rest)

not_behind : (front bytes rest : List ℕ) → behind front bytes ≡ missed → bytes ≡ front ++ rest → ⊥
not_behind front bytes rest e begins =
    let some : behind front bytes ≡ found rest = rw begins (behind_of front rest) in
    let no : missed ≡ found rest = sym e ∙ some in absurd cc

-- ---- the names

is_name : (fault : ElementFault) (other : PublicationsFault) → IsNamed fault other → other ≡ name_of fault
is_name (faults.Tlv place) other e = e
is_name (faults.RefusedElement kind place) other e = e
is_name (faults.UnknownCritical kind place) other e = e
is_name (faults.Missing kind place) other e = e
is_name (faults.Repeated kind place) other e = e
is_name (faults.Imprint place) other e = e
is_name (faults.Number place) other e = e
is_name (faults.Time place) other e = e
is_name (faults.Algorithm value) other e = absurd e
is_name (faults.Links place) other e = absurd e
is_name (faults.Chains place) other e = absurd e
is_name (faults.Sibling place) other e = absurd e

-- ---- what is read

abbrev Is : List ℕ → Read → Type 0
Is bytes (Ok pairs) = IsPublications bytes pairs
Is bytes (Err fault) = IsPublicationsFault bytes fault

read_inside : (laws : Laws) → AreByTable → (bytes rest : List ℕ) (v : Verdict) → bytes ≡ magic ++ rest → container_verdict file_table 0 8 rest ≡ v
    → Is bytes (read_as (pairs_of (whole (elements 8 rest))) v)
read_inside laws law bytes rest (Ok u) begins is =
    let c = (laws.whole file_table 0 8 rest refl).0 is in
    let same = sym (whole-items_of c.0) ∙ ap whole (sym c.1.split) in
    file_of bytes rest (pairs_of (whole (elements 8 rest))) begins (subst (IsContainer file_table 8 rest) same c.1) refl
read_inside laws law bytes rest (Err inner) begins is =
    let named = file_named law 0 8 rest inner is in
    fault_of laws bytes rest inner (name_of inner) begins is (subst (IsNamed inner) (is_name inner named.0 named.1) named.1)

read_from : (laws : Laws) → AreByTable → (bytes : List ℕ) (r : Option (List ℕ)) → behind magic bytes ≡ r → Is bytes (read_behind r)
read_from laws law bytes None e = inl (record { begins = λ rest begins. not_behind magic bytes rest e begins; named = refl })
read_from laws law bytes (Some rest) e = read_inside laws law bytes rest (container_verdict file_table 0 8 rest) (is_behind magic bytes rest e) refl

is_at : (laws : Laws) → AreByTable → (bytes : List ℕ) → Is bytes (publications_at bytes)
unfolding publications_at
is_at laws law bytes = read_from laws law bytes (behind magic bytes) refl

ok_of : (laws : Laws) (bytes : List ℕ) (pairs : List (ℕ × List ℕ)) (r : Read) → Is bytes r → IsPublications bytes pairs → r ≡ given pairs
ok_of laws bytes pairs (Ok others) is file = ap given (one_list bytes others pairs is file)
ok_of laws bytes pairs (Err fault) is file = absurd (not_both laws bytes pairs fault file is)

err_of : (laws : Laws) (bytes : List ℕ) (fault : PublicationsFault) (r : Read) → Is bytes r → IsPublicationsFault bytes fault → r ≡ refused fault
err_of laws bytes fault (Ok pairs) is f = absurd (not_both laws bytes pairs fault is f)
err_of laws bytes fault (Err other) is f = ap refused (one_fault laws bytes other fault is f)

pub pairs_read : (laws : Laws) → AreByTable → (bytes : List ℕ) (pairs : List (ℕ × List ℕ)) → (publications_at bytes ≡ Ok pairs) ↔ IsPublications bytes pairs
pairs_read laws law bytes pairs = (λ e. subst (Is bytes) e (is_at laws law bytes), λ file. ok_of laws bytes pairs (publications_at bytes) (is_at laws law bytes) file)

pub fault_read : (laws : Laws) → AreByTable → (bytes : List ℕ) (fault : PublicationsFault) → (publications_at bytes ≡ Err fault) ↔ IsPublicationsFault bytes fault
fault_read laws law bytes fault = (λ e. subst (Is bytes) e (is_at laws law bytes), λ f. err_of laws bytes fault (publications_at bytes) (is_at laws law bytes) f)
