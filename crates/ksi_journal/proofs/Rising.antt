-- Values that rise, one more at a time.
use Rattle.std.proofs.Common.{◌≡◌, ℕ, ◌+◌, ◌≤◌, leb, List, [], ◌∷◌, ◌++◌, map, Ok, refl, sym, ap, subst, ◌∙◌, arith}
use Rattle.std.specs.List.{AllByRecursion}
use Rattle.std.proofs.lemmas.Bool.{leb-true}
use Rattle.std.proofs.lemmas.List.{map-append}
use Rattle.ksi_tlv.specs.declared.order.fault.OrderFault.TheVariants as orders
use Rattle.ksi_tlv.proofs.Steps.{all_more, test_ok}
use Rattle.ksi_journal.specs.Journal.{RiseFrom}
use Rattle.ksi_journal.specs.Elements.{rises}

-- the least that may stand behind numbers
abbrev pub least_behind : ℕ → List ℕ → ℕ
least_behind least [] = least
least_behind least (n ∷ others) = least_behind (n + 1) others

pub rise_more : (least : ℕ) (ns : List ℕ) (n : ℕ) → RiseFrom least ns → least_behind least ns ≤ n → RiseFrom least (ns ++ n ∷ []) × (least_behind least (ns ++ n ∷ []) ≡ n + 1)
rise_more least [] n rise le = ((le, tt), refl)
rise_more least (m ∷ ns) n rise le = let more = rise_more (m + 1) ns n rise.1 le in ((rise.0, more.0), more.1)

-- values by rising keys, behind which a next one may stand
pub record Rises {A : Type 0} (key : A → ℕ) (least : ℕ) (xs : List A) (next : ℕ) : Type 0 where
  pub rise : RiseFrom least (map key xs)
  pub behind : least_behind least (map key xs) ≤ next

pub rises_more : {A : Type 0} (key : A → ℕ) (least : ℕ) (xs : List A) (next : ℕ) (x : A) → Rises key least xs next → next ≤ key x → Rises key least (xs ++ x ∷ []) (key x + 1)
rises_more key least xs next x rises le =
    let behind = rises.behind in
    let more = rise_more least (map key xs) (key x) rises.rise (omega (arith, behind)) in
    let same : map key (xs ++ x ∷ []) ≡ map key xs ++ key x ∷ [] = map-append key xs (x ∷ []) in
    record { rise = subst (RiseFrom least) (sym same) more.0; behind = (let e = ap (least_behind least) same ∙ more.1 in omega (arith, e)) }

-- the same, where each is such a value
pub record Keeps {A : Type 0} (P : A → Type 0) (key : A → ℕ) (least : ℕ) (xs : List A) (next : ℕ) : Type 0 where
  pub each : AllByRecursion P xs
  pub rises : Rises key least xs next

pub keeps_more : {A : Type 0} (P : A → Type 0) (key : A → ℕ) (least : ℕ) (xs : List A) (next : ℕ) (x : A) → Keeps P key least xs next → P x → next ≤ key x → Keeps P key least (xs ++ x ∷ []) (key x + 1)
keeps_more P key least xs next x keeps is le = record { each = all_more P xs x keeps.each is; rises = rises_more key least xs next x keeps.rises le }

pub keeps_none : {A : Type 0} (P : A → Type 0) (key : A → ℕ) (least : ℕ) → Keeps P key least [] least
keeps_none P key least = record { each = tt; rises = record { rise = tt; behind = omega arith } }

-- what is tested
pub rises_ok : (least n place : ℕ) (u : Unit {0}) → rises least n place ≡ Ok u → least ≤ n
rises_ok least n place u e = leb-true least n (test_ok (leb least n) tt (orders.Order place) u e).0
