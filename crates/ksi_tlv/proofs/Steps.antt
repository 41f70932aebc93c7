-- What elements in their order say, one after the other.
use Rattle.std.proofs.Common.{◌≡◌, ℕ, ◌^◌, ◌<◌, Bool, true, false, cond, ◌||◌, eqb, List, [], ◌∷◌, ◌++◌, Result, Ok, Err, refl, sym, ap, subst, ◌∙◌, append_assoc, append-nil}
use Rattle.std.specs.List.{AllByRecursion}
use Rattle.std.proofs.lemmas.Bool.{eqb-true}
use Rattle.std.proofs.lemmas.List.{map-append}
use Rattle.ksi_imprint.specs.Imprints.{IsImprint}
use Rattle.ksi_tlv.specs.Walking.{PlacedTlv}
use Rattle.ksi_tlv.specs.declared.order.fault.OrderFault.{OrderFault}
use Rattle.ksi_tlv.specs.Order.{Order, may_stand, ◌>>=◌}
use Rattle.ksi_tlv.specs.Sequence.{Leads}
use Rattle.ksi_tlv.specs.Values.{time_at, imprint_at}
use Rattle.ksi_tlv.specs.Format.{Format, IsFile, or_named}
use Rattle.ksi_tlv.specs.Kinds.{HasKinds, kinds_of}

-- the laws of values
pub record Bounded : Type 0 where
  pub early : (at : PlacedTlv) (t : ℕ) → time_at at ≡ Ok t → t < 2 ^ 63
  pub imprint : (at : PlacedTlv) (x : List ℕ) → imprint_at at ≡ Ok x → IsImprint x

-- ---- one reading after the other

pub bind_ok : {A B F : Type 0} (r : Result A F) (f : A → Result B F) (b : B) → (r >>= f) ≡ Ok b → (a : A) × (r ≡ Ok a) × (f a ≡ Ok b)
bind_ok (Ok a) f b e = (a, refl, e)
bind_ok (Err d) f b e = absurd cc

-- what both readings say, the one after the other
pub each_of : {A B F P : Type 0} {next : A → Result B F} {b : B} (r : Result A F) → (r >>= next) ≡ Ok b → ((a : A) → r ≡ Ok a → next a ≡ Ok b → P) → P
each_of (Ok a) e then = then a refl e
each_of (Err fault) e then = absurd cc

pub or_named_ok : {A F : Type 0} (named : OrderFault → F) (r : Result A OrderFault) (a : A) → or_named named r ≡ Ok a → r ≡ Ok a
or_named_ok named (Ok b) a e = cc
or_named_ok named (Err fault) a e = absurd cc

abbrev fine : {A F : Type 0} → A → Result A F
fine a = Ok a

pub ok_is : {F A : Type 0} (a b : A) → fine {A = A} {F = F} a ≡ Ok b → a ≡ b
ok_is a b e = cc

pub if_ok : {A F : Type 0} (test : Bool) (r : Result A F) (fault : F) (a : A) → cond test r (Err fault) ≡ Ok a → (test ≡ true) × (r ≡ Ok a)
if_ok true r fault a e = (refl, e)
if_ok false r fault a e = absurd cc

pub test_ok : {A F : Type 0} (test : Bool) (x : A) (fault : F) (y : A) → cond test (Ok x) (Err fault) ≡ Ok y → (test ≡ true) × (x ≡ y)
test_ok true x fault y e = (refl, cc)
test_ok false x fault y e = absurd cc

pub if_not_ok : {A F : Type 0} (test : Bool) (fault : F) (r : Result A F) (a : A) → cond test (Err fault) r ≡ Ok a → (test ≡ false) × (r ≡ Ok a)
if_not_ok true fault r a e = absurd cc
if_not_ok false fault r a e = (refl, e)

-- what holds of each kind that may stand holds of one that does
pub any_kind : (P : ℕ → Type 0) (ks : List ℕ) (kind : ℕ) → may_stand ks kind ≡ true → AllByRecursion P ks → P kind
any_kind P [] kind may all = absurd cc
any_kind P (k ∷ ks) kind may all = by (eqb k kind) refl may (λ may. any_kind P ks kind may all.1)
  where
    by : (b : Bool) → eqb k kind ≡ b → (b || may_stand ks kind) ≡ true → (may_stand ks kind ≡ true → P kind) → P kind
    by true is may rest = subst P (eqb-true k kind is) all.0
    by false is may rest = rest may

-- ---- one element more

pub all_more : {A : Type 0} (P : A → Type 0) (xs : List A) (x : A) → AllByRecursion P xs → P x → AllByRecursion P (xs ++ x ∷ [])
all_more P [] x all p = (p, tt)
all_more P (y ∷ xs) x all p = (all.0, all_more P xs x all.1 p)

pub all_less : {A : Type 0} (P : A → Type 0) (xs : List A) (x : A) → AllByRecursion P (xs ++ x ∷ []) → AllByRecursion P xs × P x
all_less P [] x all = (tt, all.0)
all_less P (y ∷ xs) x all = let less = all_less P xs x all.1 in ((all.0, less.0), less.1)

pub kinds_more : (es : List PlacedTlv) (at : PlacedTlv) (kind : ℕ) (ks : List ℕ) → kinds_of es ≡ ks → at.element.kind ≡ kind → kinds_of (es ++ at ∷ []) ≡ ks ++ kind ∷ []
kinds_more es at kind ks same is = map-append (λ (at : PlacedTlv). at.element.kind) es (at ∷ []) ∙ ap (λ (ns : List ℕ). ns ++ at.element.kind ∷ []) same ∙ ap (λ (k : ℕ). ks ++ k ∷ []) is

module _ {S F : Type 0} (o : Order S F) (P : S → List PlacedTlv → Type 0) where
  -- what each element that may stand goes on with
  abbrev pub Keeps : Type 0
  Keeps = (s u : S) (es : List PlacedTlv) (at : PlacedTlv) → P s es → o.closed s ≡ false → may_stand (o.next s) at.element.kind ≡ true → o.read s at ≡ Ok u → P u (es ++ at ∷ [])

  pub leads_keep : Keeps → (s t : S) (before es : List PlacedTlv) → P s before → Leads o s es t → P t (before ++ es)
  leads_keep keeps s t before [] holds leads = subst (λ (u : S). P u (before ++ [])) leads (subst (P s) (sym (append-nil before)) holds)
  leads_keep keeps s t before (at ∷ es) holds leads =
      subst (P t) (append_assoc before (at ∷ []) es)
      (leads_keep keeps leads.2.0 t (before ++ at ∷ []) es (keeps s leads.2.0 before at holds leads.0 leads.1 leads.2.1) leads.2.2)

pub file_kinds : {S F A : Type 0} (f : Format S F A) (kinds : A → List ℕ) (bytes : List ℕ) (value : A) (file : IsFile f bytes value)
    → kinds_of file.whole.es ≡ kinds (f.value file.said) → HasKinds f.magic (kinds value) bytes
file_kinds f kinds bytes value file told =
    record { rest = file.rest; begins = file.begins; es = file.whole.es; whole = file.whole.split; kinds_are = told ∙ ap kinds (sym file.has) }
