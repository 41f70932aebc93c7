-- Texts of elements one after the other, their lengths, and the first that is too long.
use Rattle.std.proofs.Common.{◌≡◌, ℕ, ◌+◌, ◌<◌, ◌≤◌, Bool, true, false, cond, ltb, List, [], ◌∷◌, ◌++◌, length, Option, Some, None, Result, Ok, Err, refl, sym, ap, ◌∙◌, arith, ◌⊎◌, inl, inr}
use Rattle.std.specs.Prelude.{◌&&◌, OnOk}
use Rattle.std.proofs.lemmas.Bool.{lt-ltb, cond_both}
use Rattle.std.proofs.lemmas.List.{append_assoc}
use Rattle.ksi_imprint.specs.declared.refused.Refused.{Refused}
use Rattle.ksi_imprint.specs.declared.refused.Refused.TheVariants.{Fault, NoMemory}
use Rattle.ksi_tlv.specs.Spelling.{Tlv, canonical, short_form, long_form}
use Rattle.ksi_tlv.specs.Writing.{texts}
use Rattle.ksi_signature.specs.declared.refusal.WriteRefusal.{WriteRefusal}
use Rattle.ksi_signature.specs.declared.refusal.WriteRefusal.TheVariants as refusals
use Rattle.ksi_signature.specs.Written.{first_long, TellsLong}

-- ---- texts

pub texts-append : (es fs : List Tlv) → texts (es ++ fs) ≡ texts es ++ texts fs
texts-append [] fs = refl
texts-append (e ∷ es) fs = ap (λ (rest : List ℕ). canonical e ++ rest) (texts-append es fs) ∙ sym (append_assoc (canonical e) (texts es) (texts fs))

pub length-canonical : (e : Tlv) → length (canonical e) ≤ 4 + length e.body
length-canonical e = cond_both (ltb e.kind 32 && ltb (length e.body) 256) (short_form e) (long_form e) (λ (text : List ℕ). length text ≤ 4 + length e.body) (λ yes. omega arith) (λ no. omega arith)

-- ---- the first that is too long

pub is_long : (size : ℕ) → 65535 < size → first_long (size ∷ []) ≡ Some size
is_long size long = ap (λ (b : Bool). cond b (Some size) None) (lt-ltb 65535 size long)

-- behind sizes of which none is too long
behind_at : (b : Bool) (size : ℕ) (rest both more : Option ℕ) → cond b (Some size) rest ≡ None → (rest ≡ None → both ≡ more) → cond b (Some size) both ≡ more
behind_at true size rest both more e then = absurd cc
behind_at false size rest both more e then = then e

pub long_behind : (sizes more : List ℕ) → first_long sizes ≡ None → first_long (sizes ++ more) ≡ first_long more
long_behind [] more none = refl
long_behind (size ∷ sizes) more none =
    behind_at (ltb 65535 size) size (first_long sizes) (first_long (sizes ++ more)) (first_long more) none (long_behind sizes more)

before_at : (b : Bool) (size n : ℕ) (rest both : Option ℕ) → cond b (Some size) rest ≡ Some n → (rest ≡ Some n → both ≡ Some n) → cond b (Some size) both ≡ Some n
before_at true size n rest both e then = e
before_at false size n rest both e then = then e

-- before others
pub long_before : (sizes more : List ℕ) (n : ℕ) → first_long sizes ≡ Some n → first_long (sizes ++ more) ≡ Some n
long_before [] more n some = absurd cc
long_before (size ∷ sizes) more n some =
    before_at (ltb 65535 size) size n (first_long sizes) (first_long (sizes ++ more)) some (long_before sizes more n)

-- a refusal is handed on
pub tells_before : {B : Type 0} (sizes more : List ℕ) (refusal : Refused WriteRefusal) (r : Result B (Refused WriteRefusal)) → r ≡ Err refusal → TellsLong {A = B} sizes (Err refusal) → TellsLong (sizes ++ more) r
tells_before {B} sizes more (Fault (refusals.TooLong n)) r is tells = rw is (long_before sizes more n tells)
tells_before {B} sizes more NoMemory r is tells = rw is tt

pub tells_behind : {B : Type 0} (sizes more : List ℕ) (refusal : Refused WriteRefusal) (r : Result B (Refused WriteRefusal)) → r ≡ Err refusal → first_long sizes ≡ None → TellsLong {A = B} more (Err refusal) → TellsLong (sizes ++ more) r
tells_behind {B} sizes more (Fault (refusals.TooLong n)) r is none tells = rw is (long_behind sizes more none ∙ tells)
tells_behind {B} sizes more NoMemory r is none tells = rw is tt

-- the outer element's is the last
pub tells_last : {A : Type 0} (sizes : List ℕ) (size other : ℕ) (r : Result A (Refused WriteRefusal)) → first_long sizes ≡ None → size ≡ other → TellsLong (size ∷ []) r → TellsLong (sizes ++ (other ∷ [])) r
tells_last {A} sizes size other (Ok x) none same tells = long_behind sizes (other ∷ []) none ∙ (rw (← same) tells)
tells_last {A} sizes size other (Err (Fault (refusals.TooLong n))) none same tells = long_behind sizes (other ∷ []) none ∙ (rw (← same) tells)
tells_last {A} sizes size other (Err NoMemory) none same tells = tt

-- ---- what a caller is told

pub long_of_refusal : {A : Type 0} (sizes : List ℕ) (r : Result A (Refused WriteRefusal)) → TellsLong sizes r → (n : ℕ) → r ≡ Err (Fault (refusals.TooLong n)) → first_long sizes ≡ Some n
long_of_refusal {A} sizes (Ok x) tells n is = absurd cc
long_of_refusal {A} sizes (Err (Fault (refusals.TooLong m))) tells n is = let same : m ≡ n = cc in tells ∙ ap (λ (n : ℕ). Some n) same
long_of_refusal {A} sizes (Err NoMemory) tells n is = absurd cc

pub refusal_of_long : {A : Type 0} (sizes : List ℕ) (r : Result A (Refused WriteRefusal)) → TellsLong sizes r → (n : ℕ) → first_long sizes ≡ Some n → (r ≡ Err (Fault (refusals.TooLong n))) ⊎ (r ≡ Err NoMemory)
refusal_of_long {A} sizes (Ok x) tells n some = let no : first_long sizes ≡ None = tells in absurd cc
refusal_of_long {A} sizes (Err (Fault (refusals.TooLong m))) tells n some = let is : first_long sizes ≡ Some m = tells in let same : m ≡ n = cc in inl (ap (λ (n : ℕ). Err (Fault (refusals.TooLong n))) same)
refusal_of_long {A} sizes (Err NoMemory) tells n some = inr refl

pub none_of_ok : {A : Type 0} (sizes : List ℕ) (r : Result A (Refused WriteRefusal)) → TellsLong sizes r → OnOk r (first_long sizes ≡ None)
none_of_ok {A} sizes (Ok x) tells = tells
none_of_ok {A} sizes (Err refusal) tells = tt

-- ---- texts behind texts

-- what stands behind these texts
pub text_behind : (es fs : List Tlv) (old middle new : List ℕ) → middle ≡ old ++ texts es → new ≡ middle ++ texts fs → new ≡ old ++ texts (es ++ fs)
text_behind es fs old middle new first second =
    second ∙ ap (λ (front : List ℕ). front ++ texts fs) first ∙ append_assoc old (texts es) (texts fs) ∙ ap (λ (back : List ℕ). old ++ back) (sym (texts-append es fs))

-- and these two elements
pub text_before_two : (e f : Tlv) (fs : List Tlv) (old one two new : List ℕ) → one ≡ old ++ canonical e → two ≡ one ++ canonical f → new ≡ two ++ texts fs → new ≡ old ++ texts (e ∷ f ∷ fs)
text_before_two e f fs old one two new first second third =
    third ∙ ap (λ (front : List ℕ). front ++ texts fs) (second ∙ ap (λ (front : List ℕ). front ++ canonical f) first ∙ append_assoc old (canonical e) (canonical f))
    ∙ append_assoc old (canonical e ++ canonical f) (texts fs) ∙ ap (λ (back : List ℕ). old ++ back) (append_assoc (canonical e) (canonical f) (texts fs))

-- the first element and what stands behind it
pub text_first : (e : Tlv) (es : List Tlv) (old middle new : List ℕ) → old ≡ [] → middle ≡ old ++ canonical e → new ≡ middle ++ texts es → new ≡ texts (e ∷ es)
text_first e es old middle new none first second =
    second ∙ ap (λ (front : List ℕ). front ++ texts es) (first ∙ ap (λ (front : List ℕ). front ++ canonical e) none)

pub text_of : (es : List Tlv) (old new : List ℕ) → old ≡ [] → new ≡ old ++ texts es → new ≡ texts es
text_of es old new none is = is ∙ ap (λ (front : List ℕ). front ++ texts es) none
