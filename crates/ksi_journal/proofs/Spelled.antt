-- Elements that hold no more than others are written in no more bytes.
use Rattle.std.proofs.Common.{◌≡◌, inl, inr, ℕ, ◌+◌, ◌*◌, ◌^◌, ◌<◌, ◌≤◌, Bool, true, false, cond, ltb, eqb, List, [], ◌∷◌, ◌++◌, length, Result, Ok, Err, refl, sym, ap, subst, ◌∙◌, arith, append-nil, length-append}
use Rattle.std.specs.Prelude.{◌↔◌, ◌&&◌}
use Rattle.std.specs.List.{AllByRecursion}
use Rattle.std.proofs.lemmas.Bool.{ltb-false, eqb-true, lt-ltb}
use Rattle.std.proofs.lemmas.List.{take_at, drop_at}
use Rattle.std.proofs.lemmas.List.Elements.{All-drop, All-head, All-take}
use Rattle.std.proofs.Math.Nat.{pow-le-pow_right, pow-suc, mul-le-mul_right}
use Rattle.ksi_imprint.specs.declared.fault.ImprintFault.{ImprintFault}
use Rattle.ksi_imprint.specs.declared.fault.ImprintFault.TheVariants as imprints_fault
use Rattle.ksi_imprint.specs.Imprints.{IsImprint}
use Rattle.ksi_imprint.specs.Reading as imprints
use Rattle.ksi_tlv.specs.Spelling.{Tlv, Spells, AreBytes, canonical, short_form, long_form}
use Rattle.ksi_tlv.specs.Walking.{PlacedTlv, Items, IsReading, elements, joined, laid, items_of, end_at}
use Rattle.ksi_tlv.specs.Numerals.{number_of, numeral}
use Rattle.ksi_tlv.specs.Writing.{texts}
use Rattle.ksi_tlv.specs.declared.grammar.fault.ElementFault.{ElementFault}
use Rattle.ksi_tlv.specs.Contents.{time_in, imprint_or, imprint_in}
use Rattle.ksi_tlv.specs.Containing.{◌>>=◌}
use Rattle.ksi_tlv.specs.declared.order.fault.OrderFault.{OrderFault}
use Rattle.ksi_tlv.specs.Fields.{Inside, next_field, field, none_left, done}
use Rattle.ksi_tlv.specs.Values.{or_fault, number_at, time_at, imprint_at}
use Rattle.ksi_tlv.proofs.Steps.{test_ok}

-- the laws of elements
pub record Read : Type 0 where
  pub reading : (place : ℕ) (bytes : List ℕ) (items : Items) → AreBytes bytes → (items ≡ elements place bytes) ↔ IsReading place bytes items
  pub fewest : (n : ℕ) (bytes : List ℕ) → n < 2 ^ 64 → AreBytes bytes → number_of bytes ≡ n → length (numeral n) ≤ length bytes

-- ---- one for one

-- an element of the same kind that holds no more
pub record Match (t : Tlv) (at : PlacedTlv) : Type 0 where
  pub kind : t.kind ≡ at.element.kind
  pub body : length t.body ≤ length at.element.body

abbrev pub Matches : List Tlv → List PlacedTlv → Type 0
Matches [] [] = Unit {0}
Matches [] (at ∷ es) = ⊥
Matches (t ∷ ts) [] = ⊥
Matches (t ∷ ts) (at ∷ es) = Match t at × Matches ts es

pub matches_more : (ts : List Tlv) (es : List PlacedTlv) (t : Tlv) (at : PlacedTlv) → Matches ts es → Match t at → Matches (ts ++ t ∷ []) (es ++ at ∷ [])
matches_more [] [] t at all more = (more, tt)
matches_more [] (e ∷ es) t at all more = absurd all
matches_more (s ∷ ts) [] t at all more = absurd all
matches_more (s ∷ ts) (e ∷ es) t at all more = (all.0, matches_more ts es t at all.1 more)

canonical_if : (t : Tlv) (b : Bool) → length (cond b (short_form t) (long_form t)) ≤ length t.body + 4
canonical_if t true = omega arith
canonical_if t false = omega arith

canonical_short : (t : Tlv) → t.kind < 32 → length t.body < 256 → length (canonical t) ≤ length t.body + 2
canonical_short t kind body = rw (lt-ltb t.kind 32 kind, lt-ltb (length t.body) 256 body) (omega arith)

-- no spelling is shorter
shorter_one : (t e : Tlv) (text : List ℕ) → t.kind ≡ e.kind → length t.body ≤ length e.body → Spells e text → length (canonical t) ≤ length text
shorter_one t e text kind body (inl short) =
    let small = short.0 in
    let k = small.kind in
    let b = small.body in
    rw short.1 (omega (arith, canonical_short t (omega (arith, kind, k)) (omega (arith, body, b)), body))
shorter_one t e text kind body (inr long) =
    rw long.1 (omega (arith, canonical_if t (ltb t.kind 32 && ltb (length t.body) 256), body))

abbrev AreSpelled : List (Tlv × List ℕ) → Type 0
AreSpelled parts = AllByRecursion (λ part. Spells part.0 part.1) parts

shorter_all : (ts : List Tlv) (place : ℕ) (parts : List (Tlv × List ℕ)) → AreSpelled parts → Matches ts (laid place parts) → length (texts ts) ≤ length (joined parts)
shorter_all [] place [] spelled all = omega arith
shorter_all [] place (part ∷ parts) spelled all = absurd all
shorter_all (t ∷ ts) place [] spelled all = absurd all
shorter_all (t ∷ ts) place (part ∷ parts) spelled all =
    let one = shorter_one t part.0 part.1 all.0.kind all.0.body spelled.0 in
    let rest = shorter_all ts (place + length part.1) parts spelled.1 all.1 in
    omega (arith, one, rest, length-append (canonical t) (texts ts), length-append part.1 (joined parts))

-- ---- whole elements, and the texts that spell them

no_item : (at : PlacedTlv) (es : List PlacedTlv) (place : ℕ) (left : List ℕ) → items_of (at ∷ es) ≡ end_at place left → ⊥
no_item at es place [] is = absurd cc
no_item at es place (b ∷ left) is = absurd cc

nothing_left : (place : ℕ) (left : List ℕ) → end_at place left ≡ [] → left ≡ []
nothing_left place [] is = refl
nothing_left place (b ∷ left) is = absurd cc

abbrev pub items_head : PlacedTlv → Items → Items
items_head at es = Ok at ∷ es

same_head : (at bt : PlacedTlv) (es fs : Items) → items_head at es ≡ items_head bt fs → (at ≡ bt) × (es ≡ fs)
same_head at bt es fs is = (cc, cc)

all_read : (es fs : List PlacedTlv) (place : ℕ) (left : List ℕ) → items_of es ≡ items_of fs ++ end_at place left → (left ≡ []) × (es ≡ fs)
all_read [] [] place left is = (nothing_left place left (sym is), refl)
all_read [] (bt ∷ fs) place left is = absurd cc
all_read (at ∷ es) [] place left is = absurd (no_item at es place left is)
all_read (at ∷ es) (bt ∷ fs) place left is =
    let heads = same_head at bt (items_of es) (items_of fs ++ end_at place left) is in
    let rest = all_read es fs place left heads.1 in
    (rest.0, rw (heads.0, rest.1) refl)

record Parts (place : ℕ) (bytes : List ℕ) (es : List PlacedTlv) : Type 0 where
  parts : List (Tlv × List ℕ)
  spelled : AreSpelled parts
  joins : bytes ≡ joined parts
  laid_in : es ≡ laid place parts

parts_of : Read → (place : ℕ) (bytes : List ℕ) (es : List PlacedTlv) → AreBytes bytes → elements place bytes ≡ items_of es → Parts place bytes es
parts_of laws place bytes es are is =
    let r = (laws.reading place bytes (items_of es) are).0 (sym is) in
    let all = all_read es (laid place r.parts) (place + length (joined r.parts)) r.left r.placed in
    record {
      parts = r.parts;
      spelled = r.spelled;
      joins = r.split ∙ ap (λ (left : List ℕ). joined r.parts ++ left) all.0 ∙ append-nil (joined r.parts);
      laid_in = all.1;
    }

-- what matches the elements of bytes is written in no more bytes
pub shorter : Read → (ts : List Tlv) (place : ℕ) (bytes : List ℕ) (es : List PlacedTlv) → AreBytes bytes → elements place bytes ≡ items_of es → Matches ts es → length (texts ts) ≤ length bytes
shorter laws ts place bytes es are is all =
    let p = parts_of laws place bytes es are is in
    let le = shorter_all ts place p.parts p.spelled (subst (Matches ts) p.laid_in all) in
    omega (arith, le, ap length p.joins)

drop_two : (a b : ℕ) (body : List ℕ) → AreBytes (a ∷ b ∷ body) → AreBytes body
drop_two a b body are = All-drop (λ b. b < 256) 2 (a ∷ b ∷ body) are

drop_four : (a b c d : ℕ) (body : List ℕ) → AreBytes (a ∷ b ∷ c ∷ d ∷ body) → AreBytes body
drop_four a b c d body are = All-drop (λ b. b < 256) 4 (a ∷ b ∷ c ∷ d ∷ body) are

body_bytes : (e : Tlv) (text : List ℕ) → Spells e text → AreBytes text → AreBytes e.body
body_bytes e text (inl short) are = drop_two _ _ e.body (subst AreBytes short.1 are)
body_bytes e text (inr long) are = drop_four _ _ _ _ e.body (subst AreBytes long.1 are)

bytes_laid : (place : ℕ) (parts : List (Tlv × List ℕ)) → AreSpelled parts → AreBytes (joined parts) → AllByRecursion (λ at. AreBytes at.element.body) (laid place parts)
bytes_laid place [] spelled bytes = tt
bytes_laid place (part ∷ parts) spelled bytes =
    let text : AreBytes part.1 = subst AreBytes (take_at part.1 (joined parts) (length part.1) refl) (All-take (λ b. b < 256) (length part.1) (part.1 ++ joined parts) bytes) in
    let rest : AreBytes (joined parts) = subst AreBytes (drop_at part.1 (joined parts) (length part.1) refl) (All-drop (λ b. b < 256) (length part.1) (part.1 ++ joined parts) bytes) in
    (body_bytes part.0 part.1 spelled.0 text, bytes_laid (place + length part.1) parts spelled.1 rest)

-- what elements of bytes hold are bytes
pub bytes_inside : Read → (place : ℕ) (bytes : List ℕ) (es : List PlacedTlv) → AreBytes bytes → elements place bytes ≡ items_of es → AllByRecursion (λ at. AreBytes at.element.body) es
bytes_inside laws place bytes es are is =
    let p = parts_of laws place bytes es are is in
    subst (AllByRecursion (λ at. AreBytes at.element.body)) (sym p.laid_in) (bytes_laid place p.parts p.spelled (subst AreBytes p.joins are))

-- ---- values

pub record IsNumber (at : PlacedTlv) (n : ℕ) : Type 0 where
  pub value : number_of at.element.body ≡ n
  pub few : length at.element.body ≤ 8

number_if : (long : Bool) (n m : ℕ) (fault : ElementFault) (named : OrderFault) → or_fault named (cond long (Err fault) (Ok n)) ≡ Ok m → (long ≡ false) × (n ≡ m)
number_if true n m fault named e = absurd cc
number_if false n m fault named e = (refl, cc)

pub number_ok : (at : PlacedTlv) (n : ℕ) → number_at at ≡ Ok n → IsNumber at n
unfolding number_at
number_ok at n e =
    let t = number_if (ltb 8 (length at.element.body)) (number_of at.element.body) n _ _ e in
    record { value = t.1; few = (let le = ltb-false 8 (length at.element.body) t.0 in omega (arith, le)) }

low_if : (low : Bool) (n t : ℕ) (late : ElementFault) (named : OrderFault) → or_fault named (cond low (Ok n) (Err late)) ≡ Ok t → n ≡ t
low_if true n t late named e = cc
low_if false n t late named e = absurd cc

time_if : (long : Bool) (n t : ℕ) (fault late : ElementFault) (named : OrderFault) → or_fault named (cond long (Err fault) (Ok n) >>= λ m. cond (ltb m (2 ^ 63)) (Ok m) (Err late)) ≡ Ok t → (long ≡ false) × (n ≡ t)
time_if true n t fault late named e = absurd cc
time_if false n t fault late named e = (refl, low_if (ltb n (2 ^ 63)) n t late named e)

pub time_ok : (at : PlacedTlv) (t : ℕ) → time_at at ≡ Ok t → IsNumber at t
unfolding time_at time_in
time_ok at t e =
    let is = time_if (ltb 8 (length at.element.body)) (number_of at.element.body) t _ _ _ e in
    record { value = is.1; few = (let le = ltb-false 8 (length at.element.body) is.0 in omega (arith, le)) }

number_below : (bytes : List ℕ) → AreBytes bytes → number_of bytes < 256 ^ length bytes
number_below [] are = omega arith
number_below (b ∷ bytes) are =
    let first : b ≤ 255 = (let lt : b < 256 = All-head (λ b. b < 256) b bytes are in omega (arith, lt)) in
    let top : b * 256 ^ length bytes ≤ 255 * 256 ^ length bytes = mul-le-mul_right (256 ^ length bytes) first in
    let rest = number_below bytes (All-drop (λ b. b < 256) 1 (b ∷ bytes) are) in
    rw (pow-suc 256 (length bytes)) (omega (arith, top, rest))

pub number_small : (at : PlacedTlv) (n : ℕ) → IsNumber at n → AreBytes at.element.body → n < 2 ^ 64
number_small at n is are =
    let few = is.few in
    let value = is.value in
    let below = number_below at.element.body are in
    let most : 256 ^ length at.element.body ≤ 256 ^ 8 = pow-le-pow_right {n = 256} (omega arith) few in
    omega (arith, below, most, value)

pub numeral_short : Read → (at : PlacedTlv) (n : ℕ) → IsNumber at n → AreBytes at.element.body → length (numeral n) ≤ length at.element.body
numeral_short laws at n is are = laws.fewest n at.element.body (number_small at n is are) are is.value

-- the bytes are the imprint that is read in them
pub imprint_said : (bytes x : List ℕ) → imprints.imprint_at bytes ≡ Ok x → IsImprint x × (bytes ≡ x)
imprint_said [] x e = absurd cc
imprint_said (a ∷ digest) x e = by (eqb a 1) (eqb (length digest) 32) refl refl
  where
    by : (one whole : Bool) → eqb a 1 ≡ one → eqb (length digest) 32 ≡ whole → IsImprint x × (a ∷ digest ≡ x)
    by true true ia id =
        let found : imprints.imprint_at (a ∷ digest) ≡ Ok (a ∷ digest) = rw (ia, id) refl in
        let same : a ∷ digest ≡ x = cc in
        (subst IsImprint same (record { algorithm = eqb-true a 1 ia; size = (let d = eqb-true (length digest) 32 id in omega (arith, d)) }), same)
    by true false ia id = absurd (let found : imprints.imprint_at (a ∷ digest) ≡ Err (imprints_fault.Length (length (a ∷ digest))) = rw (ia, id) refl in cc)
    by false whole ia id = absurd (let found : imprints.imprint_at (a ∷ digest) ≡ Err (imprints_fault.Algorithm a) = rw ia refl in cc)

imprint_if : (place : ℕ) (named : OrderFault) (r : Result (List ℕ) ImprintFault) (x : List ℕ) → or_fault named (imprint_or place r) ≡ Ok x → r ≡ Ok x
imprint_if place named (Ok y) x e = cc
imprint_if place named (Err fault) x e = absurd cc

pub imprint_ok : (at : PlacedTlv) (x : List ℕ) → imprint_at at ≡ Ok x → at.element.body ≡ x
unfolding imprint_at imprint_in
imprint_ok at x e = (imprint_said at.element.body x (imprint_if at.place _ (imprints.imprint_at at.element.body) x e)).1

-- ---- the elements inside an element

next_ok : (kind end : ℕ) (items : Items) (found : PlacedTlv × Inside) → next_field kind end items ≡ Ok found → (items ≡ items_head found.0 found.1.items) × (kind ≡ found.0.element.kind)
next_ok kind end [] found e = absurd cc
next_ok kind end (Err cut ∷ items) found e = absurd cc
next_ok kind end (Ok at ∷ items) found e =
    let t = test_ok (eqb at.element.kind kind) (at, record { end = end; items = items }) _ found e in
    subst (λ (f : PlacedTlv × Inside). (items_head at items ≡ items_head f.0 f.1.items) × (kind ≡ f.0.element.kind)) t.1 (refl, sym (eqb-true at.element.kind kind t.0))

pub field_ok : (kind : ℕ) (i : Inside) (found : PlacedTlv × Inside) → field kind i ≡ Ok found → (i.items ≡ items_head found.0 found.1.items) × (kind ≡ found.0.element.kind)
unfolding field
field_ok kind i found e = next_ok kind i.end i.items found e

none_ok : (items : Items) (u : Unit {0}) → none_left items ≡ Ok u → items ≡ []
none_ok [] u e = refl
none_ok (Err cut ∷ items) u e = absurd cc
none_ok (Ok at ∷ items) u e = absurd cc

pub done_ok : (i : Inside) (u : Unit {0}) → done i ≡ Ok u → i.items ≡ []
unfolding done
done_ok i u e = none_ok i.items u e

pub two_fields : (items : Items) (one two : PlacedTlv) (behind last : Items) → items ≡ items_head one behind → behind ≡ items_head two last → last ≡ [] → items ≡ items_of (one ∷ two ∷ [])
two_fields items one two behind last a b c = rw (a, b, c) refl
