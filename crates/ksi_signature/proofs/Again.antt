-- What elements say that are written, and links as they are written.
use Rattle.std.proofs.Common.{◌≡◌, ℕ, zero, suc, ◌^◌, ◌<◌, ◌≤◌, true, false, eqb, ltb, leb, List, [], ◌∷◌, ◌++◌, length, Ok, refl, ap, ◌∙◌, arith}
use Rattle.std.specs.List.{AllByRecursion}
use Rattle.std.proofs.lemmas.Bool.{le-ltb, lt-ltb, eq-eqb, le-leb}
use Rattle.ksi_imprint.specs.Imprints.{IsImprint}
use Rattle.ksi_split.specs.declared.side.Side.{Side}
use Rattle.ksi_split.specs.declared.side.Side.TheVariants.{Left, Right}
use Rattle.ksi_aggtree.specs.declared.chains.link.Link.{Link}
use Rattle.ksi_aggtree.specs.declared.chains.link.Sibling.{Sibling}
use Rattle.ksi_aggtree.specs.declared.chains.link.Sibling.TheVariants as siblings
use Rattle.ksi_tlv.specs.Spelling.{Tlv, plain, canonical, FitsLong, Spells}
use Rattle.ksi_tlv.specs.Walking.{PlacedTlv, placed_at, elements}
use Rattle.ksi_tlv.specs.Numerals.{number_of, numeral}
use Rattle.ksi_tlv.specs.Writing.{texts, placed}
use Rattle.ksi_tlv.specs.Table.{Table, is_table}
use Rattle.ksi_tlv.specs.Containing.{container_verdict, inner_verdict}
use Rattle.ksi_tlv.specs.Valid.{AreWithin, AreEnough, IsContainer}
use Rattle.ksi_tlv.specs.Contents.{number_in, time_in, level_in, algorithm_in, imprint_in, raw_in}
use Rattle.ksi_tlv.specs.Inside.{whole, first_of}
use Rattle.ksi_tlv.specs.Written.{MayStandAnywhere, MayBeWritten}
use Rattle.ksi_tlv.specs.Published.{published_table, published_in, published_elements, record_elements, number_or_zero}
use Rattle.ksi_signature.specs.Tables.{link_table}
use Rattle.ksi_signature.specs.Values.{HasSize}
use Rattle.ksi_signature.specs.Kept.{HasImprint, IsLink}
use Rattle.ksi_signature.specs.Contents.{side_in, sibling_among, link_in}
use Rattle.ksi_signature.specs.Written.{side_kind, sibling_element, correction_elements, link_elements, link_element}

-- the laws of what is written
pub record Written : Type 0 where
  pub again : (t : Table) (place inside : ℕ) (es : List Tlv) → MayBeWritten t es → (container_verdict t place inside (texts es) ≡ Ok tt) × (whole (elements inside (texts es)) ≡ placed inside es)
  pub held : (t : Table) (place inside : ℕ) (body : List ℕ) → is_table t ≡ true → container_verdict t place inside body ≡ Ok tt → IsContainer t inside body (whole (elements inside body))
  pub published : (at : PlacedTlv) (time : ℕ) (hash : List ℕ) → time < 2 ^ 63 → IsImprint hash → at.element.body ≡ texts (published_elements time hash) → (inner_verdict published_table at ≡ Ok tt) × (published_in at ≡ (time, hash))
  pub short : (time : ℕ) (hash : List ℕ) → IsImprint hash → length (texts (record_elements time hash)) ≤ 53
  pub spells : (e : Tlv) → FitsLong e → Spells e (canonical e)
  pub value : (n : ℕ) → n < 2 ^ 64 → number_of (numeral n) ≡ n
  pub size : (n : ℕ) → length (numeral n) ≤ 8

-- ---- numbers and imprints

pub number_again : Written → (place size kind n : ℕ) → n < 2 ^ 64 → number_in (placed_at place (plain kind (numeral n)) size) ≡ Ok n
number_again laws place size kind n lt =
    let short : ltb 8 (length (numeral n)) ≡ false = le-ltb _ _ (laws.size n) in
    rw (short, laws.value n lt) refl

pub time_again : Written → (place size kind time : ℕ) → time < 2 ^ 63 → time_in (placed_at place (plain kind (numeral time)) size) ≡ Ok time
unfolding time_in
time_again laws place size kind time lt =
    let short : ltb 8 (length (numeral time)) ≡ false = le-ltb _ _ (laws.size time) in
    rw (short, laws.value time (omega (arith, lt)), lt-ltb time (2 ^ 63) lt) refl

pub level_again : Written → (place size kind level : ℕ) → level < 2 ^ 8 → level_in (placed_at place (plain kind (numeral level)) size) ≡ Ok level
unfolding level_in
level_again laws place size kind level lt =
    let short : ltb 8 (length (numeral level)) ≡ false = le-ltb _ _ (laws.size level) in
    let below : level < 256 = omega (arith, lt) in
    rw (short, laws.value level (omega (arith, lt)), lt-ltb level 256 below) refl

pub algorithm_again : Written → (place size kind : ℕ) → algorithm_in (placed_at place (plain kind (numeral 1)) size) ≡ Ok 1
unfolding algorithm_in
algorithm_again laws place size kind =
    let short : ltb 8 (length (numeral 1)) ≡ false = le-ltb _ _ (laws.size 1) in
    rw (short, laws.value 1 (omega arith)) refl

abbrev nothing : List ℕ
nothing = []

pub imprint_again : (place size kind : ℕ) (hash : List ℕ) → IsImprint hash → imprint_in (placed_at place (plain kind hash) size) ≡ Ok hash
unfolding imprint_in
imprint_again place size kind [] is = let none : length nothing ≡ 33 = is.size in absurd (omega (arith, none))
imprint_again place size kind (algorithm ∷ digest) is =
    let one : eqb algorithm 1 ≡ true = eq-eqb _ _ is.algorithm in
    let long : eqb (length digest) 32 ≡ true = eq-eqb _ _ (omega (arith, is.size)) in
    rw (one, long) refl

pub raw_again : (place size kind : ℕ) (body : List ℕ) → (0 < length body) × (length body ≤ 4096) → raw_in (placed_at place (plain kind body) size) ≡ Ok tt
unfolding raw_in
raw_again place size kind body has =
    let some : ltb 0 (length body) ≡ true = lt-ltb _ _ has.0 in
    let few : leb (length body) 4096 ≡ true = le-leb _ _ has.1 in
    rw (some, few) refl

-- ---- links

correction_may : Written → (n : ℕ) → n < 2 ^ 8 → MayStandAnywhere link_table (plain 1 (numeral n))
correction_may laws n lt = record {
  spelled = record { kind = omega arith; body = omega (arith, laws.size n) };
  stands = λ place size. record { named = refl; fits = rw (level_again laws place size 1 n lt) refl };
}

sibling_may : (sibling : Sibling) → HasSize sibling → HasImprint sibling → MayStandAnywhere link_table (sibling_element sibling)
sibling_may (siblings.Imprint bytes) has is = record {
  spelled = record { kind = omega arith; body = omega (arith, is.size) };
  stands = λ place size. record { named = refl; fits = rw (imprint_again place size 2 bytes is) refl };
}
sibling_may (siblings.Legacy bytes) has is = record {
  spelled = record { kind = omega arith; body = omega (arith, has.1) };
  stands = λ place size. record { named = refl; fits = rw (raw_again place size 3 bytes has) refl };
}
sibling_may (siblings.Metadata bytes) has is = record {
  spelled = record { kind = omega arith; body = omega (arith, has.1) };
  stands = λ place size. record { named = refl; fits = rw (raw_again place size 4 bytes has) refl };
}

-- a link has one sibling, and a correction or none
link_within : (n : ℕ) (sibling : Sibling) → AreWithin link_table.slots (placed 0 (correction_elements n ++ (sibling_element sibling ∷ [])))
link_within zero (siblings.Imprint bytes) = (omega arith, (omega arith, tt))
link_within zero (siblings.Legacy bytes) = (omega arith, (omega arith, tt))
link_within zero (siblings.Metadata bytes) = (omega arith, (omega arith, tt))
link_within (suc n) (siblings.Imprint bytes) = (omega arith, (omega arith, tt))
link_within (suc n) (siblings.Legacy bytes) = (omega arith, (omega arith, tt))
link_within (suc n) (siblings.Metadata bytes) = (omega arith, (omega arith, tt))

link_enough : (n : ℕ) (sibling : Sibling) → AreEnough link_table.slots (placed 0 (correction_elements n ++ (sibling_element sibling ∷ [])))
link_enough zero (siblings.Imprint bytes) = (tt, (omega arith, tt))
link_enough zero (siblings.Legacy bytes) = (tt, (omega arith, tt))
link_enough zero (siblings.Metadata bytes) = (tt, (omega arith, tt))
link_enough (suc n) (siblings.Imprint bytes) = (tt, (omega arith, tt))
link_enough (suc n) (siblings.Legacy bytes) = (tt, (omega arith, tt))
link_enough (suc n) (siblings.Metadata bytes) = (tt, (omega arith, tt))

link_each : Written → (n : ℕ) (sibling : Sibling) → n < 2 ^ 8 → HasSize sibling → HasImprint sibling → AllByRecursion (MayStandAnywhere link_table) (correction_elements n ++ (sibling_element sibling ∷ []))
link_each laws zero sibling lt has is = (sibling_may sibling has is, tt)
link_each laws (suc n) sibling lt has is = (correction_may laws (suc n) lt, (sibling_may sibling has is, tt))

pub link_may : Written → (link : Link) → HasSize link.sibling → IsLink link → MayBeWritten link_table (link_elements link)
link_may laws link has is = record {
  each = link_each laws link.correction link.sibling is.correction has is.sibling;
  within = link_within link.correction link.sibling;
  enough = link_enough link.correction link.sibling;
}

correction_again : Written → (inside n : ℕ) (sibling : Sibling) → n < 2 ^ 8 → number_or_zero (first_of 1 (placed inside (correction_elements n ++ (sibling_element sibling ∷ [])))) ≡ n
correction_again laws inside zero (siblings.Imprint bytes) lt = refl
correction_again laws inside zero (siblings.Legacy bytes) lt = refl
correction_again laws inside zero (siblings.Metadata bytes) lt = refl
correction_again laws inside (suc n) sibling lt = laws.value (suc n) (omega (arith, lt))

sibling_again : (inside n : ℕ) (sibling : Sibling) → sibling_among (placed inside (correction_elements n ++ (sibling_element sibling ∷ []))) ≡ sibling
sibling_again inside zero (siblings.Imprint bytes) = refl
sibling_again inside zero (siblings.Legacy bytes) = refl
sibling_again inside zero (siblings.Metadata bytes) = refl
sibling_again inside (suc n) (siblings.Imprint bytes) = refl
sibling_again inside (suc n) (siblings.Legacy bytes) = refl
sibling_again inside (suc n) (siblings.Metadata bytes) = refl

pub side_again : (place size : ℕ) (side : Side) (body : List ℕ) → side_in (placed_at place (plain (side_kind side) body) size) ≡ side
side_again place size Left body = refl
side_again place size Right body = refl

made : (side : Side) (n : ℕ) (one : Sibling) (link : Link) → side ≡ link.side → n ≡ link.correction → one ≡ link.sibling → record { side = side; correction = n; sibling = one } ≡ link
made side n one link s c b = rw (s, c, b) refl

pub link_again : Written → (place size : ℕ) (link : Link) → HasSize link.sibling → IsLink link → (inner_verdict link_table (placed_at place (link_element link) size) ≡ Ok tt) × (link_in (placed_at place (link_element link) size) ≡ link)
unfolding link_in
link_again laws place size link has is =
    let at = placed_at place (link_element link) size in
    let w = laws.again link_table at.place at.inside (link_elements link) (link_may laws link has is) in
    let correction = ap (λ (es : List PlacedTlv). number_or_zero (first_of 1 es)) w.1 ∙ correction_again laws at.inside link.correction link.sibling is.correction in
    let sibling = ap sibling_among w.1 ∙ sibling_again at.inside link.correction link.sibling in
    (w.0, made _ _ _ link (side_again place size link.side (texts (link_elements link))) correction sibling)
