-- What the words of a line stand for is there.
use Rattle.std.proofs.Common.{◌≡◌, ℕ, ◌+◌, ◌^◌, ◌<◌, Bool, true, false, cond, ◌&&◌, ltb, leb, List, [], ◌∷◌, length, Result, Ok, Err, refl, subst}
use Rattle.std.specs.Prelude.{All}
use Rattle.std.specs.Str.{bytes_eq}
use Rattle.std.proofs.lemmas.Bool.{ltb-true, leb-true}
use Rattle.ksi_schedule.specs.declared.fault.LineFault.{LineFault}
use Rattle.ksi_schedule.specs.declared.fault.LineFault.TheVariants.{NoSuchActor, SecondOutOfRange, Name}
use Rattle.ksi_schedule.specs.Pieces.{Text}
use Rattle.ksi_schedule.specs.Plans.{PlanState, InRange}
use Rattle.ksi_schedule.specs.Words.{Sort, the_word, number, core, aggregator, second, digest, a_name, core_actor, aggregator_actor, Value, Values, Form, Kind, number_at, core_at, aggregator_at, time_word, is_name, name_at, value_at, values_at, fits, form_at, kind_at, ◌>>=◌}
use Rattle.ksi_imprint.specs.Imprints.{IsImprint}
use Rattle.ksi_aggtree.specs.Names.{IsName, most_letters, are_name_bytes}
use Rattle.ksi_schedule.specs.Forms.{in_two}
use Rattle.ksi_schedule.specs.declared.version.Version.{Version}
use Rattle.ksi_schedule.specs.declared.version.Version.TheVariants.{One, Two}
use Rattle.ksi_schedule.proofs.Digests.{read_imprint, read_bytes}

-- ---- steps of a reading

abbrev pub okay : {A : Type 0} → A → Result A LineFault
okay x = Ok x

pub same : {A : Type 0} (x y : A) → okay x ≡ okay y → x ≡ y
same x y e = cc

pub bind_ok : {A B : Type 0} (r : Result A LineFault) (f : A → Result B LineFault) (y : B) → (r >>= f) ≡ Ok y → (x : A) × (r ≡ Ok x) × (f x ≡ Ok y)
bind_ok (Ok x) f y is = (x, refl, is)
bind_ok (Err fault) f y is = absurd cc

pub picked : {A : Type 0} (b : Bool) (x y : A) (fault : LineFault) → cond b (Ok x) (Err fault) ≡ Ok y → (b ≡ true) × (x ≡ y)
picked true x y fault is = (refl, same x y is)
picked false x y fault is = absurd cc

pub both : (b c : Bool) → (b && c) ≡ true → (b ≡ true) × (c ≡ true)
both true c e = (refl, e)
both false c e = absurd cc

-- ---- words

abbrev pub Holds : PlanState → (sort : Sort) → Value sort → Type 0
Holds plan (the_word text) v = Unit {0}
Holds plan number v = Unit {0}
Holds plan core j = j < plan.cores
Holds plan aggregator k = k < length plan.parents
Holds plan second t = InRange plan t
Holds plan digest v = IsImprint v × All (λ b. b < 256) v
Holds plan a_name v = IsName v
Holds plan core_actor j = j < plan.cores
Holds plan aggregator_actor k = k < length plan.parents

abbrev pub AllHold : PlanState → (sorts : List Sort) → Values sorts → Type 0
AllHold plan [] vs = Unit {0}
AllHold plan (sort ∷ sorts) vs = Holds plan sort vs.0 × AllHold plan sorts vs.1

core_holds : (plan : PlanState) (word : Text) (j : ℕ) → core_at plan word ≡ Ok j → j < plan.cores
core_holds plan word j is =
    let n = bind_ok (number_at word) (λ j. cond (ltb j plan.cores) (Ok j) (Err NoSuchActor)) j is in
    let p = picked (ltb n.0 plan.cores) n.0 j NoSuchActor n.2 in
    subst (λ (j : ℕ). j < plan.cores) p.1 (ltb-true _ _ p.0)

aggregator_holds : (plan : PlanState) (word : Text) (k : ℕ) → aggregator_at plan word ≡ Ok k → k < length plan.parents
aggregator_holds plan word k is =
    let n = bind_ok (number_at word) (λ k. cond (ltb k (length plan.parents)) (Ok k) (Err NoSuchActor)) k is in
    let p = picked (ltb n.0 (length plan.parents)) n.0 k NoSuchActor n.2 in
    subst (λ (k : ℕ). k < length plan.parents) p.1 (ltb-true _ _ p.0)

second_holds : (plan : PlanState) (word : Text) (t : ℕ) → time_word plan word ≡ Ok t → InRange plan t
second_holds plan word t is =
    let n = bind_ok (number_at word) (λ t. cond (leb plan.start t && ltb t (plan.start + 2 ^ 24)) (Ok t) (Err SecondOutOfRange)) t is in
    let p = picked (leb plan.start n.0 && ltb n.0 (plan.start + 2 ^ 24)) n.0 t SecondOutOfRange n.2 in
    let o = both (leb plan.start n.0) (ltb n.0 (plan.start + 2 ^ 24)) p.0 in
    subst (λ (t : ℕ). InRange plan t) p.1 (leb-true _ _ o.0, ltb-true _ _ o.1)

name_from_test : (word : Text) → is_name word ≡ true → IsName word
name_from_test word is =
    let o = both (leb 1 (length word) && leb (length word) most_letters) (are_name_bytes word) is in
    let i = both (leb 1 (length word)) (leb (length word) most_letters) o.0 in
    record { some = leb-true _ _ i.0; few = leb-true _ _ i.1; each = o.1 }

name_holds : (plan : PlanState) (word name : Text) → name_at word ≡ Ok name → IsName name
name_holds plan word name is =
    let p = picked (is_name word) word name Name is in
    subst IsName p.1 (name_from_test word p.0)

pub value_holds : (plan : PlanState) (sort : Sort) (word : Text) (v : Value sort) → value_at plan sort word ≡ Ok v → Holds plan sort v
value_holds plan (the_word text) word v is = tt
value_holds plan number word v is = tt
value_holds plan core word v is = core_holds plan word v is
value_holds plan aggregator word v is = aggregator_holds plan word v is
value_holds plan second word v is = second_holds plan word v is
value_holds plan digest word v is = (read_imprint word v is, read_bytes word v is)
value_holds plan a_name word v is = name_holds plan word v is
value_holds plan core_actor [] v is = core_holds plan [] v is
value_holds plan core_actor (b ∷ word) v is = core_holds plan word v is
value_holds plan aggregator_actor [] v is = aggregator_holds plan [] v is
value_holds plan aggregator_actor (b ∷ word) v is = aggregator_holds plan word v is

values_hold : (plan : PlanState) (sorts : List Sort) (ws : List Text) (vs : Values sorts) → values_at plan sorts ws ≡ Ok vs → AllHold plan sorts vs
values_hold plan [] ws vs is = tt
values_hold plan (sort ∷ sorts) [] vs is = absurd cc
values_hold plan (sort ∷ sorts) (word ∷ ws) vs is =
    let first = bind_ok (value_at plan sort word) (λ v. values_at plan sorts ws >>= λ vs. Ok (v, vs)) vs is in
    let rest = bind_ok (values_at plan sorts ws) (λ vs. Ok (first.0, vs)) vs first.2 in
    subst (λ (vs : Values (sort ∷ sorts)). AllHold plan (sort ∷ sorts) vs) (same (first.0, rest.0) vs rest.2) (value_holds plan sort word first.0 first.1, values_hold plan sorts ws rest.0 rest.1)

-- ---- forms

abbrev pub Good : {A : Type 0} → PlanState → (A → Type 0) → List (Form A) → Type 0
Good plan P [] = Unit {0}
Good plan P (form ∷ forms) = ((vs : Values form.sorts) → AllHold plan form.sorts vs → P (form.makes vs)) × Good plan P forms

-- forms of version 2
pub good_in_two : {A : Type 0} (plan : PlanState) (P : A → Type 0) (version : Version) (forms : List (Form A)) → Good plan P forms → Good plan P (in_two version forms)
good_in_two plan P One forms good = tt
good_in_two plan P Two forms good = good

pub form_holds : {A : Type 0} (plan : PlanState) (P : A → Type 0) (forms : List (Form A)) (ws : List Text) (x : A) → Good plan P forms → form_at plan forms ws ≡ Ok x → P x
unfolding form_at
form_holds plan P [] ws x good is = absurd cc
form_holds plan P (form ∷ forms) ws x good is = by_fit (fits form.sorts ws) is (λ is. form_holds plan P forms ws x good.1 is)
  where
    by_fit : (b : Bool) → cond b (values_at plan form.sorts ws >>= λ vs. Ok (form.makes vs)) (form_at plan forms ws) ≡ Ok x → (form_at plan forms ws ≡ Ok x → P x) → P x
    by_fit true is others =
        let vs = bind_ok (values_at plan form.sorts ws) (λ vs. Ok (form.makes vs)) x is in
        subst P (same (form.makes vs.0) x vs.2) (good.0 vs.0 (values_hold plan form.sorts ws vs.0 vs.1))
    by_fit false is others = others is

abbrev pub GoodKinds : {A : Type 0} → PlanState → (A → Type 0) → List (Kind A) → Type 0
GoodKinds plan P [] = Unit {0}
GoodKinds plan P (kind ∷ kinds) = Good plan P kind.forms × GoodKinds plan P kinds

pub kind_holds : {A : Type 0} (plan : PlanState) (P : A → Type 0) (kinds : List (Kind A)) (name : Text) (ws : List Text) (x : A) → GoodKinds plan P kinds → kind_at plan kinds name ws ≡ Ok x → P x
kind_holds plan P [] name ws x good is = absurd cc
kind_holds plan P (kind ∷ kinds) name ws x good is = by_name (bytes_eq name kind.name) is (λ is. kind_holds plan P kinds name ws x good.1 is)
  where
    by_name : (b : Bool) → cond b (form_at plan kind.forms ws) (kind_at plan kinds name ws) ≡ Ok x → (kind_at plan kinds name ws ≡ Ok x → P x) → P x
    by_name true is others = form_holds plan P kind.forms ws x good.0 is
    by_name false is others = others is
