-- Voters of plans: what the calls of Voters and CorePlan use.
use Rattle.std.proofs.Common.{◌≡◌, ◌≢◌, ℕ, zero, suc, ◌+◌, ◌-◌, ◌^◌, ◌<◌, ◌≤◌, ◌⊎◌, Bool, true, false, cond, ◌&&◌, ◌||◌, eqb, ltb, leb, List, [], ◌∷◌, ◌++◌, length, take, map, get_or, refl, sym, ap, subst, ◌∙◌, arith, inl, inr, append-nil, length-append, replicate, get_or-set_other, get_or-set_same}
use Rattle.std.specs.List.{AllByRecursion, list_all, filter}
use Rattle.std.proofs.lemmas.Bool.{cases_eq, cond_both, cond-true, cond-false, eq-eqb, ne_eqb, ltb-true, lt-ltb, le-ltb}
use Rattle.std.proofs.lemmas.List.Elements.{filter-append}
use Rattle.std.proofs.lemmas.List.Folds.{list_any-append, list_all-append, list_all-map}
use Rattle.std.proofs.lemmas.List.{take_more_set, take_more, map-append}
use Rattle.std.proofs.Math.ListN.{set}
use Rattle.ksi_synod.specs.Voters.{cores_below, is_voter, is_flagged}
use Rattle.ksi_synod.specs.Flags.{flagged_below, flagged_cores}
use Rattle.ksi_synod.specs.declared.core_plan.VotersFrom.{VotersFrom}
use Rattle.ksi_synod.specs.CorePlans.{CorePlanState, voters_among, voters_of, AreRising, AreVoters, IsPair, IsCorePlan, has_room, with_voters}
use Rattle.ksi_synod.specs.declared.core_plan.CorePlan.TheInside.{Inside}
use Rattle.ksi_synod.specs.CorePlanFields.{no_pair, padded, plan_of, IsFilled}

-- ---- all of a list

abbrev pub AreBelow : ℕ → List ℕ → Type 0
AreBelow n xs = AllByRecursion (λ x. x < n) xs

pub all_append : {A : Type 0} (P : A → Type 0) (xs ys : List A) → AllByRecursion P xs → AllByRecursion P ys → AllByRecursion P (xs ++ ys)
all_append P [] ys one two = two
all_append P (x ∷ xs) ys one two = (one.0, all_append P xs ys one.1 two)

below_more : (n : ℕ) (xs : List ℕ) → AreBelow n xs → AreBelow (suc n) xs
below_more n [] low = tt
below_more n (x ∷ xs) low = (omega (arith, low.0), below_more n xs low.1)

all_front : {A : Type 0} (P : A → Type 0) (xs ys : List A) → AllByRecursion P (xs ++ ys) → AllByRecursion P xs
all_front P [] ys all = tt
all_front P (x ∷ xs) ys all = (all.0, all_front P xs ys all.1)

pub rising-more : (xs : List ℕ) (y : ℕ) → AreRising xs → AreBelow y xs → AreRising (xs ++ y ∷ [])
rising-more [] y rise low = (tt, tt)
rising-more (x ∷ xs) y rise low = (all_append (λ z. x < z) xs (y ∷ []) rise.0 (low.0, tt), rising-more xs y rise.1 low.1)

both : (b c : Bool) → (b && c) ≡ true → (b ≡ true) × (c ≡ true)
both true c e = (refl, e)
both false c e = absurd cc

pub below-from_test : (n : ℕ) (xs : List ℕ) → list_all (λ x. ltb x n) xs ≡ true → AreBelow n xs
below-from_test n [] all = tt
below-from_test n (x ∷ xs) all = let e = both (ltb x n) (list_all (λ x. ltb x n) xs) all in (ltb-true _ _ e.0, below-from_test n xs e.1)

pub test-from_below : (n : ℕ) (xs : List ℕ) → AreBelow n xs → list_all (λ x. ltb x n) xs ≡ true
test-from_below n [] low = refl
test-from_below n (x ∷ xs) low = ap (λ b. b && list_all (λ x. ltb x n) xs) (lt-ltb x n low.0) ∙ test-from_below n xs low.1

and_false : (b : Bool) → (b && false) ≡ false
and_false true = refl
and_false false = refl

-- ---- flags

module _ (flags : List Bool) where
  flagged_below-low : (n : ℕ) → AreBelow n (flagged_below flags n)
  flagged_below-low zero = tt
  flagged_below-low (suc n) =
      let before : AreBelow (suc n) (flagged_below flags n) = below_more n _ (flagged_below-low n) in
      cond_both (is_flagged flags n) (flagged_below flags n ++ n ∷ []) (flagged_below flags n) (AreBelow (suc n))
      (λ _. all_append (λ x. x < suc n) (flagged_below flags n) (n ∷ []) before (omega arith, tt)) (λ _. before)

  flagged_below-rising : (n : ℕ) → AreRising (flagged_below flags n)
  flagged_below-rising zero = tt
  flagged_below-rising (suc n) =
      cond_both (is_flagged flags n) (flagged_below flags n ++ n ∷ []) (flagged_below flags n) AreRising
      (λ _. rising-more (flagged_below flags n) n (flagged_below-rising n) (flagged_below-low n)) (λ _. flagged_below-rising n)

  pub flagged_cores-low : AreBelow 9 (flagged_cores flags)
  unfolding flagged_cores
  flagged_cores-low = flagged_below-low 9

  pub flagged_cores-rising : AreRising (flagged_cores flags)
  unfolding flagged_cores
  flagged_cores-rising = flagged_below-rising 9

  -- a core that is set, and not below another
  pub not_below : (core other n : ℕ) → is_flagged flags other ≡ true → core ≤ other → other < n → list_all (λ voter. ltb voter core) (flagged_below flags n) ≡ false
  not_below core other zero set high below = absurd (omega arith)
  not_below core other (suc n) set high below = elim (cases_eq n other) [
    | inl same ↦
        let is : is_flagged flags n ≡ true = ap (is_flagged flags) same ∙ set in
        ap (λ (voters : List ℕ). list_all (λ voter. ltb voter core) voters) (cond-true (is_flagged flags n) (flagged_below flags n ++ n ∷ []) (flagged_below flags n) is)
        ∙ list_all-append (λ voter. ltb voter core) (flagged_below flags n) (n ∷ [])
        ∙ ap (λ b. list_all (λ voter. ltb voter core) (flagged_below flags n) && (b && true)) (le-ltb n core (omega arith))
        ∙ and_false (list_all (λ voter. ltb voter core) (flagged_below flags n))
    | inr differ ↦
        let before : list_all (λ voter. ltb voter core) (flagged_below flags n) ≡ false = not_below core other n set high (omega arith) in
        cond_both (is_flagged flags n) (flagged_below flags n ++ n ∷ []) (flagged_below flags n) (λ voters. list_all (λ voter. ltb voter core) voters ≡ false)
        (λ _. list_all-append (λ voter. ltb voter core) (flagged_below flags n) (n ∷ []) ∙ ap (λ b. b && list_all (λ voter. ltb voter core) (n ∷ [])) before)
        (λ _. before)
  ]

  pub still_below : (core n : ℕ) → list_all (λ voter. ltb voter core) (flagged_below flags n) ≡ true → (is_flagged flags n ≡ true → n < core) → list_all (λ voter. ltb voter core) (flagged_below flags (suc n)) ≡ true
  still_below core n all low =
      cond_both (is_flagged flags n) (flagged_below flags n ++ n ∷ []) (flagged_below flags n) (λ voters. list_all (λ voter. ltb voter core) voters ≡ true)
      (λ is. list_all-append (λ voter. ltb voter core) (flagged_below flags n) (n ∷ []) ∙ ap (λ b. b && (ltb n core && true)) all ∙ ap (λ b. b && true) (lt-ltb n core (low is)))
      (λ _. all)

  -- ---- one core more

  unset : (core n : ℕ) → AreBelow core (flagged_below flags n) → (other : ℕ) → core ≤ other → other < n → is_flagged flags other ≡ false
  unset core n low other high below = by (is_flagged flags other) refl
    where
      by : (b : Bool) → is_flagged flags other ≡ b → b ≡ false
      by false is = refl
      by true is = let no = not_below core other n is high below in let yes = test-from_below core (flagged_below flags n) low in cc

  stays : (core m : ℕ) → AreBelow core (flagged_below flags m) → (n : ℕ) → core ≤ n → n ≤ m → flagged_below flags n ≡ flagged_below flags core
  stays core m low zero high few = let e : 0 ≡ core = omega arith in ap (flagged_below flags) e
  stays core m low (suc n) high few = elim (cases_eq (suc n) core) [
    | inl same ↦ ap (flagged_below flags) same
    | inr differ ↦ cond-false (is_flagged flags n) (flagged_below flags n ++ n ∷ []) (flagged_below flags n) (unset core m low n (omega arith) (omega arith)) ∙ stays core m low n (omega arith) (omega arith)
  ]

  set_before : (core n : ℕ) → n ≤ core → flagged_below (set flags core true) n ≡ flagged_below flags n
  set_before core zero few = refl
  set_before core (suc n) few =
      let other : n ≢ core = omega arith in
      ap (λ b. cond b (flagged_below (set flags core true) n ++ n ∷ []) (flagged_below (set flags core true) n)) (get_or-set_other flags core n true false other)
      ∙ ap (λ (xs : List ℕ). cond (is_flagged flags n) (xs ++ n ∷ []) xs) (set_before core n (omega arith))

  set_after : (core m : ℕ) → core < length flags → AreBelow core (flagged_below flags m) → (n : ℕ) → core < n → n ≤ m → flagged_below (set flags core true) n ≡ flagged_below flags core ++ core ∷ []
  set_after core m there low zero high few = absurd (omega arith)
  set_after core m there low (suc n) high few = elim (cases_eq n core) [
    | inl same ↦
        cond-true (is_flagged (set flags core true) n) (flagged_below (set flags core true) n ++ n ∷ []) (flagged_below (set flags core true) n) (ap (is_flagged (set flags core true)) same ∙ get_or-set_same flags core true false there)
        ∙ ap (λ (xs : List ℕ). xs ++ n ∷ []) (set_before core n (omega arith)) ∙ ap (λ k. flagged_below flags k ++ k ∷ []) same
    | inr differ ↦
        cond-false (is_flagged (set flags core true) n) (flagged_below (set flags core true) n ++ n ∷ []) (flagged_below (set flags core true) n) (get_or-set_other flags core n true false differ ∙ unset core m low n (omega arith) (omega arith))
        ∙ set_after core m there low n (omega arith) (omega arith)
  ]

  pub flagged_cores-more : (core : ℕ) → length flags ≡ 9 → core < 9 → AreBelow core (flagged_cores flags) → flagged_cores (set flags core true) ≡ flagged_cores flags ++ core ∷ []
  unfolding flagged_cores
  flagged_cores-more core nine few low =
      set_after core 9 (omega arith) low 9 few (omega arith) ∙ ap (λ (xs : List ℕ). xs ++ core ∷ []) (sym (stays core 9 low 9 (omega arith) (omega arith)))

-- ---- all cores

length-cores_below : (n : ℕ) → length (cores_below n) ≡ n
length-cores_below zero = refl
length-cores_below (suc n) = length-append (cores_below n) (n ∷ []) ∙ omega (arith, length-cores_below n)

cores_below-low : (n : ℕ) → AreBelow n (cores_below n)
cores_below-low zero = tt
cores_below-low (suc n) = all_append (λ x. x < suc n) (cores_below n) (n ∷ []) (below_more n _ (cores_below-low n)) (omega arith, tt)

cores_below-rising : (n : ℕ) → AreRising (cores_below n)
cores_below-rising zero = tt
cores_below-rising (suc n) = rising-more (cores_below n) n (cores_below-rising n) (cores_below-low n)

pub all_cores : (n : ℕ) → 1 ≤ n → AreVoters n (cores_below n)
all_cores n some = record { some = omega (arith, length-cores_below n); rising = cores_below-rising n; there = cores_below-low n }

-- ---- the voters of a second

pub voters_among-more : (others : List ℕ) (pairs : List VotersFrom) (pair : VotersFrom) (second : ℕ)
    → voters_among others (pairs ++ pair ∷ []) second ≡ cond (leb pair.second second) pair.voters (voters_among others pairs second)
voters_among-more others [] pair second = refl
voters_among-more others (p ∷ pairs) pair second = voters_among-more (cond (leb p.second second) p.voters others) pairs pair second

-- one pair more of a list
pub voters_among-next : (others : List ℕ) (pairs : List VotersFrom) (k : ℕ) (d : VotersFrom) (second : ℕ) → k < length pairs
    → voters_among others (take (k + 1) pairs) second ≡ cond (leb (get_or pairs k d).second second) (get_or pairs k d).voters (voters_among others (take k pairs) second)
voters_among-next others pairs k d second there =
    ap (λ (pairs : List VotersFrom). voters_among others pairs second) (take_more pairs k d there) ∙ voters_among-more others (take k pairs) (get_or pairs k d) second

voters_among-there : (cores start : ℕ) (others : List ℕ) (pairs : List VotersFrom) (second : ℕ) → AreVoters cores others → AllByRecursion (IsPair cores start) pairs → AreVoters cores (voters_among others pairs second)
voters_among-there cores start others [] second theirs all = theirs
voters_among-there cores start others (p ∷ pairs) second theirs all =
    voters_among-there cores start (cond (leb p.second second) p.voters others) pairs second
    (cond_both (leb p.second second) p.voters others (AreVoters cores) (λ _. all.0.voters) (λ _. theirs)) all.1

pub voters_there : (plan : CorePlanState) (second : ℕ) → IsCorePlan plan → AreVoters plan.cores (voters_of plan second)
voters_there plan second is = voters_among-there plan.cores plan.start (cores_below plan.cores) plan.voters second (all_cores plan.cores is.some) is.pairs

-- ---- rising lists

-- the greatest that may be there stands last, or is not there
pub record EndsWith (n : ℕ) (xs : List ℕ) : Type 0 where
  pub front : List ℕ
  pub is : xs ≡ front ++ n ∷ []
  pub low : AreBelow n front
  pub rising : AreRising front

none_left : (n : ℕ) (xs : List ℕ) → AreBelow (suc n) xs → AllByRecursion (λ y. n < y) xs → xs ≡ []
none_left n [] low high = refl
none_left n (x ∷ xs) low high = absurd (omega (arith, low.0, high.0))

ends_or_low : (n : ℕ) (xs : List ℕ) → AreRising xs → AreBelow (suc n) xs → AreBelow n xs ⊎ EndsWith n xs
ends_or_low n [] rise low = inl tt
ends_or_low n (x ∷ xs) rise low = elim (cases_eq x n) [
  | inl same ↦
      let high : AllByRecursion (λ y. n < y) xs = subst (λ m. AllByRecursion (λ y. m < y) xs) same rise.0 in
      inr (record { front = []; is = ap (λ m. m ∷ xs) same ∙ ap (λ (ys : List ℕ). n ∷ ys) (none_left n xs low.1 high); low = tt; rising = tt })
  | inr other ↦
      let here : x < n = omega (arith, low.0) in
      elim (ends_or_low n xs rise.1 low.1) [
        | inl still ↦ inl (here, still)
        | inr ends ↦ inr (record { front = x ∷ ends.front; is = ap (λ (ys : List ℕ). x ∷ ys) ends.is; low = (here, ends.low); rising = (front_above n (λ y. x < y) ends.front xs ends.is rise.0, ends.rising) })
      ]
]
  where
    front_above : (n : ℕ) (P : ℕ → Type 0) (front xs : List ℕ) → xs ≡ front ++ n ∷ [] → AllByRecursion P xs → AllByRecursion P front
    front_above n P front xs is all = all_front P front (n ∷ []) (subst (λ (ys : List ℕ). AllByRecursion P ys) is all)

pub few_voters : (n : ℕ) (xs : List ℕ) → AreRising xs → AreBelow n xs → length xs ≤ n
few_voters zero [] rise low = omega arith
few_voters zero (x ∷ xs) rise low = absurd (omega (arith, low.0))
few_voters (suc n) xs rise low = elim (ends_or_low n xs rise low) [
  | inl still ↦ let few : length xs ≤ n = few_voters n xs rise still in omega arith
  | inr ends ↦ let few : length ends.front ≤ n = few_voters n ends.front ends.rising ends.low in omega (arith, ap length ends.is, length-append ends.front (n ∷ []))
]

is_voter-more : (xs : List ℕ) (y core : ℕ) → is_voter (xs ++ y ∷ []) core ≡ (is_voter xs core || (eqb y core || false))
is_voter-more xs y core = list_any-append (λ voter. eqb voter core) xs (y ∷ [])

or_false : (b : Bool) → (b || false) ≡ b
or_false true = refl
or_false false = refl

or_true : (b : Bool) → (b || true) ≡ true
or_true true = refl
or_true false = refl

not_there : (n : ℕ) (xs : List ℕ) → AreBelow n xs → is_voter xs n ≡ false
not_there n [] low = refl
not_there n (x ∷ xs) low = ap (λ b. b || is_voter xs n) (ne_eqb x n (λ same. omega (arith, low.0))) ∙ not_there n xs low.1

filter_below : (p q : ℕ → Bool) (n : ℕ) → ((core : ℕ) → core < n → p core ≡ q core) → filter p (cores_below n) ≡ filter q (cores_below n)
filter_below p q zero agree = refl
filter_below p q (suc n) agree =
    filter-append p (cores_below n) (n ∷ []) ∙ ap (λ (xs : List ℕ). xs ++ filter p (n ∷ [])) (filter_below p q n (λ core low. agree core (omega arith)))
    ∙ ap (λ b. filter q (cores_below n) ++ cond b (n ∷ []) []) (agree n (omega arith)) ∙ sym (filter-append q (cores_below n) (n ∷ []))

-- rising numbers below n are those cores below n that are among them
pub listed : (n : ℕ) (xs : List ℕ) → AreRising xs → AreBelow n xs → filter (is_voter xs) (cores_below n) ≡ xs
listed zero [] rise low = refl
listed zero (x ∷ xs) rise low = absurd (omega (arith, low.0))
listed (suc n) xs rise low = elim (ends_or_low n xs rise low) [
  | inl still ↦
      filter-append (is_voter xs) (cores_below n) (n ∷ []) ∙ ap (λ b. filter (is_voter xs) (cores_below n) ++ cond b (n ∷ []) []) (not_there n xs still)
      ∙ append-nil (filter (is_voter xs) (cores_below n)) ∙ listed n xs rise still
  | inr ends ↦
      let same : (core : ℕ) → core < n → is_voter xs core ≡ is_voter ends.front core = λ core below.
      ap (λ (xs : List ℕ). is_voter xs core) ends.is ∙ is_voter-more ends.front n core
      ∙ ap (λ b. is_voter ends.front core || (b || false)) (ne_eqb n core (λ same. omega arith)) ∙ or_false (is_voter ends.front core) in
      let here : is_voter xs n ≡ true =
      ap (λ (xs : List ℕ). is_voter xs n) ends.is ∙ is_voter-more ends.front n n
      ∙ ap (λ b. is_voter ends.front n || (b || false)) (eq-eqb n n refl) ∙ or_true (is_voter ends.front n) in
      filter-append (is_voter xs) (cores_below n) (n ∷ []) ∙ ap (λ b. filter (is_voter xs) (cores_below n) ++ cond b (n ∷ []) []) here
      ∙ ap (λ (ys : List ℕ). ys ++ n ∷ []) (filter_below (is_voter xs) (is_voter ends.front) n same ∙ listed n ends.front ends.rising ends.low) ∙ sym ends.is
]

-- ---- the array of a plan

pub padded-none : (room : ℕ) → padded room [] ≡ replicate room no_pair
unfolding padded
padded-none zero = refl
padded-none (suc room) = ap (λ (pairs : List VotersFrom). no_pair ∷ pairs) (padded-none room)

pub padded-more : (room : ℕ) (pairs : List VotersFrom) (pair : VotersFrom) → length pairs < room → set (padded room pairs) (length pairs) pair ≡ padded room (pairs ++ pair ∷ [])
unfolding padded
padded-more zero pairs pair few = absurd (omega arith)
padded-more (suc room) [] pair few = refl
padded-more (suc room) (p ∷ pairs) pair few = ap (λ (pairs : List VotersFrom). p ∷ pairs) (padded-more room pairs pair (omega arith))

pub length-padded : (room : ℕ) (pairs : List VotersFrom) → length pairs ≤ room → length (padded room pairs) ≡ room
unfolding padded
length-padded zero [] few = refl
length-padded zero (p ∷ pairs) few = absurd (omega arith)
length-padded (suc room) [] few = ap suc (length-padded room [] (omega arith))
length-padded (suc room) (p ∷ pairs) few = ap suc (length-padded room pairs (omega arith))

-- how many pairs there are, and how many places
pub record IsPlaced (a : Inside) : Type 0 where
  pub few : a.count ≤ 256
  pub places : length a.voters ≡ 256

pub placed : (a : Inside) → IsFilled a → IsPlaced a
placed a is =
    let few : length (take a.count a.voters) ≤ 256 = is.plan.many in
    record { few = omega (arith, is.count); places = ap length is.padded ∙ length-padded 256 (take a.count a.voters) few }

-- one pair more
pub more_pairs : (plan : CorePlanState) (second : ℕ) (voters : List ℕ) → IsCorePlan plan → has_room plan second ≡ true
    → plan.start ≤ second → second < plan.start + 2 ^ 24 → AreVoters plan.cores voters → IsCorePlan (with_voters plan second voters)
more_pairs plan second voters is room early late there =
    let e = both (ltb (length plan.voters) 256) (list_all (λ p. ltb p.second second) plan.voters) room in
    let few : length plan.voters < 256 = ltb-true _ _ e.0 in
    record {
      some = is.some;
      few = is.few;
      early = is.early;
      many = omega (arith, length-append plan.voters (record { second = second; voters = voters } ∷ []));
      rising =
          subst AreRising (sym (map-append (λ (p : VotersFrom). p.second) plan.voters (record { second = second; voters = voters } ∷ [])))
          (rising-more (map (λ p. p.second) plan.voters) second is.rising (below-from_test second (map (λ p. p.second) plan.voters) (list_all-map (λ x. ltb x second) (λ (p : VotersFrom). p.second) plan.voters ∙ e.1)));
      pairs = all_append (IsPair plan.cores plan.start) plan.voters (record { second = second; voters = voters } ∷ []) is.pairs (record { early = early; late = late; voters = there }, tt);
    }

pub filled_with : (a : Inside) (plan : CorePlanState) (second : ℕ) (voters : List ℕ) → plan_of a ≡ plan → IsFilled a
    → has_room plan second ≡ true → plan.start ≤ second → second < plan.start + 2 ^ 24 → AreVoters plan.cores voters
    → IsFilled (record a { count = a.count + 1; voters = set a.voters a.count (record { second = second; voters = voters }) })
filled_with a plan second voters view is = subst (λ (p : CorePlanState). Fits p) view by
  where
    pair : VotersFrom
    pair = record { second = second; voters = voters }

    Fits : CorePlanState → Type 0
    Fits p = has_room p second ≡ true → p.start ≤ second → second < p.start + 2 ^ 24 → AreVoters p.cores voters → IsFilled (record a { count = a.count + 1; voters = set a.voters a.count pair })

    by : Fits (plan_of a)
    by room early late there =
        let more_is = more_pairs (plan_of a) second voters is.plan room early late there in
        let many : length (take a.count a.voters ++ pair ∷ []) ≤ 256 = more_is.many in
        let at : IsPlaced a = placed a is in
        let count : length (take a.count a.voters ++ pair ∷ []) ≡ a.count + 1 = omega (arith, length-append (take a.count a.voters) (pair ∷ []), is.count) in
        let more : take (a.count + 1) (set a.voters a.count pair) ≡ take a.count a.voters ++ pair ∷ [] = take_more_set a.voters a.count pair (omega (arith, at.places)) in
        record {
          plan = subst (λ (pairs : List VotersFrom). IsCorePlan (record { cores = a.cores; start = a.start; voters = pairs })) (sym more) more_is;
          count = ap length more ∙ count;
          padded =
              ap (λ (pairs : List VotersFrom). set pairs a.count pair) is.padded ∙ ap (λ n. set (padded 256 (take a.count a.voters)) n pair) (sym is.count)
              ∙ padded-more 256 (take a.count a.voters) pair (omega (arith, is.count)) ∙ ap (padded 256) (sym more);
        }

-- the pair before the k-th, and those before it
pub looked_back : (a : Inside) (others : List ℕ) (k : ℕ) (d : VotersFrom) (second : ℕ) → IsFilled a → 0 < k → k ≤ a.count
    → voters_among others (take k a.voters) second ≡ cond (leb (get_or a.voters (k - 1) d).second second) (get_or a.voters (k - 1) d).voters (voters_among others (take (k - 1) a.voters) second)
looked_back a others k d second is some few =
    let at : IsPlaced a = placed a is in
    let here : k ≡ k - 1 + 1 = omega arith in
    ap (λ k. voters_among others (take k a.voters) second) here ∙ voters_among-next others a.voters (k - 1) d second (omega (arith, at.places, at.few))

pub plan_limits : (a : Inside) (plan : CorePlanState) → plan_of a ≡ plan → IsFilled a → IsCorePlan plan
plan_limits a plan view is = subst IsCorePlan view is.plan
