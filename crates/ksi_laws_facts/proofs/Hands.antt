-- The hand with one message more.
use Rattle.std.proofs.Common.{◌≡◌, ℕ, ◌+◌, ◌*◌, ◌<◌, Bool, true, false, cond, not, is_none, ◌&&◌, ◌||◌, ◌⊎◌, eqb, ltb, List, [], ◌∷◌, length, get_or, set, refl, sym, ap, ◌∙◌, arith, inl, inr, Option, Some, None}
use Rattle.std.specs.Prelude.{option_map, option_and_then, unwrap_or}
use Rattle.std.specs.List.{count_by, cons_option}
use Rattle.std.proofs.lemmas.Bool.{cases_eq, cases_Bool, cond-true, cond-false, eq-eqb, ne_eqb, and_parts, and_from, false≢true, not-true, le-ltb}
use Rattle.std.proofs.lemmas.List.{get_or-set_other, get_or-set_same}
use Rattle.std.proofs.Math.ListN.{length-set}
use Rattle.std.proofs.lemmas.List.Sums.{sum_by-cons}
use Rattle.ksi_synod.specs.declared.messages.Vote.{Vote}
use Rattle.ksi_synod.specs.declared.messages.LastVote.{LastVote}
use Rattle.ksi_synod.specs.declared.messages.SynodMessage.TheVariants as votes
use Rattle.ksi_synod.specs.Voters.{is_voter, is_flagged, is_majority}
use Rattle.ksi_synod.specs.VoteState.{Hand}
use Rattle.ksi_synod.specs.Rows.{greater_vote, decree_of, counts_last, with_last, decree_now, voted_for, with_voted}
use Rattle.ksi_laws_facts.specs.Since.{Since, Reply, with_reply, Told, Moment, told, voted, has_told, are_most, greatest_told, or_now, first_moment, begun, told_until, decree_begun}
use Rattle.ksi_laws_facts.proofs.Standing.{IsHandSo}

-- SETS OF CORES

-- a flag more
flag_set : (flags : List Bool) (core : ℕ) (p : ℕ → Bool) → length flags ≡ 9 → core < 9 → ((y : ℕ) → is_flagged flags y ≡ p y) → (y : ℕ) → is_flagged (set flags core true) y ≡ (eqb core y || p y)
flag_set flags core p room small same y = elim (cases_eq core y) [
  | inl is ↦ ap (λ (k : ℕ). get_or (set flags core true) k false) (sym is) ∙ get_or-set_same flags core true false (omega (arith, room, small)) ∙ sym (ap (λ (b : Bool). b || p y) (eq-eqb core y is))
  | inr other ↦ get_or-set_other flags core y true false (λ e. other (sym e)) ∙ same y ∙ sym (ap (λ (b : Bool). b || p y) (ne_eqb core y other))
]

-- one that is there already
there_again : (core : ℕ) (p : ℕ → Bool) → p core ≡ true → (y : ℕ) → (eqb core y || p y) ≡ p y
there_again core p there y = elim (cases_eq core y) [
  | inl is ↦ ap (λ (b : Bool). b || p y) (eq-eqb core y is) ∙ sym (ap p (sym is) ∙ there)
  | inr other ↦ ap (λ (b : Bool). b || p y) (ne_eqb core y other)
]

count_same : (p q : ℕ → Bool) (xs : List ℕ) → ((y : ℕ) → p y ≡ q y) → count_by p xs ≡ count_by q xs
count_same p q [] same = refl
count_same p q (x ∷ xs) same =
    sum_by-cons (λ y. cond (p y) 1 0) x xs ∙ ap (λ (n : ℕ). n + count_by p xs) (ap (λ (b : Bool). cond b 1 0) (same x))
    ∙ ap (λ (n : ℕ). cond (q x) 1 0 + n) (count_same p q xs same) ∙ sym (sum_by-cons (λ y. cond (q y) 1 0) x xs)

count_none : (xs : List ℕ) → count_by (has_told []) xs ≡ 0
count_none [] = refl
count_none (x ∷ xs) = sum_by-cons (λ y. cond (has_told [] y) 1 0) x xs ∙ omega (arith, count_none xs)

most_same : (voters : List ℕ) (p q : ℕ → Bool) → ((y : ℕ) → p y ≡ q y) → ltb (length voters) (2 * count_by p voters) ≡ ltb (length voters) (2 * count_by q voters)
most_same voters p q same = ap (λ (n : ℕ). ltb (length voters) (2 * n)) (count_same p q voters same)

-- where there was no such moment, it does not hold now
none_holds : (holds : List Reply → Bool) → holds [] ≡ false → (hs : List Reply) → first_moment holds hs ≡ None → holds hs ≡ false
none_holds holds first [] none = first
none_holds holds first (h ∷ older) none = by (first_moment holds older) (holds (h ∷ older)) none
  where
    by : (m : Option Moment) (b : Bool) → or_now b (h ∷ older) h m ≡ None → b ≡ false
    by None true e = absurd (cc e)
    by None false e = refl
    by (Some m) b e = absurd (cc e)

decree_some : (g : Option Vote) (c : List ℕ) → decree_of g (Some c) ≡ None → ⊥
decree_some None c e = cc e
decree_some (Some v) c e = cc e

module _ (voters : List ℕ) (small : (y : ℕ) → is_voter voters y ≡ true → y < 9) (candidate : Option (List ℕ)) (s : Since) (h : Hand) (so : IsHandSo voters candidate s h) (x : Reply) where
  abbrev Ts : List Reply → List Told
  Ts hs = told voters s.ballot hs

  abbrev now : Since
  now = with_reply x s

  abbrev decide : Moment → Option (List ℕ)
  decide m = decree_of (greatest_told (Ts m.by_then)) candidate

  few : begun voters s ≡ None → are_most voters (Ts s.heard) ≡ false
  few none = none_holds (λ hs. are_most voters (Ts hs)) (le-ltb (length voters) (2 * count_by (has_told []) voters) (omega (arith, count_none voters))) s.heard none

  -- the members of LastVote stay, and those of Voted are these
  stays : (h' : Hand) → h'.ballot ≡ h.ballot → h'.last ≡ h.last → h'.greatest ≡ h.greatest → h'.decree ≡ h.decree → length h'.voted ≡ 9
      → (begun voters s ≡ None → (y : ℕ) → has_told (Ts (x ∷ s.heard)) y ≡ has_told (Ts s.heard) y)
      → (begun voters s ≡ None → greatest_told (Ts (x ∷ s.heard)) ≡ greatest_told (Ts s.heard))
      → (begun voters s ≡ None → (y : ℕ) → is_flagged h'.voted y ≡ false)
      → ((m : Moment) → begun voters s ≡ Some m → (y : ℕ) → is_flagged h'.voted y ≡ is_voter (voted voters s.ballot (x ∷ m.later)) y)
      → IsHandSo voters candidate now h'
  stays h' e1 e2 e3 e4 room members greatest none_voted some_voted = by (begun voters s) refl
    where
      by : (o : Option Moment) → begun voters s ≡ o → IsHandSo voters candidate now h'
      by (Some m) e = record {
        is = record {
          ballot = e1 ∙ so.is.ballot;
          last = λ y. ap (λ (fs : List Bool). is_flagged fs y) e2 ∙ so.is.last y ∙ ap (λ (ts : List Told). has_told ts y) (until ∙ sym until_now);
          greatest = e3 ∙ so.is.greatest ∙ ap greatest_told (until ∙ sym until_now);
          decree = e4 ∙ so.is.decree ∙ decree_was ∙ sym decree_is;
          voted = λ y. some_voted m e y ∙ sym (ap (λ (o : Option Moment). is_voter (voted voters s.ballot (unwrap_or (option_map (λ (m : Moment). m.later) o) [])) y) e_now);
          last_flags = ap length e2 ∙ so.is.last_flags;
          voted_flags = room;
        };
        own = so.own;
        sealed = so.sealed;
      }
        where
          e_now : begun voters now ≡ Some (record { by_then = m.by_then; later = x ∷ m.later })
          e_now = ap (or_now (are_most voters (Ts (x ∷ s.heard))) (x ∷ s.heard) x) e

          until : told_until voters s ≡ Ts m.by_then
          until = ap (λ (o : Option Moment). Ts (unwrap_or (option_map (λ (m : Moment). m.by_then) o) s.heard)) e

          until_now : told_until voters now ≡ Ts m.by_then
          until_now = ap (λ (o : Option Moment). Ts (unwrap_or (option_map (λ (m : Moment). m.by_then) o) (x ∷ s.heard))) e_now

          decree_was : decree_begun voters candidate s ≡ decree_of (greatest_told (Ts m.by_then)) candidate
          decree_was = ap (option_and_then decide) e

          decree_is : decree_begun voters candidate now ≡ decree_of (greatest_told (Ts m.by_then)) candidate
          decree_is = ap (option_and_then decide) e_now
      by None e = record {
        is = record {
          ballot = e1 ∙ so.is.ballot;
          last = λ y. ap (λ (fs : List Bool). is_flagged fs y) e2 ∙ so.is.last y ∙ ap (λ (ts : List Told). has_told ts y) until ∙ sym (ap (λ (ts : List Told). has_told ts y) until_now ∙ members e y);
          greatest = e3 ∙ so.is.greatest ∙ ap greatest_told until ∙ sym (ap greatest_told until_now ∙ greatest e);
          decree = e4 ∙ so.is.decree ∙ ap (option_and_then decide) e ∙ sym (ap (option_and_then decide) e_now);
          voted = λ y. none_voted e y ∙ sym (ap (λ (o : Option Moment). is_voter (voted voters s.ballot (unwrap_or (option_map (λ (m : Moment). m.later) o) [])) y) e_now);
          last_flags = ap length e2 ∙ so.is.last_flags;
          voted_flags = room;
        };
        own = so.own;
        sealed = so.sealed;
      }
        where
          e_now : begun voters now ≡ None
          e_now = ap (or_now (are_most voters (Ts (x ∷ s.heard))) (x ∷ s.heard) x) e
              ∙ cond-false (are_most voters (Ts (x ∷ s.heard))) (Some (record { by_then = x ∷ s.heard; later = [] })) None
              (most_same voters (has_told (Ts (x ∷ s.heard))) (has_told (Ts s.heard)) (members e) ∙ few e)

          until : told_until voters s ≡ Ts s.heard
          until = ap (λ (o : Option Moment). Ts (unwrap_or (option_map (λ (m : Moment). m.by_then) o) s.heard)) e

          until_now : told_until voters now ≡ Ts (x ∷ s.heard)
          until_now = ap (λ (o : Option Moment). Ts (unwrap_or (option_map (λ (m : Moment). m.by_then) o) (x ∷ s.heard))) e_now

  -- nothing voted before a decree was begun
  no_voted : begun voters s ≡ None → (y : ℕ) → is_flagged h.voted y ≡ false
  no_voted none y = so.is.voted y ∙ ap (λ (o : Option Moment). is_voter (voted voters s.ballot (unwrap_or (option_map (λ (m : Moment). m.later) o) [])) y) none

  voted_was : (m : Moment) → begun voters s ≡ Some m → (y : ℕ) → is_flagged h.voted y ≡ is_voter (voted voters s.ballot m.later) y
  voted_was m some y = so.is.voted y ∙ ap (λ (o : Option Moment). is_voter (voted voters s.ballot (unwrap_or (option_map (λ (m : Moment). m.later) o) [])) y) some

  told_was : begun voters s ≡ None → (y : ℕ) → is_flagged h.last y ≡ has_told (Ts s.heard) y
  told_was none y = so.is.last y ∙ ap (λ (o : Option Moment). has_told (Ts (unwrap_or (option_map (λ (m : Moment). m.by_then) o) s.heard)) y) none

  greatest_was : begun voters s ≡ None → h.greatest ≡ greatest_told (Ts s.heard)
  greatest_was none = so.is.greatest ∙ ap (λ (o : Option Moment). greatest_told (Ts (unwrap_or (option_map (λ (m : Moment). m.by_then) o) s.heard))) none

  -- a decree is in hand exactly where one is begun
  decree_none : begun voters s ≡ None → h.decree ≡ None
  decree_none none = so.is.decree ∙ ap (option_and_then decide) none

  none_begun : h.decree ≡ None → begun voters s ≡ None
  none_begun none = by (begun voters s) refl
    where
      by : (o : Option Moment) → begun voters s ≡ o → o ≡ None
      by None e = refl
      by (Some m) e = absurd (decree_some (greatest_told (Ts m.by_then)) so.own
          (ap (decree_of (greatest_told (Ts m.by_then))) (sym so.sealed) ∙ sym (ap (option_and_then decide) e) ∙ sym so.is.decree ∙ none))

-- LASTVOTE

module _ (voters : List ℕ) (small : (y : ℕ) → is_voter voters y ≡ true → y < 9) (candidate : Option (List ℕ)) (s : Since) (h : Hand) (so : IsHandSo voters candidate s h) (from : ℕ) (l : LastVote) where
  abbrev X : Reply
  X = record { from = from; what = votes.LastVote l }

  abbrev New : Told
  New = record { from = from; vote = l.vote }

  abbrev Old : List Told
  Old = told voters s.ballot s.heard

  -- whether it may count
  abbrev counted : Bool
  counted = eqb s.ballot l.ballot && is_voter voters from

  told_no : counted ≡ false → told voters s.ballot (X ∷ s.heard) ≡ Old
  told_no unmet = ap (λ (b : Bool). cons_option (cond b (Some New) None) Old) unmet

  told_yes : counted ≡ true → told voters s.ballot (X ∷ s.heard) ≡ New ∷ Old
  told_yes met = ap (λ (b : Bool). cons_option (cond b (Some New) None) Old) met

  -- it does not count
  pub last_idle : counts_last voters (Some h) from l.ballot ≡ false → IsHandSo voters candidate (with_reply X s) h
  last_idle idle = stays voters small candidate s h so X h refl refl refl refl so.is.voted_flags
      (λ none y. (both none (cases_Bool counted)).0 y) (λ none. (both none (cases_Bool counted)).1) (no_voted voters small candidate s h so X) (voted_was voters small candidate s h so X)
    where
      Same : Type 0
      Same = ((y : ℕ) → has_told (told voters s.ballot (X ∷ s.heard)) y ≡ has_told Old y) × (greatest_told (told voters s.ballot (X ∷ s.heard)) ≡ greatest_told Old)

      flagged : begun voters s ≡ None → counted ≡ true → (b : Bool) → is_flagged h.last from ≡ b → b ≡ true
      flagged none met true e = refl
      flagged none met false e =
          let parts = and_parts _ _ met in
          let ballot : eqb h.ballot l.ballot ≡ true = ap (λ (b : ℕ). eqb b l.ballot) so.is.ballot ∙ parts.0 in
          let undecided : is_none h.decree ≡ true = ap (λ (o : Option (List ℕ)). is_none o) (decree_none voters small candidate s h so X none) in
          absurd (false≢true (sym idle ∙ and_from _ _ ballot (and_from _ _ undecided (and_from _ _ parts.1 (ap not e)))))

      both : begun voters s ≡ None → (counted ≡ true) ⊎ (counted ≡ false) → Same
      both none (inr unmet) = ((λ y. ap (λ (ts : List Told). has_told ts y) (told_no unmet)), ap greatest_told (told_no unmet))
      both none (inl met) =
          let there : has_told Old from ≡ true = sym (told_was voters small candidate s h so X none from) ∙ flagged none met (is_flagged h.last from) refl in (
            (λ y. ap (λ (ts : List Told). has_told ts y) (told_yes met) ∙ there_again from (has_told Old) there y),
            ap greatest_told (told_yes met) ∙ cond-true (has_told Old from) (greatest_told Old) (greater_vote (greatest_told Old) l.vote) there,
          )

  -- it counts
  module _ (met : counted ≡ true) (undecided : h.decree ≡ None) (first : is_flagged h.last from ≡ false) where
    none : begun voters s ≡ None
    none = none_begun voters small candidate s h so X undecided

    abbrev after : Hand
    after = with_last h from l.vote

    flags_now : (y : ℕ) → is_flagged after.last y ≡ has_told (told voters s.ballot (X ∷ s.heard)) y
    flags_now y = flag_set h.last from (has_told Old) so.is.last_flags (small from (and_parts _ _ met).1) (told_was voters small candidate s h so X none) y
        ∙ sym (ap (λ (ts : List Told). has_told ts y) (told_yes met))

    greatest_now : after.greatest ≡ greatest_told (told voters s.ballot (X ∷ s.heard))
    greatest_now = ap (λ (g : Option Vote). greater_vote g l.vote) (greatest_was voters small candidate s h so X none)
        ∙ sym (cond-false (has_told Old from) (greatest_told Old) (greater_vote (greatest_told Old) l.vote) (sym (told_was voters small candidate s h so X none from) ∙ first))
        ∙ sym (ap greatest_told (told_yes met))

    most_now : is_majority voters after.last ≡ are_most voters (told voters s.ballot (X ∷ s.heard))
    most_now = most_same voters (is_flagged after.last) (has_told (told voters s.ballot (X ∷ s.heard))) flags_now

    begun_now : begun voters (with_reply X s) ≡ cond (is_majority voters after.last) (Some (record { by_then = X ∷ s.heard; later = [] })) None
    begun_now = ap (or_now (are_most voters (told voters s.ballot (X ∷ s.heard))) (X ∷ s.heard) X) none
        ∙ ap (λ (b : Bool). cond b (Some (record { by_then = X ∷ s.heard; later = [] })) None) (sym most_now)

    last_counts : IsHandSo voters candidate (with_reply X s) (record after { decree = decree_now voters candidate after })
    last_counts = by (is_majority voters after.last) begun_now
      where
        by : (b : Bool) → begun voters (with_reply X s) ≡ cond b (Some (record { by_then = X ∷ s.heard; later = [] })) None → IsHandSo voters candidate (with_reply X s) (record after { decree = cond b (decree_of after.greatest candidate) None })
        by true e = record {
          is = record {
            ballot = so.is.ballot;
            last = λ y. flags_now y ∙ sym (ap (λ (o : Option Moment). has_told (told voters s.ballot (unwrap_or (option_map (λ (m : Moment). m.by_then) o) (X ∷ s.heard))) y) e);
            greatest = greatest_now ∙ sym (ap (λ (o : Option Moment). greatest_told (told voters s.ballot (unwrap_or (option_map (λ (m : Moment). m.by_then) o) (X ∷ s.heard)))) e);
            decree = ap (λ (g : Option Vote). decree_of g candidate) greatest_now ∙ sym (ap (option_and_then (λ (m : Moment). decree_of (greatest_told (told voters s.ballot m.by_then)) candidate)) e);
            voted = λ y. no_voted voters small candidate s h so X none y ∙ sym (ap (λ (o : Option Moment). is_voter (voted voters s.ballot (unwrap_or (option_map (λ (m : Moment). m.later) o) [])) y) e);
            last_flags = length-set h.last from true ∙ so.is.last_flags;
            voted_flags = so.is.voted_flags;
          };
          own = so.own;
          sealed = so.sealed;
        }
        by false e = record {
          is = record {
            ballot = so.is.ballot;
            last = λ y. flags_now y ∙ sym (ap (λ (o : Option Moment). has_told (told voters s.ballot (unwrap_or (option_map (λ (m : Moment). m.by_then) o) (X ∷ s.heard))) y) e);
            greatest = greatest_now ∙ sym (ap (λ (o : Option Moment). greatest_told (told voters s.ballot (unwrap_or (option_map (λ (m : Moment). m.by_then) o) (X ∷ s.heard)))) e);
            decree = sym (ap (option_and_then (λ (m : Moment). decree_of (greatest_told (told voters s.ballot m.by_then)) candidate)) e);
            voted = λ y. no_voted voters small candidate s h so X none y ∙ sym (ap (λ (o : Option Moment). is_voter (voted voters s.ballot (unwrap_or (option_map (λ (m : Moment). m.later) o) [])) y) e);
            last_flags = length-set h.last from true ∙ so.is.last_flags;
            voted_flags = so.is.voted_flags;
          };
          own = so.own;
          sealed = so.sealed;
        }

  pub last_counted : counts_last voters (Some h) from l.ballot ≡ true → IsHandSo voters candidate (with_reply X s) (record (with_last h from l.vote) { decree = decree_now voters candidate (with_last h from l.vote) })
  last_counted counts =
      let one = and_parts _ _ counts in
      let two = and_parts _ _ one.1 in
      let three = and_parts _ _ two.1 in
      last_counts (and_from _ _ (ap (λ (b : ℕ). eqb b l.ballot) (sym so.is.ballot) ∙ one.0) three.0) (none_is h.decree two.0) (not-true _ three.1)
    where
      none_is : (o : Option (List ℕ)) → is_none o ≡ true → o ≡ None
      none_is None e = refl
      none_is (Some d) e = absurd (cc e)

-- VOTED

module _ (voters : List ℕ) (small : (y : ℕ) → is_voter voters y ≡ true → y < 9) (candidate : Option (List ℕ)) (s : Since) (h : Hand) (so : IsHandSo voters candidate s h) (from b : ℕ) where
  abbrev Y : Reply
  Y = record { from = from; what = votes.Voted b }

  abbrev may : Bool
  may = eqb s.ballot b && is_voter voters from

  voted_no : may ≡ false → (hs : List Reply) → voted voters s.ballot (Y ∷ hs) ≡ voted voters s.ballot hs
  voted_no unmet hs = ap (λ (c : Bool). cons_option (cond c (Some from) None) (voted voters s.ballot hs)) unmet

  voted_yes : may ≡ true → (hs : List Reply) → voted voters s.ballot (Y ∷ hs) ≡ from ∷ voted voters s.ballot hs
  voted_yes met hs = ap (λ (c : Bool). cons_option (cond c (Some from) None) (voted voters s.ballot hs)) met

  -- it does not count
  pub voted_idle : voted_for voters (Some h) from b ≡ None → IsHandSo voters candidate (with_reply Y s) h
  voted_idle idle = stays voters small candidate s h so Y h refl refl refl refl so.is.voted_flags (λ none y. refl) (λ none. refl) (no_voted voters small candidate s h so Y)
      (λ m some y. voted_was voters small candidate s h so Y m some y ∙ sym (same m some (cases_Bool may) y))
    where
      flagged : (m : Moment) → begun voters s ≡ Some m → may ≡ true → (f : Bool) → is_flagged h.voted from ≡ f → f ≡ true
      flagged m some met true e = refl
      flagged m some met false e =
          let parts = and_parts _ _ met in
          let test : (eqb h.ballot b && (is_voter voters from && not (is_flagged h.voted from))) ≡ true =
          and_from _ _ (ap (λ (n : ℕ). eqb n b) so.is.ballot ∙ parts.0) (and_from _ _ parts.1 (ap not e)) in
          let undecided : h.decree ≡ None = sym (cond-true (eqb h.ballot b && (is_voter voters from && not (is_flagged h.voted from))) h.decree None test) ∙ idle in
          let none : begun voters s ≡ None = none_begun voters small candidate s h so Y undecided in
          absurd (cc (some, none))

      same : (m : Moment) → begun voters s ≡ Some m → (may ≡ true) ⊎ (may ≡ false) → (y : ℕ) → is_voter (voted voters s.ballot (Y ∷ m.later)) y ≡ is_voter (voted voters s.ballot m.later) y
      same m some (inr unmet) y = ap (λ (xs : List ℕ). is_voter xs y) (voted_no unmet m.later)
      same m some (inl met) y = ap (λ (xs : List ℕ). is_voter xs y) (voted_yes met m.later)
          ∙ there_again from (is_voter (voted voters s.ballot m.later)) (sym (voted_was voters small candidate s h so Y m some from) ∙ flagged m some met (is_flagged h.voted from) refl) y

  -- it counts
  pub voted_counted : (d : List ℕ) → voted_for voters (Some h) from b ≡ Some d → IsHandSo voters candidate (with_reply Y s) (with_voted h from)
  voted_counted d counts = by (cases_Bool test)
    where
      test : Bool
      test = eqb h.ballot b && (is_voter voters from && not (is_flagged h.voted from))

      by : (test ≡ true) ⊎ (test ≡ false) → IsHandSo voters candidate (with_reply Y s) (with_voted h from)
      by (inr unmet) = let none : None ≡ Some d = sym (cond-false test h.decree None unmet) ∙ counts in absurd (cc none)
      by (inl met) =
          let one = and_parts _ _ met in
          let two = and_parts _ _ one.1 in
          let decided : h.decree ≡ Some d = sym (cond-true test h.decree None met) ∙ counts in
          let may_be : may ≡ true = and_from _ _ (ap (λ (n : ℕ). eqb n b) (sym so.is.ballot) ∙ one.0) two.0 in
          let never : begun voters s ≡ None → (y : ℕ) → is_flagged (with_voted h from).voted y ≡ false =
          λ none y. (let undecided : h.decree ≡ None = decree_none voters small candidate s h so Y none in absurd (cc (decided, undecided))) in
          stays voters small candidate s h so Y (with_voted h from) refl refl refl refl (length-set h.voted from true ∙ so.is.voted_flags) (λ none y. refl) (λ none. refl) never
          (λ m some y. flag_set h.voted from (is_voter (voted voters s.ballot m.later)) so.is.voted_flags (small from two.0) (voted_was voters small candidate s h so Y m some) y
          ∙ sym (ap (λ (xs : List ℕ). is_voter xs y) (voted_yes may_be m.later)))
