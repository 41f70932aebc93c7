-- What a world keeps, issues and publishes is what a journal asks for.
use Rattle.std.proofs.Common.{◌≡◌, ◌≢◌, inl, inr, ℕ, zero, suc, ◌+◌, ◌<◌, ◌≤◌, ◌-◌, ◌^◌, List, [], ◌∷◌, ◌++◌, map, length, get_or, refl, sym, ap, ◌∙◌, subst, arith, Option, Some, None}
use Rattle.std.specs.Prelude.{IfSome}
use Rattle.std.specs.List.{AllByRecursion}
use Rattle.std.proofs.lemmas.List.{append_assoc}
use Rattle.ksi_imprint.specs.Imprints.{IsImprint, zero_imprint}
use Rattle.ksi_tlv.specs.Spelling.{AreBytes}
use Rattle.ksi_aggtree.specs.declared.item.Item.{Item}
use Rattle.ksi_aggtree.specs.declared.second.Second.{Second}
use Rattle.ksi_aggtree.specs.Rounds.{item_at, leaf_level, tree_of}
use Rattle.ksi_aggtree.specs.Names.{IsName}
use Rattle.ksi_synod.specs.declared.core_plan.VotersFrom.{VotersFrom}
use Rattle.ksi_synod.specs.CorePlans as CorePlans
use Rattle.ksi_synod.specs.CorePlans.{IsPair, IsCorePlan}
use Rattle.ksi_schedule.specs.declared.event.Event.{Event}
use Rattle.ksi_schedule.specs.Plans.{PlanState, core_plan_of}
use Rattle.ksi_schedule.specs.Events.{IsEvent, AreEvents}
use Rattle.ksi_world.specs.Histories.{WorldState}
use Rattle.ksi_world.specs.Records.{kept_seconds, issued_all, issued_among, issued_before, issued_of}
use Rattle.ksi_world.specs.Validity.{AreRising, AreTimes, EachKept, IsKept, HasImprints}
use Rattle.ksi_journal.specs.Journal.{IsIssued, IsVoters, IsItem, IsJournal, IsPublication, IsRootOf, IsSecond, RiseFrom}
use Rattle.ksi_replay.specs.Journals.{journal_in}

-- ALL OF A LIST

pub all_more : {A : Type 0} (P : A → Type 0) (xs : List A) (x : A) → AllByRecursion P xs → P x → AllByRecursion P (xs ++ x ∷ [])
all_more P [] x all more = (more, tt)
all_more P (y ∷ xs) x all more = (all.0, all_more P xs x all.1 more)

pub each_kept : (P : Second → Type 0) (kept : List Second) → AllByRecursion P kept → EachKept P kept
each_kept P [] all = tt
each_kept P (one ∷ kept) all = (all.0, each_kept P kept all.1)

-- WHAT RISES

pub rise_earlier : (least most : ℕ) (ns : List ℕ) → least ≤ most → RiseFrom most ns → RiseFrom least ns
rise_earlier least most [] le rise = tt
rise_earlier least most (n ∷ ns) le rise = (omega (arith, le, rise.0), rise.1)

pub seconds_rise : (from : ℕ) (kept : List Second) → AreRising from kept → RiseFrom from (map (λ one. one.second) kept)
seconds_rise from [] rising = tt
seconds_rise from (one ∷ kept) rising = (rising.0, rise_earlier (one.second + 1) (suc one.second) _ (omega arith) (seconds_rise (suc one.second) kept rising.1))

times_from : (from before : ℕ) (xs : List (ℕ × List ℕ)) → AreTimes from before xs → RiseFrom from (map (λ x. x.0) xs)
times_from from before [] times = tt
times_from from before (x ∷ xs) times = (times.0, rise_earlier (x.0 + 1) (suc x.0) _ (omega arith) (times_from (suc x.0) before xs times.2))

pub times_rise : (from before : ℕ) (xs : List (ℕ × List ℕ)) → AreTimes from before xs → RiseFrom 0 (map (λ x. x.0) xs)
times_rise from before xs times = rise_earlier 0 from (map (λ x. x.0) xs) (omega arith) (times_from from before xs times)

-- WHO VOTES

rise_from : (least : ℕ) (ns : List ℕ) → AllByRecursion (λ n. least ≤ n) ns → CorePlans.AreRising ns → RiseFrom least ns
rise_from least [] all rising = tt
rise_from least (n ∷ ns) all rising = (all.0, rise_from (n + 1) ns (above n ns rising.0) rising.1)
  where
    above : (n : ℕ) (ns : List ℕ) → AllByRecursion (λ m. n < m) ns → AllByRecursion (λ m. n + 1 ≤ m) ns
    above n [] all = tt
    above n (m ∷ ns) all = (omega (arith, all.0), above n ns all.1)

pub voters_rise : (cores start : ℕ) (pairs : List VotersFrom) → AllByRecursion (IsPair cores start) pairs → CorePlans.AreRising (map (λ pair. pair.second) pairs) → RiseFrom start (map (λ pair. pair.second) pairs)
voters_rise cores start pairs are rising = rise_from start (map (λ pair. pair.second) pairs) (early pairs are) rising
  where
    early : (pairs : List VotersFrom) → AllByRecursion (IsPair cores start) pairs → AllByRecursion (λ n. start ≤ n) (map (λ pair. pair.second) pairs)
    early [] are = tt
    early (pair ∷ pairs) are = (are.0.early, early pairs are.1)

pub voters_are : (cores start : ℕ) (pairs : List VotersFrom) → cores ≤ 9 → start ≤ 2 ^ 63 - 2 ^ 24 → AllByRecursion (IsPair cores start) pairs → AllByRecursion IsVoters pairs
voters_are cores start [] few early are = tt
voters_are cores start (pair ∷ pairs) few early are =
    let late = are.0.late in (
      record {
        early = omega (arith, late, early);
        cores = record { some = are.0.voters.some; rising = are.0.voters.rising; there = there pair.voters are.0.voters.there };
      },
      voters_are cores start pairs few early are.1,
    )
  where
    there : (voters : List ℕ) → AllByRecursion (λ core. core < cores) voters → AllByRecursion (λ core. core < 9) voters
    there [] all = tt
    there (core ∷ voters) all = (omega (arith, all.0, few), there voters all.1)

-- WHAT IS ISSUED

module _ (image : List ℕ → List ℕ) (w : WorldState) where
  numbers_before : (n : ℕ) (o : Option (List ℕ)) (later : List (ℕ × List ℕ)) → RiseFrom (suc n) (map (λ x. x.0) later) → RiseFrom n (map (λ x. x.0) (issued_before n o later))
  numbers_before n None later rise = rise_earlier n (suc n) _ (omega arith) rise
  numbers_before n (Some text) later rise = (omega arith, rise_earlier (n + 1) (suc n) _ (omega arith) rise)

  numbers_from : (n m : ℕ) → RiseFrom n (map (λ x. x.0) (issued_among image w n m))
  numbers_from n zero = tt
  numbers_from n (suc m) = numbers_before n (issued_of image w n) (issued_among image w (suc n) m) (numbers_from (suc n) m)

  pub numbers_rise : RiseFrom 0 (map (λ x. x.0) (issued_all image w))
  unfolding issued_all
  numbers_rise = numbers_from 0 (length w.requests)

  pub listing_begins : (n : ℕ) → n ≡ length w.requests → issued_among image w 0 n ≡ issued_all image w
  unfolding issued_all
  listing_begins n is = ap (issued_among image w 0) is

  before_is : (n : ℕ) (o : Option (List ℕ)) (later : List (ℕ × List ℕ)) → issued_before n o [] ++ later ≡ issued_before n o later
  before_is n None later = refl
  before_is n (Some text) later = refl

  pub listing_more : (xs all : List (ℕ × List ℕ)) (n end : ℕ) (o : Option (List ℕ)) → n < end → o ≡ issued_of image w n →
      xs ++ issued_among image w n (end - n) ≡ all → (xs ++ issued_before n o []) ++ issued_among image w (n + 1) (end - (n + 1)) ≡ all
  listing_more xs all n end o lt is before =
      let one : suc n ≡ n + 1 = omega arith in
      let count : end - n ≡ suc (end - (n + 1)) = omega (arith, lt) in
      let step : issued_among image w n (end - n) ≡ issued_before n o (issued_among image w (n + 1) (end - (n + 1))) =
      ap (issued_among image w n) count
      ∙ ap (λ found. issued_before n found (issued_among image w (suc n) (end - (n + 1)))) (sym is)
      ∙ ap (λ k. issued_before n o (issued_among image w k (end - (n + 1)))) one in
      append_assoc xs (issued_before n o []) (issued_among image w (n + 1) (end - (n + 1)))
      ∙ ap (λ ys. xs ++ ys) (before_is n o (issued_among image w (n + 1) (end - (n + 1))) ∙ sym step)
      ∙ before

pub lawful_more : (xs : List (ℕ × List ℕ)) (n : ℕ) (text : List ℕ) → AllByRecursion IsIssued xs → n < 2 ^ 64 → length text ≤ 10000 → AreBytes text → AllByRecursion IsIssued (xs ++ (n, text) ∷ [])
lawful_more xs n text all early short bytes = all_more IsIssued xs (n, text) all (record { number = early; short = omega (arith, short); bytes = bytes })

-- WHAT IS PUBLISHED

pub are_publications : (from : ℕ) (xs : List (ℕ × List ℕ)) → AreTimes from (2 ^ 63) xs → AllByRecursion (λ x. IsImprint x.1) xs → AllByRecursion IsPublication xs
are_publications from [] times imprints = tt
are_publications from (x ∷ xs) times imprints = (record { early = times.1; imprint = imprints.0 }, are_publications (suc x.0) xs times.2 imprints.1)

-- A KEPT SECOND

pub are_items : (items : List Item) → ((k : ℕ) → leaf_level (item_at items k) ≤ 239) → AllByRecursion (λ item. IsImprint item.imprint × IfSome item.name IsName) items → AllByRecursion IsItem items
are_items [] low imprints = tt
are_items (item ∷ items) low imprints = (record { imprint = imprints.0.0; low = low 0; name = imprints.0.1 }, are_items items (λ k. low (suc k)) imprints.1)

rooted : (image : List ℕ → List ℕ) (root : List ℕ) (items : List Item) → root ≢ zero_imprint → 1 ≤ length items → (tree_of image items).imprint ≡ root → IsRootOf image items root
rooted image root [] real some tree = absurd (omega (arith, some))
rooted image root (item ∷ items) real some tree = (real, tree)

pub is_second : (image : List ℕ → List ℕ) (kept : Second) → kept.second < 2 ^ 63 → IsKept image kept → IsImprint kept.root →
    AllByRecursion (λ item. IsImprint item.imprint × IfSome item.name IsName) kept.items → IsSecond image kept
is_second image kept early (inl missed) root imprints = record {
  early = early;
  imprint = root;
  few = subst (λ items. length items ≤ 65536) (sym missed.none) (omega arith);
  items = subst (λ items. AllByRecursion IsItem items) (sym missed.none) tt;
  tree = subst (λ items. IsRootOf image items kept.root) (sym missed.none) missed.zero;
}
is_second image kept early (inr tree) root imprints = record {
  early = early;
  imprint = root;
  few = tree.round.few;
  items = are_items kept.items tree.round.low imprints;
  tree = rooted image kept.root kept.items tree.real tree.some tree.tree;
}

-- THE JOURNAL OF A HISTORY

pub seconds_are : (image : List ℕ → List ℕ) (kept : List Second) → EachKept (λ one. one.second < 2 ^ 63) kept → EachKept (IsKept image) kept → EachKept HasImprints kept
    → AllByRecursion (IsSecond image) kept
seconds_are image [] early trees imprints = tt
seconds_are image (one ∷ kept) early trees imprints = (is_second image one early.0 trees.0 imprints.0.0 imprints.0.1, seconds_are image kept early.1 trees.1 imprints.1)

pub roots_are_bytes : (kept : List Second) → EachKept (λ one. AreBytes one.root) kept → AllByRecursion (λ (one : Second). AreBytes one.root) kept
roots_are_bytes [] are = tt
roots_are_bytes (one ∷ kept) are = (are.0, roots_are_bytes kept are.1)

-- the laws of a history's issued signatures
pub record IssuedLaws (image : List ℕ → List ℕ) (w : WorldState) : Type 0 where
  pub few : length w.requests < 2 ^ 64
  pub short : (number : ℕ) (text : List ℕ) → issued_of image w number ≡ Some text → length text ≤ 10000
  pub bytes : (number : ℕ) (text : List ℕ) → issued_of image w number ≡ Some text → AreBytes text

module _ (image : List ℕ → List ℕ) (w : WorldState) (laws : IssuedLaws image w) where
  issued_before_are : (n : ℕ) (o : Option (List ℕ)) (later : List (ℕ × List ℕ)) → n < length w.requests → issued_of image w n ≡ o → AllByRecursion IsIssued later → AllByRecursion IsIssued (issued_before n o later)
  issued_before_are n None later lt is are = are
  issued_before_are n (Some text) later lt is are =
      let few = laws.few in
      (record { number = omega (arith, lt, few); short = omega (arith, laws.short n text is); bytes = laws.bytes n text is }, are)

  issued_from_are : (n m : ℕ) → n + m ≤ length w.requests → AllByRecursion IsIssued (issued_among image w n m)
  issued_from_are n zero le = tt
  issued_from_are n (suc m) le = issued_before_are n (issued_of image w n) (issued_among image w (suc n) m) (omega (arith, le)) refl (issued_from_are (suc n) m (omega (arith, le)))

  issued_are : AllByRecursion IsIssued (issued_all image w)
  unfolding issued_all
  issued_are = issued_from_are 0 (length w.requests) (omega arith)

  pub journal_is : (plan : PlanState) → IsCorePlan (core_plan_of plan) → AreRising plan.start (kept_seconds image plan w) → EachKept (λ one. one.second < 2 ^ 63) (kept_seconds image plan w)
      → EachKept (IsKept image) (kept_seconds image plan w) → EachKept HasImprints (kept_seconds image plan w)
      → AreTimes plan.start (2 ^ 63) w.published → AllByRecursion (λ x. IsImprint x.1) w.published → IsJournal image (journal_in image plan w)
  journal_is plan is rising early trees imprints times roots = record {
    start = (let before = is.early in omega (arith, before));
    voters = voters_are plan.cores plan.start plan.voters is.few is.early is.pairs;
    voters_rise = voters_rise plan.cores plan.start plan.voters is.pairs is.rising;
    seconds = seconds_are image (kept_seconds image plan w) early trees imprints;
    seconds_rise = seconds_rise plan.start (kept_seconds image plan w) rising;
    issued = issued_are;
    numbers_rise = numbers_rise image w;
    publications = are_publications plan.start w.published times roots;
    times_rise = times_rise plan.start (2 ^ 63) w.published times;
  }
