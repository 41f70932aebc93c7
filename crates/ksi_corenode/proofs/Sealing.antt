-- What is seen as the open items of a second come behind the sealed ones.
use Rattle.std.proofs.Common.{◌≡◌, ◌∙◌, ℕ, ◌+◌, ◌≤◌, ◌++◌, List, [], length, take, drop, Option, Some, None, Bool, true, false, refl, sym, ap, subst, arith}
use Rattle.std.specs.Prelude.{◌==◌, if◌then◌else◌, option_map, is_some, IsNone, IfSome}
use Rattle.std.proofs.lemmas.Bool.{cond-true, cond-false, eq-eqb}
use Rattle.std.proofs.lemmas.List.{drop-append-le, take-append-le, take_all, length-drop, length-append}
use Rattle.ksi_aggtree.specs.Rounds.{IsRound}
use Rattle.std.proofs.Math.Seq.{drop-append_seam}
use Rattle.ksi_aggtree.specs.declared.entries.Entry.{Entry}
use Rattle.ksi_aggtree.specs.Entries.{items_of, candidate_of}
use Rattle.ksi_synod.specs.VoteState.{VoteState, stable_of, vote_of}
use Rattle.ksi_synod.specs.Rows.{seal, seal_of, sealed_with}
use Rattle.ksi_corenode.specs.declared.stable.StablePart.{StablePart}
use Rattle.ksi_synod.specs.CorePlans.{voters_of}
use Rattle.ksi_corenode.specs.SecondState.{SecondState}
use Rattle.ksi_corenode.specs.Rows.{sealed_now}
use Rattle.ksi_corenode.specs.Stored.{VolatileState, volatile_at, items_from, second_of, AreSealed, IsSealedWell}
use Rattle.ksi_corenode.specs.CoreState.{CoreState, stable_at, state_of, IsChange}
use Rattle.ksi_corenode.specs.Restored.{sealed_second}
use Rattle.ksi_corenode.proofs.Changes.{parts_change, none_sealed, no_some}

-- items stay where they are as more come behind them
pub from_within : (items more : List Entry) (first count : ℕ) → first + count ≤ length items → items_from (items ++ more) first count ≡ items_from items first count
from_within items more first count within =
    ap (take count) (drop-append-le first items more (omega (arith, within)))
    ∙ take-append-le count (drop first items) more (omega (arith, within, length-drop first items))

pub from_end : (items more : List Entry) → items_from (items ++ more) (length items) (length more) ≡ more
from_end items more = ap (take (length more)) (drop-append_seam items more) ∙ take_all (length more) more (omega arith)

-- a second that is sealed well is seen as before
pub second_grown : (image : List ℕ → List ℕ) (me : ℕ) (voters : List ℕ) (items more : List Entry) (s : StablePart) (v : VolatileState) → IsSealedWell image items s →
    second_of me voters (items ++ more) s v ≡ second_of me voters items s v
unfolding second_of
second_grown image me voters items more s v well = by s.vote.candidate well
  where
    with_sealed : Option (List Entry) → SecondState
    with_sealed sealed = record { vote = vote_of me voters s.vote v.hand; open_items = v.open_items; sealed = sealed }

    by : (o : Option (List ℕ)) → IfSome o (AreSealed image items s.first s.count) →
        with_sealed (option_map (λ (candidate : List ℕ). items_from (items ++ more) s.first s.count) o) ≡ with_sealed (option_map (λ (candidate : List ℕ). items_from items s.first s.count) o)
    by None w = refl
    by (Some candidate) w = ap (λ (es : List Entry). with_sealed (Some es)) (from_within items more s.first s.count w.within)

-- and stays sealed well
pub well_grown : (image : List ℕ → List ℕ) (items more : List Entry) (s : StablePart) → IsSealedWell image items s → IsSealedWell image (items ++ more) s
well_grown image items more s well = by s.vote.candidate well
  where
    by : (o : Option (List ℕ)) → IfSome o (AreSealed image items s.first s.count) → IfSome o (AreSealed image (items ++ more) s.first s.count)
    by None w = tt
    by (Some candidate) w = record {
      within = omega (arith, w.within, length-append items more);
      imprint = w.imprint ∙ ap (candidate_of image) (sym (from_within items more s.first s.count w.within));
      round = subst (λ (es : List Entry). IsRound (items_of es)) (sym (from_within items more s.first s.count w.within)) w.round;
    }

-- the stable part that has them
abbrev pub sealed_part : StablePart → (candidate : List ℕ) → (items more : List Entry) → StablePart
sealed_part s candidate items more = record { vote = record s.vote { candidate = Some candidate }; first = length items; count = length more }

-- the stable part of the vote with a candidate
pub sealed_stable : (core : CoreState) (t : ℕ) (vote : VoteState) (candidate : List ℕ) → vote ≡ (state_of core t).vote →
    stable_of (sealed_with vote candidate) ≡ record (stable_at core t).vote { candidate = Some candidate }
unfolding state_of second_of
sealed_stable core t vote candidate is = ap (λ (v : VoteState). stable_of (sealed_with v candidate)) is

pub well_sealed : (image : List ℕ → List ℕ) (items more : List Entry) (s : StablePart) (candidate : List ℕ) → candidate ≡ candidate_of image more → IsRound (items_of more) →
    IsSealedWell image (items ++ more) (sealed_part s candidate items more)
well_sealed image items more s candidate is round = record {
  within = omega (arith, length-append items more);
  imprint = is ∙ ap (candidate_of image) (sym (from_end items more));
  round = subst (λ (es : List Entry). IsRound (items_of es)) (sym (from_end items more)) round;
}

-- the second, once it has them
sealed_there : (image : List ℕ → List ℕ) (core : CoreState) (t : ℕ) (more : List Entry) (candidate : List ℕ) → candidate ≡ candidate_of image more →
    second_of core.me (voters_of core.plan t) (core.items ++ more) (sealed_part (stable_at core t) candidate core.items more) (volatile_at core.volatile_parts t)
    ≡ sealed_second image more (state_of core t)
unfolding state_of second_of
sealed_there image core t more candidate is = ap (λ (es : List Entry). of candidate es) (from_end core.items more) ∙ ap (λ (c : List ℕ). of c more) is
  where
    of : (candidate : List ℕ) → List Entry → SecondState
    of c es = record {
      vote = vote_of core.me (voters_of core.plan t) (record (stable_at core t).vote { candidate = Some c }) (volatile_at core.volatile_parts t).hand;
      open_items = (volatile_at core.volatile_parts t).open_items;
      sealed = Some es;
    }

pub seal_change : (image : List ℕ → List ℕ) (old new : CoreState) (t : ℕ) (part : StablePart) (more : List Entry) (candidate : List ℕ) → ((u : ℕ) → IsSealedWell image old.items (stable_at old u)) →
    new.me ≡ old.me → new.plan ≡ old.plan → new.start ≡ old.start → new.items ≡ old.items ++ more →
    ((u : ℕ) → stable_at new u ≡ (if u == t then part else stable_at old u)) →
    ((u : ℕ) → volatile_at new.volatile_parts u ≡ (if u == t then volatile_at old.volatile_parts t else volatile_at old.volatile_parts u)) →
    part ≡ sealed_part (stable_at old t) candidate old.items more →
    candidate ≡ candidate_of image more →
    IsChange old new t (sealed_second image more (state_of old t))
unfolding state_of
seal_change image old new t part more candidate well me plan start items stable_parts volatile_parts part_is is = record {
  me = me;
  plan = plan;
  start = start;
  seconds = λ u. parts_change grown new t part (volatile_at old.volatile_parts t) me plan items stable_parts volatile_parts u
      ∙ ap (λ (s : SecondState). if u == t then s else state_of grown u)
      (ap (λ (x : StablePart). second_of old.me (voters_of old.plan t) (old.items ++ more) x (volatile_at old.volatile_parts t)) part_is ∙ sealed_there image old t more candidate is)
      ∙ ap (λ (s : SecondState). if u == t then sealed_second image more (state_of old t) else s)
      (second_grown image old.me (voters_of old.plan u) old.items more (stable_at old u) (volatile_at old.volatile_parts u) (well u));
}
  where
    grown : CoreState
    grown = record old { items = old.items ++ more }

-- THE OPEN ITEMS

-- sealed, and open no more
sealed_is : (image : List ℕ → List ℕ) (s : SecondState) → IsNone s.vote.candidate → record (sealed_second image s.open_items s) { open_items = [] } ≡ (sealed_now image s).after
unfolding seal
sealed_is image s none = by s.vote.candidate none
  where
    with_vote : VoteState → SecondState
    with_vote vote = record { vote = vote; open_items = []; sealed = Some s.open_items }

    by : (o : Option (List ℕ)) → IsNone o → with_vote (sealed_with s.vote (candidate_of image s.open_items)) ≡ with_vote (seal_of o s.vote (candidate_of image s.open_items))
    by None is = refl
    by (Some c) is = absurd (cc is)

pub sealed_open : (image : List ℕ → List ℕ) (a b c : CoreState) (t : ℕ) (items : List Entry) → is_some (state_of a t).sealed ≡ false → items ≡ (state_of a t).open_items →
    IsChange a b t (sealed_second image items (state_of a t)) → IsChange b c t (record (state_of b t) { open_items = [] }) → IsChange a c t (sealed_now image (state_of a t)).after
sealed_open image a b c t items unsealed are first emptied = record {
  me = emptied.me ∙ first.me;
  plan = emptied.plan ∙ first.plan;
  start = emptied.start ∙ first.start;
  seconds = λ u. emptied.seconds u ∙ by u (u == t) refl;
}
  where
    here : state_of b t ≡ sealed_second image items (state_of a t)
    here = first.seconds t ∙ cond-true (t == t) (sealed_second image items (state_of a t)) (state_of a t) (eq-eqb t t refl)

    after : record (state_of b t) { open_items = [] } ≡ (sealed_now image (state_of a t)).after
    after = ap (λ (s : SecondState). record s { open_items = [] }) here
        ∙ ap (λ (es : List Entry). record (sealed_second image es (state_of a t)) { open_items = [] }) are
        ∙ sealed_is image (state_of a t) ((none_sealed a t).1 (no_some (state_of a t).sealed unsealed))

    by : (u : ℕ) (same : Bool) → (u == t) ≡ same → (if same then record (state_of b t) { open_items = [] } else state_of b u) ≡ (if same then (sealed_now image (state_of a t)).after else state_of a u)
    by u true is = after
    by u false is = first.seconds u ∙ cond-false (u == t) (sealed_second image items (state_of a t)) (state_of a u) is
