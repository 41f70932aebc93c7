-- What holds of the vote on one second after any history.
use Rattle.std.proofs.Common.{◌≡◌, ℕ, zero, suc, ◌<◌, ◌≤◌, List, [], ◌∷◌, ◌++◌, eqb, refl, sym, ap, subst, arith, ◌⊎◌, inl, inr, Option, Some, None}
use Rattle.std.specs.Prelude.{slice_get, IsTrue}
use Rattle.std.specs.List.{list_all}
use Rattle.std.proofs.lemmas.Bool.{and_parts, ltb-true, cond-true, cond-false, eq-eqb, ne_eqb}
use Rattle.ksi_synod.specs.declared.messages.SynodMessage.{SynodMessage}
use Rattle.ksi_synod.specs.VoteState.{VoteState}
use Rattle.ksi_synod.specs.Rows.{receive, try_ballot, restarted, seal, ballot_told, held_told}
use Rattle.ksi_synod.specs.History.{SetUp, Event, Seal, Ballot, Tell, Deliver, Restart, Message, Moment, addressees, posted, sends_of, put, stepped, delivered, happens, first_moment, run, after, is_event, IsHistory, held_by, candidate_of}
use Rattle.ksi_synod.proofs.Lasting.{after_within}
use Rattle.ksi_synod.specs.Reached.{Said, says, Has, here, there, more}
use Rattle.ksi_synod.proofs.Invariant.{Holds, same_held, held_proposed}
use Rattle.ksi_synod.proofs.Steps.{Keeps_on, keeps_receive, keeps_try, keeps_seal, keeps_tell, keeps_restart, holds_first}

-- an element of two lists end to end is in one of them
get_in_either : {A : Type 0} (xs ys : List A) (k : ℕ) (x : A) → slice_get (xs ++ ys) k ≡ Some x → (slice_get xs k ≡ Some x) ⊎ ((i : ℕ) × (slice_get ys i ≡ Some x))
get_in_either [] ys k x at = inr (k, at)
get_in_either (y ∷ xs) ys zero x at = inl at
get_in_either (y ∷ xs) ys (suc k) x at = get_in_either xs ys k x at

-- a posted message
posted_is : (sender : ℕ) (what : SynodMessage) (to : List ℕ) (k : ℕ) (x : Message) → slice_get (posted sender what to) k ≡ Some x → (x.sender ≡ sender) × (x.what ≡ what)
posted_is sender what [] k x at = absurd (cc at)
posted_is sender what (y ∷ ys) zero x at = let is : record { sender = sender; addressee = y; what = what } ≡ x = cc at in (sym (ap (λ z. z.sender) is), sym (ap (λ z. z.what) is))
posted_is sender what (y ∷ ys) (suc k) x at = posted_is sender what ys k x at

-- what is in the wire was said
abbrev pub Heard : List Message → List Said → Type 0
Heard wire said = (k : ℕ) (x : Message) → slice_get wire k ≡ Some x → Has said (says x.sender x.what)

pub record Kept (voters : List ℕ) (m : Moment) : Type 0 where
  pub said : List Said
  pub holds : Holds voters m.states said
  pub heard : Heard m.wire said

-- a message that is sent is said
heard_more : (set_up : SetUp) (core answered : ℕ) (wire : List Message) (said : List Said) (o : Option SynodMessage) → Heard wire said → Heard (wire ++ sends_of set_up core answered o) (more o core said)
heard_more set_up core answered wire said None heard k x at = elim (get_in_either wire [] k x at) [
  | inl old ↦ heard k x old
  | inr new ↦ absurd (cc new.1)
]
heard_more set_up core answered wire said (Some what) heard k x at = elim (get_in_either wire (posted core what (addressees set_up answered what)) k x at) [
  | inl old ↦ there (heard k x old)
  | inr new ↦
      let is = posted_is core what (addressees set_up answered what) new.0 x new.1 in
      subst (λ by. Has (says core what ∷ said) (says by x.what)) (sym is.0) (subst (λ m. Has (says core what ∷ said) (says core m)) (sym is.1) here)
]

-- a step by a row that keeps what always holds
step_keeps : (set_up : SetUp) (m : Moment) (core answered : ℕ) (r : VoteState × Option SynodMessage) →
    ((kept : Kept set_up.voters m) → Keeps_on set_up.voters m.states kept.said core r) → Kept set_up.voters m → Kept set_up.voters (stepped set_up m core answered r)
step_keeps set_up m core answered r row kept = record {
  said = more r.1 core kept.said;
  holds = row kept (put m.states core r.0)
      (λ k other. cond-false (eqb k core) r.0 (m.states k) (ne_eqb k core other))
      (cond-true (eqb core core) r.0 (m.states core) (eq-eqb core core refl));
  heard = heard_more set_up core answered m.wire kept.said r.1 kept.heard;
}

deliver_keeps : (set_up : SetUp) (m : Moment) (k : ℕ) (o : Option Message) → slice_get m.wire k ≡ o → Kept set_up.voters m → Kept set_up.voters (delivered set_up m o)
deliver_keeps set_up m k None at kept = kept
deliver_keeps set_up m k (Some x) at kept =
    step_keeps set_up m x.addressee x.sender (receive (m.states x.addressee) x.sender x.what)
    (λ kept. keeps_receive set_up.voters m.states kept.said x.addressee kept.holds x.sender x.what (kept.heard k x at)) kept

happens_keeps : (set_up : SetUp) (m : Moment) (e : Event) → set_up.cores ≤ 9 → IsTrue (is_event set_up.cores e) → Kept set_up.voters m → Kept set_up.voters (happens set_up m e)
unfolding happens
happens_keeps set_up m (Seal core candidate) few is kept = step_keeps set_up m core core (seal (m.states core) candidate, None) (λ kept. keeps_seal set_up.voters m.states kept.said core kept.holds candidate) kept
happens_keeps set_up m (Ballot core) few is kept = step_keeps set_up m core core ((try_ballot (m.states core)).0, ballot_told (try_ballot (m.states core)).1) (λ kept. keeps_try set_up.voters m.states kept.said core kept.holds (let below : core < set_up.cores = ltb-true core set_up.cores is in omega arith)) kept
happens_keeps set_up m (Tell core) few is kept = step_keeps set_up m core core (m.states core, held_told (m.states core).held) (λ kept. keeps_tell set_up.voters m.states kept.said core kept.holds) kept
happens_keeps set_up m (Deliver number) few is kept = deliver_keeps set_up m number (slice_get m.wire number) refl kept
happens_keeps set_up m (Restart core) few is kept = step_keeps set_up m core core (restarted (m.states core), None) (λ kept. keeps_restart set_up.voters m.states kept.said core kept.holds) kept

run_keeps : (set_up : SetUp) → set_up.cores ≤ 9 → (events : List Event) (m : Moment) → IsTrue (list_all (is_event set_up.cores) events) → Kept set_up.voters m → Kept set_up.voters (run set_up m events)
run_keeps set_up few [] m theirs kept = kept
run_keeps set_up few (e ∷ es) m theirs kept = run_keeps set_up few es (happens set_up m e) (and_parts _ _ theirs).1 (happens_keeps set_up m e few (and_parts _ _ theirs).0 kept)

first_keeps : (set_up : SetUp) → Kept set_up.voters (first_moment set_up)
unfolding first_moment
first_keeps set_up = record { said = []; holds = holds_first set_up.voters _ (λ j. refl); heard = λ k x at. absurd (cc at) }

pub after_keeps : (set_up : SetUp) (events : List Event) → IsHistory set_up events → Kept set_up.voters (after set_up events)
after_keeps set_up events is = run_keeps set_up is.few events (first_moment set_up) is.theirs (first_keeps set_up)

pub agreement_holds : (set_up : SetUp) (events : List Event) → IsHistory set_up events → (one other : ℕ) (d e : List ℕ) →
    held_by (after set_up events) one ≡ Some d → held_by (after set_up events) other ≡ Some e → d ≡ e
agreement_holds set_up events is one other d e holds_d holds_e =
    let kept = after_keeps set_up events is in
    same_held set_up.voters (after set_up events).states kept.said kept.holds one other d e holds_d holds_e

pub validity_holds : (set_up : SetUp) (events : List Event) → IsHistory set_up events → (core : ℕ) (d : List ℕ) →
    held_by (after set_up events) core ≡ Some d → (owner : ℕ) × (owner < set_up.cores) × (candidate_of (after set_up events) owner ≡ Some d)
validity_holds set_up events is core d holds =
    let kept = after_keeps set_up events is in
    let owner = held_proposed set_up.voters (after set_up events).states kept.said kept.holds core d holds in
    (owner.0, after_within set_up events is owner.0 d owner.1, owner.1)
