-- What a history never loses: what a core holds, and its candidate. Only cores of the set-up have one.
use Rattle.std.proofs.Common.{◌≡◌, ℕ, ◌<◌, List, [], ◌∷◌, ◌++◌, eqb, refl, sym, subst, ◌∙◌, inl, inr, Option, Some, None}
use Rattle.std.specs.Prelude.{slice_get, IsTrue}
use Rattle.std.specs.List.{list_all}
use Rattle.std.proofs.lemmas.Bool.{and_parts, ltb-true, cases_eq, cond-true, cond-false, eq-eqb, ne_eqb}
use Rattle.ksi_synod.specs.declared.messages.SynodMessage.{SynodMessage}
use Rattle.ksi_synod.specs.VoteState.{VoteState, fresh_vote}
use Rattle.ksi_synod.specs.Rows.{receive, try_ballot, restarted, seal, ballot_told, held_told}
use Rattle.ksi_synod.specs.History.{SetUp, Event, Seal, Ballot, Tell, Deliver, Restart, Message, Moment, put, stepped, delivered, happens, first_moment, run, after, is_event, IsHistory, held_by, candidate_of}
use Rattle.ksi_synod.proofs.Staying.{Stays, receive_stays, try_stays, seal_holds}

record Lasts (old new : VoteState) : Type 0 where
  held : (d : List ℕ) → old.held ≡ Some d → new.held ≡ Some d
  candidate : (d : List ℕ) → old.candidate ≡ Some d → new.candidate ≡ Some d

lasts_same : (s : VoteState) → Lasts s s
lasts_same s = record { held = λ d is. is; candidate = λ d is. is }

lasts_by : (old new : VoteState) → Stays old new → Lasts old new
lasts_by old new stays = record { held = stays.held; candidate = λ d is. stays.candidate ∙ is }

-- a fact of each core's state, before and after a step of one core
put_all : (P : ℕ → VoteState → VoteState → Type 0) (states : ℕ → VoteState) (core : ℕ) (new : VoteState) →
    P core (states core) new → ((k : ℕ) → P k (states k) (states k)) → (k : ℕ) → P k (states k) (put states core new k)
put_all P states core new here others k = elim (cases_eq k core) [
  | inl is ↦ subst (λ i. P i (states i) (put states core new i)) (sym is) (subst (P core (states core)) (sym (cond-true (eqb core core) new (states core) (eq-eqb core core refl))) here)
  | inr other ↦ subst (P k (states k)) (sym (cond-false (eqb k core) new (states k) (ne_eqb k core other))) (others k)
]

-- NOTHING IS LOST

step_lasts : (set_up : SetUp) (m : Moment) (core answered : ℕ) (r : VoteState × Option SynodMessage) → Lasts (m.states core) r.0 → (k : ℕ) → Lasts (m.states k) ((stepped set_up m core answered r).states k)
step_lasts set_up m core answered r lasts = put_all (λ k old new. Lasts old new) m.states core r.0 lasts (λ k. lasts_same (m.states k))

deliver_lasts : (set_up : SetUp) (m : Moment) (o : Option Message) (k : ℕ) → Lasts (m.states k) ((delivered set_up m o).states k)
deliver_lasts set_up m None k = lasts_same (m.states k)
deliver_lasts set_up m (Some x) k = step_lasts set_up m x.addressee x.sender (receive (m.states x.addressee) x.sender x.what) (lasts_by (m.states x.addressee) (receive (m.states x.addressee) x.sender x.what).0 (receive_stays (m.states x.addressee) x.sender x.what)) k

happens_lasts : (set_up : SetUp) (m : Moment) (e : Event) (k : ℕ) → Lasts (m.states k) ((happens set_up m e).states k)
unfolding happens
happens_lasts set_up m (Seal core c) k = step_lasts set_up m core core (seal (m.states core) c, None)
    (record { held = λ d is. (seal_holds (m.states core) c).0 ∙ is; candidate = (seal_holds (m.states core) c).1 }) k
happens_lasts set_up m (Ballot core) k = step_lasts set_up m core core ((try_ballot (m.states core)).0, ballot_told (try_ballot (m.states core)).1) (lasts_by (m.states core) (try_ballot (m.states core)).0 (try_stays (m.states core))) k
happens_lasts set_up m (Tell core) k = step_lasts set_up m core core (m.states core, held_told (m.states core).held) (lasts_same (m.states core)) k
happens_lasts set_up m (Deliver number) k = deliver_lasts set_up m (slice_get m.wire number) k
happens_lasts set_up m (Restart core) k = step_lasts set_up m core core (restarted (m.states core), None) (record { held = λ d is. is; candidate = λ d is. is }) k

run_lasts : (set_up : SetUp) (events : List Event) (m : Moment) (k : ℕ) → Lasts (m.states k) ((run set_up m events).states k)
run_lasts set_up [] m k = lasts_same (m.states k)
run_lasts set_up (e ∷ es) m k =
    let now = happens_lasts set_up m e k in
    let later = run_lasts set_up es (happens set_up m e) k in
    record { held = λ d is. later.held d (now.held d is); candidate = λ d is. later.candidate d (now.candidate d is) }

run-append : (set_up : SetUp) (events later : List Event) (m : Moment) → run set_up m (events ++ later) ≡ run set_up (run set_up m events) later
run-append set_up [] later m = refl
run-append set_up (e ∷ es) later m = run-append set_up es later (happens set_up m e)

pub held_lasts : (set_up : SetUp) (events later : List Event) (core : ℕ) (d : List ℕ) → held_by (after set_up events) core ≡ Some d → held_by (after set_up (events ++ later)) core ≡ Some d
held_lasts set_up events later core d holds =
    subst (λ m. held_by m core ≡ Some d) (sym (run-append set_up events later (first_moment set_up))) ((run_lasts set_up later (after set_up events) core).held d holds)

pub candidate_lasts : (set_up : SetUp) (events later : List Event) (core : ℕ) (d : List ℕ) → candidate_of (after set_up events) core ≡ Some d → candidate_of (after set_up (events ++ later)) core ≡ Some d
candidate_lasts set_up events later core d sealed =
    subst (λ m. candidate_of m core ≡ Some d) (sym (run-append set_up events later (first_moment set_up))) ((run_lasts set_up later (after set_up events) core).candidate d sealed)

-- WHO SEALED

abbrev Within : ℕ → ℕ → VoteState → Type 0
Within cores k s = (d : List ℕ) → s.candidate ≡ Some d → k < cores

abbrev AreWithin : ℕ → Moment → Type 0
AreWithin cores m = (k : ℕ) → Within cores k (m.states k)

step_within : (set_up : SetUp) (m : Moment) (core answered : ℕ) (r : VoteState × Option SynodMessage) → Within set_up.cores core r.0 → AreWithin set_up.cores m → AreWithin set_up.cores (stepped set_up m core answered r)
step_within set_up m core answered r within are = put_all (λ k old new. Within set_up.cores k new) m.states core r.0 within are

within_same : (cores k : ℕ) (old new : VoteState) → new.candidate ≡ old.candidate → Within cores k old → Within cores k new
within_same cores k old new stays within d is = within d (sym stays ∙ is)

deliver_within : (set_up : SetUp) (m : Moment) (o : Option Message) → AreWithin set_up.cores m → AreWithin set_up.cores (delivered set_up m o)
deliver_within set_up m None are = are
deliver_within set_up m (Some x) are = step_within set_up m x.addressee x.sender (receive (m.states x.addressee) x.sender x.what)
    (within_same set_up.cores x.addressee (m.states x.addressee) (receive (m.states x.addressee) x.sender x.what).0 (receive_stays (m.states x.addressee) x.sender x.what).candidate (are x.addressee)) are

happens_within : (set_up : SetUp) (m : Moment) (e : Event) → IsTrue (is_event set_up.cores e) → AreWithin set_up.cores m → AreWithin set_up.cores (happens set_up m e)
unfolding happens
happens_within set_up m (Seal core c) is are = step_within set_up m core core (seal (m.states core) c, None) (λ d sealed. ltb-true core set_up.cores is) are
happens_within set_up m (Ballot core) is are = step_within set_up m core core ((try_ballot (m.states core)).0, ballot_told (try_ballot (m.states core)).1) (λ d sealed. ltb-true core set_up.cores is) are
happens_within set_up m (Tell core) is are = step_within set_up m core core (m.states core, held_told (m.states core).held) (λ d sealed. ltb-true core set_up.cores is) are
happens_within set_up m (Deliver number) is are = deliver_within set_up m (slice_get m.wire number) are
happens_within set_up m (Restart core) is are = step_within set_up m core core (restarted (m.states core), None) (λ d sealed. ltb-true core set_up.cores is) are

run_within : (set_up : SetUp) (events : List Event) (m : Moment) → IsTrue (list_all (is_event set_up.cores) events) → AreWithin set_up.cores m → AreWithin set_up.cores (run set_up m events)
run_within set_up [] m theirs are = are
run_within set_up (e ∷ es) m theirs are = run_within set_up es (happens set_up m e) (and_parts _ _ theirs).1 (happens_within set_up m e (and_parts _ _ theirs).0 are)

first_within : (set_up : SetUp) → AreWithin set_up.cores (first_moment set_up)
unfolding first_moment fresh_vote
first_within set_up k d sealed = absurd (cc sealed)

pub after_within : (set_up : SetUp) (events : List Event) → IsHistory set_up events → (core : ℕ) (d : List ℕ) → candidate_of (after set_up events) core ≡ Some d → core < set_up.cores
after_within set_up events is = run_within set_up events (first_moment set_up) is.theirs (first_within set_up)
