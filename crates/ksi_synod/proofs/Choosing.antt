-- What a majority voted for in one ballot is the only decree that is ever held.
use Rattle.std.proofs.Common.{◌≡◌, ℕ, zero, suc, ◌*◌, ◌<◌, Bool, true, List, [], ◌∷◌, ◌++◌, length, refl, sym, ap, subst, ◌∙◌, append_assoc, Option, Some, None}
use Rattle.std.specs.Prelude.{slice_get}
use Rattle.std.specs.List.{count_by}
use Rattle.std.proofs.lemmas.List.{append-nil}
use Rattle.ksi_synod.specs.declared.messages.SynodMessage.{SynodMessage}
use Rattle.ksi_synod.specs.declared.messages.SynodMessage.TheVariants as message
use Rattle.ksi_synod.specs.VoteState.{VoteState, IsVoteStateOf}
use Rattle.ksi_synod.specs.Reached.{Said, says, Has, Reached}
use Rattle.ksi_synod.specs.History.{SetUp, Event, Seal, Ballot, Tell, Deliver, Restart, Message, Moment, IsHistory, delivered, happens, first_moment, run, after, held_by}
use Rattle.ksi_synod.specs.Chosen.{IsOnWire, IsChosen}
use Rattle.ksi_synod.proofs.Invariant.{Holds, one_chosen}
use Rattle.ksi_synod.proofs.Reaching.{reached_holds}
use Rattle.ksi_synod.proofs.Histories.{after_keeps}

chosen_by : (voters : List ℕ) (states : ℕ → VoteState) (said : List Said) → Holds voters states said → (b : ℕ) (d : List ℕ) (who : ℕ → Bool) → length voters < 2 * count_by who voters →
    (by : ℕ) → Has said (says by (message.BeginBallot b d)) → ((x : ℕ) → who x ≡ true → Has said (says x (message.Voted b))) →
    (core : ℕ) (e : List ℕ) → (states core).held ≡ Some e → e ≡ d
chosen_by voters states said ok b d who most by begun voted core e holds =
    one_chosen voters states said ok e d ((ok.state core).held e holds) (record { ballot = b; who = who; begun = record { by = by; has = begun }; most = most; voted = voted })

pub reached_chosen : (voters : List ℕ) (states : ℕ → VoteState) (said : List Said) → Reached voters states said → (b : ℕ) (d : List ℕ) (who : ℕ → Bool) → length voters < 2 * count_by who voters →
    (by : ℕ) → Has said (says by (message.BeginBallot b d)) → ((x : ℕ) → who x ≡ true → Has said (says x (message.Voted b))) →
    (core : ℕ) (e : List ℕ) → (states core).held ≡ Some e → e ≡ d
reached_chosen voters states said reached = chosen_by voters states said (reached_holds voters reached)

-- WHAT WAS SENT STAYS SENT

get_before : {A : Type 0} (xs ys : List A) (k : ℕ) (x : A) → slice_get xs k ≡ Some x → slice_get (xs ++ ys) k ≡ Some x
get_before [] ys k x at = absurd (cc at)
get_before (y ∷ xs) ys zero x at = at
get_before (y ∷ xs) ys (suc k) x at = get_before xs ys k x at

abbrev Longer : (old new : List Message) → Type 0
Longer old new = (more : List Message) × (new ≡ old ++ more)

deliver_longer : (set_up : SetUp) (m : Moment) (o : Option Message) → Longer m.wire (delivered set_up m o).wire
deliver_longer set_up m None = ([], sym (append-nil m.wire))
deliver_longer set_up m (Some x) = (_, refl)

happens_longer : (set_up : SetUp) (m : Moment) (e : Event) → Longer m.wire (happens set_up m e).wire
unfolding happens
happens_longer set_up m (Seal core candidate) = (_, refl)
happens_longer set_up m (Ballot core) = (_, refl)
happens_longer set_up m (Tell core) = (_, refl)
happens_longer set_up m (Deliver number) = deliver_longer set_up m (slice_get m.wire number)
happens_longer set_up m (Restart core) = (_, refl)

run_longer : (set_up : SetUp) (es : List Event) (m : Moment) → Longer m.wire (run set_up m es).wire
run_longer set_up [] m = ([], sym (append-nil m.wire))
run_longer set_up (e ∷ es) m =
    let one = happens_longer set_up m e in
    let rest = run_longer set_up es (happens set_up m e) in
    (one.0 ++ rest.0, rest.1 ∙ ap (λ wire. wire ++ rest.0) one.1 ∙ append_assoc m.wire one.0 rest.0)

run_both : (set_up : SetUp) (events later : List Event) (m : Moment) → run set_up m (events ++ later) ≡ run set_up (run set_up m events) later
run_both set_up [] later m = refl
run_both set_up (e ∷ es) later m = run_both set_up es later (happens set_up m e)

on_wire_still : (set_up : SetUp) (m : Moment) (later : List Event) (by : ℕ) (what : SynodMessage) → IsOnWire m by what → IsOnWire (run set_up m later) by what
on_wire_still set_up m later by what on =
    let longer = run_longer set_up later m in
    record {
      number = on.number;
      message = on.message;
      at = ap (λ wire. slice_get wire on.number) longer.1 ∙ get_before m.wire longer.0 on.number on.message on.at;
      sender_is = on.sender_is;
      what_is = on.what_is;
    }

-- HISTORIES

module _ (set_up : SetUp) (events later : List Event) (is : IsHistory set_up (events ++ later)) where
  said_later : (by : ℕ) (what : SynodMessage) → IsOnWire (after set_up events) by what → Has (after_keeps set_up (events ++ later) is).said (says by what)
  said_later by what on =
      let kept = after_keeps set_up (events ++ later) is in
      let now = subst (λ m. IsOnWire m by what) (sym (run_both set_up events later (first_moment set_up))) (on_wire_still set_up (after set_up events) later by what on) in
      subst (λ x. Has kept.said (says x what)) now.sender_is (subst (λ m. Has kept.said (says now.message.sender m)) now.what_is (kept.heard now.number now.message now.at))

  pub history_chosen : (b : ℕ) (d : List ℕ) → IsChosen set_up (after set_up events) b d →
      (core : ℕ) (e : List ℕ) → held_by (after set_up (events ++ later)) core ≡ Some e → e ≡ d
  history_chosen b d chosen =
      let kept = after_keeps set_up (events ++ later) is in
      chosen_by set_up.voters (after set_up (events ++ later)).states kept.said kept.holds b d chosen.who chosen.most chosen.by
      (said_later chosen.by (message.BeginBallot b d) chosen.begun)
      (λ x yes. said_later x (message.Voted b) (chosen.voted x yes))

-- WHAT ALWAYS HOLDS OF A STATE

own_by : (voters : List ℕ) (states : ℕ → VoteState) (said : List Said) → Holds voters states said → (core : ℕ) → IsVoteStateOf voters core (states core)
own_by voters states said ok core =
    let is = ok.state core in
    record { me_is = is.me_is; voters_are = is.voters_are; promised = λ v at. (is.cast v at).1 }

pub reached_own : (voters : List ℕ) (states : ℕ → VoteState) (said : List Said) → Reached voters states said → (core : ℕ) → IsVoteStateOf voters core (states core)
reached_own voters states said reached = own_by voters states said (reached_holds voters reached)

pub history_own : (set_up : SetUp) (events : List Event) → IsHistory set_up events → (core : ℕ) → IsVoteStateOf set_up.voters core ((after set_up events).states core)
history_own set_up events is = let kept = after_keeps set_up events is in own_by set_up.voters (after set_up events).states kept.said kept.holds
