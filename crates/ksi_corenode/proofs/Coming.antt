-- A core that comes back with the fact of an event too is the core after that event, restarted.
use Rattle.std.proofs.Common.{◌≡◌, ◌∙◌, ℕ, Bool, true, false, List, Option, Some, None, refl, sym, ap}
use Rattle.std.specs.Prelude.{◌==◌, if◌then◌else◌, is_some, option_map}
use Rattle.std.proofs.lemmas.Bool.{cond_both, eqb-true}
use Rattle.ksi_aggtree.specs.declared.item.Item.{Item}
use Rattle.ksi_aggtree.specs.declared.entries.Entry.{Entry}
use Rattle.ksi_aggtree.specs.Entries.{candidate_of}
use Rattle.ksi_calendar.specs.Covered.{Roots, first_missing}
use Rattle.ksi_synod.specs.CorePlans.{CorePlanState, voters_of}
use Rattle.ksi_synod.specs.declared.messages.SynodMessage.{SynodMessage}
use Rattle.ksi_synod.specs.Rows.{seal, seal_of}
use Rattle.ksi_corenode.specs.declared.event.CoreEvent.{CoreEvent}
use Rattle.ksi_corenode.specs.declared.event.CoreEvent.TheVariants as events
use Rattle.ksi_corenode.specs.declared.fact.What.{What}
use Rattle.ksi_corenode.specs.declared.fact.Fact.{Fact}
use Rattle.ksi_corenode.specs.SecondState.{SecondState}
use Rattle.ksi_corenode.specs.Facts.{StableState, with_fact, with_stored, fact_of}
use Rattle.ksi_corenode.specs.Turns.{Turn}
use Rattle.ksi_corenode.specs.Rows.{submission_row, seal_row, ballot_row, receive_row, tell_row, respond_row, respond_where, is_mine, restart_row}
use Rattle.ksi_corenode.specs.Events.{event_second, core_row, MayTake}
use Rattle.ksi_corenode.specs.Lawful.{stored_by, with_new}
use Rattle.ksi_corenode.specs.Restored.{IsOfFacts, HasFacts}
use Rattle.ksi_corenode.specs.CoreState.{CoreState, state_of}
use Rattle.ksi_corenode.proofs.Keeping.{try_keeps, receive_keeps}
use Rattle.ksi_corenode.proofs.Returning.{some_more}
use Rattle.ksi_corenode.proofs.Lasting.{comes_back_at, event_good, event_stores, own_parts}

-- the same core, with the same voters
abbrev Owns : (s : SecondState) → Turn → Type 0
Owns s turn = (turn.after.vote.me ≡ s.vote.me) × (turn.after.vote.voters ≡ s.vote.voters)

submission_owns : (from : ℕ) (item : Item) (s : SecondState) → Owns s (submission_row from item s)
unfolding submission_row
submission_owns from item s = cond_both (is_some s.sealed) _ _ (λ (turn : Turn). Owns s turn) (λ _. (refl, refl)) (λ _. (refl, refl))

seal_owns : (image : List ℕ → List ℕ) (s : SecondState) → Owns s (seal_row image s)
unfolding seal_row seal
seal_owns image s = cond_both (is_some s.sealed) _ _ (λ (turn : Turn). Owns s turn) (λ _. (refl, refl)) (λ _. by s.vote.candidate)
  where
    by : (o : Option (List ℕ)) → ((seal_of o s.vote (candidate_of image s.open_items)).me ≡ s.vote.me) × ((seal_of o s.vote (candidate_of image s.open_items)).voters ≡ s.vote.voters)
    by None = (refl, refl)
    by (Some candidate) = (refl, refl)

respond_owns : (image : List ℕ → List ℕ) (held : Roots) (start second : ℕ) (s : SecondState) → Owns s (respond_row image held start second s)
unfolding respond_row
respond_owns image held start second s = by s.sealed (first_missing held start second) (held second)
  where
    by : (sealed : Option (List Entry)) (missing : Option ℕ) (root : Option (List ℕ)) → Owns s (respond_where image held start second sealed missing root s)
    by None missing root = (refl, refl)
    by (Some entries) (Some missing) root = (refl, refl)
    by (Some entries) None None = (refl, refl)
    by (Some entries) None (Some root) = cond_both (is_mine image entries root) _ _ (λ (turn : Turn). Owns s turn) (λ _. (refl, refl)) (λ _. (refl, refl))

ballot_owns : (plan : CorePlanState) (second me : ℕ) (s : SecondState) → Owns s (ballot_row plan second me s)
unfolding ballot_row
ballot_owns plan second me s = let keeps = try_keeps s.vote in (keeps.me, keeps.voters)

receive_owns : (plan : CorePlanState) (second from : ℕ) (m : SynodMessage) (s : SecondState) → Owns s (receive_row plan second from m s)
unfolding receive_row
receive_owns plan second from m s = let keeps = receive_keeps s.vote from m in (keeps.me, keeps.voters)

tell_owns : (plan : CorePlanState) (second me : ℕ) (s : SecondState) → Owns s (tell_row plan second me s)
unfolding tell_row
tell_owns plan second me s = (refl, refl)

event_owns : (image : List ℕ → List ℕ) (core : CoreState) (event : CoreEvent) → Owns (state_of core (event_second event)) (core_row image core event)
event_owns image core (events.Submission from second item) = submission_owns from item (state_of core second)
event_owns image core (events.Seal second) = seal_owns image (state_of core second)
event_owns image core (events.Ballot second) = ballot_owns core.plan second core.me (state_of core second)
event_owns image core (events.Receive from second m) = receive_owns core.plan second from m (state_of core second)
event_owns image core (events.Tell second) = tell_owns core.plan second core.me (state_of core second)
event_owns image core (events.Respond second) = respond_owns image (λ t. (state_of core t).vote.held) core.start second (state_of core second)
event_owns image core (events.Publish second) = (refl, refl)

-- what a fact of a second makes of a second
fact_there : (u t : ℕ) (what : Option What) (s : StableState) → with_fact (option_map (fact_of u) what) t s ≡ (if t == u then with_stored what s else s)
fact_there u t None s = by (t == u)
  where
    by : (b : Bool) → s ≡ (if b then s else s)
    by true = refl
    by false = refl
fact_there u t (Some what) s = refl

pub comes_back_with : (image : List ℕ → List ℕ) (plan : CorePlanState) (facts : List Fact) (core other : CoreState) (event : CoreEvent) → HasFacts image plan facts core → MayTake core event
    → IsOfFacts image core.me plan (with_new facts (option_map (fact_of (event_second event)) (core_row image core event).fact)) other
    → (t : ℕ) → state_of other t ≡ restart_row (if t == event_second event then (core_row image core event).after else state_of core t)
comes_back_with image plan facts core other event has may are t = by (t == event_second event) refl
  where
    second : ℕ
    second = event_second event

    turn : Turn
    turn = core_row image core event

    kept : List Fact
    kept = with_new facts (option_map (fact_of (event_second event)) (core_row image core event).fact)

    stored : (b : Bool) → (t == event_second event) ≡ b → stored_by kept t ≡ (if b then with_stored turn.fact (stored_by facts t) else stored_by facts t)
    stored b is = some_more facts (option_map (fact_of second) turn.fact) t ∙ fact_there second t turn.fact (stored_by facts t) ∙ ap (λ (c : Bool). if c then with_stored turn.fact (stored_by facts t) else stored_by facts t) is

    by : (b : Bool) → (t == event_second event) ≡ b → state_of other t ≡ restart_row (if b then turn.after else state_of core t)
    by true is =
        let here : t ≡ second = eqb-true t second is in
        let owns = event_owns image core event in
        let parts = own_parts core second in
        comes_back_at image core.me plan kept turn.after other t are
        (event_stores image core event ∙ ap (λ (s : StableState). with_stored turn.fact s) (has.stored second ∙ ap (stored_by facts) (sym here)) ∙ sym (stored true is))
        (event_good image core event may (has.well second)).well (owns.0 ∙ parts.0)
        (owns.1 ∙ parts.1 ∙ ap (λ (p : CorePlanState). voters_of p second) has.planned ∙ ap (voters_of plan) (sym here))
    by false is =
        let parts = own_parts core t in
        comes_back_at image core.me plan kept (state_of core t) other t are (has.stored t ∙ sym (stored false is)) (has.well t) parts.0 (parts.1 ∙ ap (λ (p : CorePlanState). voters_of p t) has.planned)
