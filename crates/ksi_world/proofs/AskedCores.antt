-- What an event asks of a core may be asked of it, and makes its second what the event makes of it in the world.
use Rattle.ksi_schedule.specs.Plans.{core_plan_of}
use Rattle.std.proofs.Common.{◌≡◌, ℕ, ◌&&◌, eqb, Bool, true, false, if◌then◌else◌, List, refl, sym, ap, subst, ◌∙◌, arith, Option, Some, None}
use Rattle.std.specs.Prelude.{slice_get}
use Rattle.std.proofs.lemmas.Bool.{eqb-true}
use Rattle.ksi_corenode.specs.SecondState.{SecondState}
use Rattle.ksi_corenode.specs.Turns.{Turn}
use Rattle.ksi_corenode.specs.Rows.{submission_row, seal_row, ballot_row, receive_row, tell_row, respond_row, restart_row}
use Rattle.ksi_corenode.specs.declared.event.CoreEvent.{CoreEvent}
use Rattle.ksi_corenode.specs.declared.event.CoreEvent.TheVariants as happenings
use Rattle.ksi_corenode.specs.declared.step.Step.{Step}
use Rattle.ksi_corenode.specs.CoreState.{CoreState, state_of, IsTurn}
use Rattle.ksi_corenode.specs.Events.{core_row, event_second, IsAsked, MayTake}
use Rattle.ksi_schedule.specs.Plans.{PlanState, IsPlan, InRange}
use Rattle.ksi_schedule.specs.Events.{IsEvent, AreEvents}
use Rattle.ksi_schedule.specs.declared.actor.Actor.{Actor}
use Rattle.ksi_schedule.specs.declared.actor.Actor.TheVariants as actors
use Rattle.ksi_schedule.specs.declared.event.Event.{Event}
use Rattle.ksi_schedule.specs.declared.event.Event.TheVariants as events
use Rattle.ksi_world.specs.declared.message.Content.{Content}
use Rattle.ksi_world.specs.declared.message.Content.TheVariants as contents
use Rattle.ksi_world.specs.declared.message.Message.{Message}
use Rattle.ksi_world.specs.Histories.{WorldState, after, delivered, happens, held_in, put_at, taken}
use Rattle.ksi_world.specs.Sound.{IsPost, IsSent}
use Rattle.ksi_world.specs.Nodes.{IsCore, core_turn}
use Rattle.ksi_world.specs.CoreEvents.{asked_by_content, asked_by_message, asked_of, is_restart_of, where_mine}
use Rattle.ksi_world.proofs.Deciding.{after_sound}
use Rattle.ksi_world.proofs.Fitting.{core_turn_is}
use Rattle.ksi_world.proofs.Sending.{leaf_most, TreeRises}

pub asked_here : (j i : ℕ) (asked e : CoreEvent) → where_mine j i asked ≡ Some e → (eqb j i ≡ true) × (asked ≡ e)
asked_here j i asked e is = by (eqb j i) refl is
  where
    by : (b : Bool) → eqb j i ≡ b → (if b then Some asked else None) ≡ Some e → (eqb j i ≡ true) × (asked ≡ e)
    by true here is = (here, cc is)
    by false here is = absurd (cc is)

asked_there : (j i : ℕ) (asked : CoreEvent) → where_mine j i asked ≡ None → eqb j i ≡ false
asked_there j i asked is = by (eqb j i) is
  where
    by : (b : Bool) → (if b then Some asked else None) ≡ None → b ≡ false
    by true is = absurd (cc is)
    by false is = refl

-- the own second, and those of others
own_turn : (f : ℕ → ℕ → SecondState) (i j u t : ℕ) (row : ℕ → Turn) → eqb j i ≡ true → put_at f i u (row i).after j t ≡ (if eqb t u then (row j).after else f j t)
own_turn f i j u t row here =
    ap (λ (b : Bool). if b && eqb t u then (row i).after else f j t) here
    ∙ ap (λ (k : ℕ). if eqb t u then (row k).after else f j t) (sym (eqb-true j i here))

others_turn : (f : ℕ → ℕ → SecondState) (i j u t : ℕ) (new : SecondState) → eqb j i ≡ false → put_at f i u new j t ≡ f j t
others_turn f i j u t new there = ap (λ (b : Bool). if b && eqb t u then new else f j t) there

same_second : (f : ℕ → SecondState) (t u : ℕ) → f t ≡ (if eqb t u then f u else f t)
same_second f t u = by (eqb t u) refl
  where
    by : (b : Bool) → eqb t u ≡ b → f t ≡ (if b then f u else f t)
    by true is = ap f (eqb-true t u is)
    by false is = refl

module _ (image : List ℕ → List ℕ) (plan : PlanState) (w : WorldState) (j : ℕ) where
  -- what a turn leaves of the seconds of core j
  abbrev Turned : CoreEvent → (ℕ → SecondState) → Type 0
  Turned e seconds = (t : ℕ) → seconds t ≡ (if eqb t (event_second e) then (core_turn image plan w j e).after else w.seconds j t)

  taken_turned : (sender addressee : Actor) (u : ℕ) (content : Content) (e : CoreEvent) → asked_by_content j sender addressee u content ≡ Some e → Turned e ((taken image plan w sender addressee u content).world.seconds j)
  taken_turned (actors.Core from) (actors.Core i) u (contents.Synod m) e is = λ t.
      let here = asked_here j i (happenings.Receive from u m) e is in
      subst (λ (e : CoreEvent). put_at w.seconds i u (receive_row (core_plan_of plan) u from m (w.seconds i u)).after j t ≡ (if eqb t (event_second e) then (core_turn image plan w j e).after else w.seconds j t)) here.1
      (own_turn w.seconds i j u t (λ k. receive_row (core_plan_of plan) u from m (w.seconds k u)) here.0)
  taken_turned (actors.Core from) (actors.Core i) u (contents.Submission item) e is = absurd (cc is)
  taken_turned (actors.Core from) (actors.Core i) u (contents.Response above) e is = absurd (cc is)
  taken_turned (actors.Core from) (actors.Aggregator k) u (contents.Synod m) e is = absurd (cc is)
  taken_turned (actors.Core from) (actors.Aggregator k) u (contents.Submission item) e is = absurd (cc is)
  taken_turned (actors.Core from) (actors.Aggregator k) u (contents.Response above) e is = absurd (cc is)
  taken_turned (actors.Aggregator from) (actors.Core i) u (contents.Synod m) e is = absurd (cc is)
  taken_turned (actors.Aggregator from) (actors.Core i) u (contents.Submission item) e is = λ t.
      let here = asked_here j i (happenings.Submission from u item) e is in
      subst (λ (e : CoreEvent). put_at w.seconds i u (submission_row from item (w.seconds i u)).after j t ≡ (if eqb t (event_second e) then (core_turn image plan w j e).after else w.seconds j t)) here.1
      (own_turn w.seconds i j u t (λ k. submission_row from item (w.seconds k u)) here.0)
  taken_turned (actors.Aggregator from) (actors.Core i) u (contents.Response above) e is = absurd (cc is)
  taken_turned (actors.Aggregator from) (actors.Aggregator k) u (contents.Synod m) e is = absurd (cc is)
  taken_turned (actors.Aggregator from) (actors.Aggregator k) u (contents.Submission item) e is = absurd (cc is)
  taken_turned (actors.Aggregator from) (actors.Aggregator k) u (contents.Response above) e is = absurd (cc is)

  delivered_turned : (m : Option Message) (e : CoreEvent) → asked_by_message j m ≡ Some e → Turned e ((delivered image plan w m).world.seconds j)
  delivered_turned None e is = absurd (cc is)
  delivered_turned (Some m) e is = taken_turned m.sender m.addressee m.second m.content e is

  -- the second that an event asks for is turned, and the others stay
  pub event_turned : (event : Event) (e : CoreEvent) → asked_of j w.wire event ≡ Some e → Turned e ((happens image plan w event).world.seconds j)
  unfolding happens
  event_turned (events.Request k u imprint name) e is = absurd (cc is)
  event_turned (events.Close k u) e is = absurd (cc is)
  event_turned (events.Seal i u) e is = λ t.
      let here = asked_here j i (happenings.Seal u) e is in
      subst (λ (e : CoreEvent). put_at w.seconds i u (seal_row image (w.seconds i u)).after j t ≡ (if eqb t (event_second e) then (core_turn image plan w j e).after else w.seconds j t)) here.1
      (own_turn w.seconds i j u t (λ k. seal_row image (w.seconds k u)) here.0)
  event_turned (events.Ballot i u) e is = λ t.
      let here = asked_here j i (happenings.Ballot u) e is in
      subst (λ (e : CoreEvent). put_at w.seconds i u (ballot_row (core_plan_of plan) u i (w.seconds i u)).after j t ≡ (if eqb t (event_second e) then (core_turn image plan w j e).after else w.seconds j t)) here.1
      (own_turn w.seconds i j u t (λ k. ballot_row (core_plan_of plan) u k (w.seconds k u)) here.0)
  event_turned (events.Deliver number) e is = delivered_turned (slice_get w.wire number) e is
  event_turned (events.Tell i u) e is = λ t.
      let here = asked_here j i (happenings.Tell u) e is in
      subst (λ (e : CoreEvent). put_at w.seconds i u (tell_row (core_plan_of plan) u i (w.seconds i u)).after j t ≡ (if eqb t (event_second e) then (core_turn image plan w j e).after else w.seconds j t)) here.1
      (own_turn w.seconds i j u t (λ k. tell_row (core_plan_of plan) u k (w.seconds k u)) here.0)
  event_turned (events.Respond i u) e is = λ t.
      let here = asked_here j i (happenings.Respond u) e is in
      subst (λ (e : CoreEvent). put_at w.seconds i u (respond_row image (held_in w i) plan.start u (w.seconds i u)).after j t ≡ (if eqb t (event_second e) then (core_turn image plan w j e).after else w.seconds j t)) here.1
      (own_turn w.seconds i j u t (λ k. respond_row image (held_in w k) plan.start u (w.seconds k u)) here.0)
  event_turned (events.Publish i u) e is = λ t.
      let here = asked_here j i (happenings.Publish u) e is in
      subst (λ (e : CoreEvent). w.seconds j t ≡ (if eqb t (event_second e) then (core_turn image plan w j e).after else w.seconds j t)) here.1
      (same_second (w.seconds j) t u)
  event_turned (events.RestartCore i) e is = absurd (cc is)
  event_turned (events.RestartAggregator k) e is = absurd (cc is)

  -- NOTHING IS ASKED

  taken_still : (sender addressee : Actor) (u : ℕ) (content : Content) → asked_by_content j sender addressee u content ≡ None → (t : ℕ) → (taken image plan w sender addressee u content).world.seconds j t ≡ w.seconds j t
  taken_still (actors.Core from) (actors.Core i) u (contents.Synod m) is t = others_turn w.seconds i j u t (receive_row (core_plan_of plan) u from m (w.seconds i u)).after (asked_there j i (happenings.Receive from u m) is)
  taken_still (actors.Core from) (actors.Core i) u (contents.Submission item) is t = refl
  taken_still (actors.Core from) (actors.Core i) u (contents.Response above) is t = refl
  taken_still (actors.Core from) (actors.Aggregator k) u (contents.Synod m) is t = refl
  taken_still (actors.Core from) (actors.Aggregator k) u (contents.Submission item) is t = refl
  taken_still (actors.Core from) (actors.Aggregator k) u (contents.Response above) is t = refl
  taken_still (actors.Aggregator from) (actors.Core i) u (contents.Synod m) is t = refl
  taken_still (actors.Aggregator from) (actors.Core i) u (contents.Submission item) is t = others_turn w.seconds i j u t (submission_row from item (w.seconds i u)).after (asked_there j i (happenings.Submission from u item) is)
  taken_still (actors.Aggregator from) (actors.Core i) u (contents.Response above) is t = refl
  taken_still (actors.Aggregator from) (actors.Aggregator k) u (contents.Synod m) is t = refl
  taken_still (actors.Aggregator from) (actors.Aggregator k) u (contents.Submission item) is t = refl
  taken_still (actors.Aggregator from) (actors.Aggregator k) u (contents.Response above) is t = refl

  delivered_still : (m : Option Message) → asked_by_message j m ≡ None → (t : ℕ) → (delivered image plan w m).world.seconds j t ≡ w.seconds j t
  delivered_still None is t = refl
  delivered_still (Some m) is t = taken_still m.sender m.addressee m.second m.content is t

  pub event_still : (event : Event) → asked_of j w.wire event ≡ None → is_restart_of j event ≡ false → (t : ℕ) → (happens image plan w event).world.seconds j t ≡ w.seconds j t
  unfolding happens
  event_still (events.Request k u imprint name) is other t = refl
  event_still (events.Close k u) is other t = refl
  event_still (events.Seal i u) is other t = others_turn w.seconds i j u t (seal_row image (w.seconds i u)).after (asked_there j i (happenings.Seal u) is)
  event_still (events.Ballot i u) is other t = others_turn w.seconds i j u t (ballot_row (core_plan_of plan) u i (w.seconds i u)).after (asked_there j i (happenings.Ballot u) is)
  event_still (events.Deliver number) is other t = delivered_still (slice_get w.wire number) is t
  event_still (events.Tell i u) is other t = others_turn w.seconds i j u t (tell_row (core_plan_of plan) u i (w.seconds i u)).after (asked_there j i (happenings.Tell u) is)
  event_still (events.Respond i u) is other t = others_turn w.seconds i j u t (respond_row image (held_in w i) plan.start u (w.seconds i u)).after (asked_there j i (happenings.Respond u) is)
  event_still (events.Publish i u) is other t = refl
  event_still (events.RestartCore i) is other t = ap (λ (b : Bool). if b then restart_row (w.seconds j t) else w.seconds j t) other
  event_still (events.RestartAggregator k) is other t = refl

  pub event_restarted : (event : Event) → is_restart_of j event ≡ true → (t : ℕ) → (happens image plan w event).world.seconds j t ≡ restart_row (w.seconds j t)
  unfolding happens
  event_restarted (events.Request k u imprint name) is t = absurd (cc is)
  event_restarted (events.Close k u) is t = absurd (cc is)
  event_restarted (events.Seal i u) is t = absurd (cc is)
  event_restarted (events.Ballot i u) is t = absurd (cc is)
  event_restarted (events.Deliver number) is t = absurd (cc is)
  event_restarted (events.Tell i u) is t = absurd (cc is)
  event_restarted (events.Respond i u) is t = absurd (cc is)
  event_restarted (events.Publish i u) is t = absurd (cc is)
  event_restarted (events.RestartCore i) is t = ap (λ (b : Bool). if b then restart_row (w.seconds j t) else w.seconds j t) is
  event_restarted (events.RestartAggregator k) is t = absurd (cc is)

  -- a core that keeps what the world keeps takes the world's turn
  pub core_turned_so : (event : Event) (e : CoreEvent) (core new : CoreState) (step : Step) → asked_of j w.wire event ≡ Some e → IsCore plan (w.seconds j) j core → IsTurn core new (event_second e) (core_row image core e) step
      → (t : ℕ) → state_of new t ≡ (happens image plan w event).world.seconds j t
  core_turned_so event e core new step is keeps turn t =
      turn.seconds t
      ∙ (λ i. if eqb t (event_second e) then (core_turn_is plan w j core keeps image e i).after else keeps.keeps t i)
      ∙ sym (event_turned event e is t)

-- IT MAY BE ASKED

asked_in : (plan : PlanState) (core : CoreState) (t : ℕ) → IsPlan plan → core.start ≡ plan.start → InRange plan t → IsAsked core t
asked_in plan core t is start range = (omega (arith, range.0, start), omega (arith, range.1, is.core_plan.early))

module _ (plan : PlanState) (is : IsPlan plan) (core : CoreState) (start : core.start ≡ plan.start) where
  -- a core may take it, and its second may be asked for
  abbrev May : CoreEvent → Type 0
  May e = MayTake core e × IsAsked core (event_second e)

  content_may : (j : ℕ) (sender addressee : Actor) (u : ℕ) (content : Content) (e : CoreEvent) → InRange plan u → IsSent plan sender addressee content → asked_by_content j sender addressee u content ≡ Some e → May e
  content_may j (actors.Core from) (actors.Core i) u (contents.Synod m) e range sent asked =
      subst (λ (e : CoreEvent). May e) (asked_here j i (happenings.Receive from u m) e asked).1 ((omega (arith, sent.0, is.core_plan.few), sent.2), asked_in plan core u is start range)
  content_may j (actors.Core from) (actors.Core i) u (contents.Submission item) e range sent asked = absurd (cc asked)
  content_may j (actors.Core from) (actors.Core i) u (contents.Response above) e range sent asked = absurd (cc asked)
  content_may j (actors.Core from) (actors.Aggregator k) u (contents.Synod m) e range sent asked = absurd (cc asked)
  content_may j (actors.Core from) (actors.Aggregator k) u (contents.Submission item) e range sent asked = absurd (cc asked)
  content_may j (actors.Core from) (actors.Aggregator k) u (contents.Response above) e range sent asked = absurd (cc asked)
  content_may j (actors.Aggregator from) (actors.Core i) u (contents.Synod m) e range sent asked = absurd (cc asked)
  content_may j (actors.Aggregator from) (actors.Core i) u (contents.Submission item) e range sent asked =
      subst (λ (e : CoreEvent). May e) (asked_here j i (happenings.Submission from u item) e asked).1 (omega (arith, sent.2, leaf_most item), asked_in plan core u is start range)
  content_may j (actors.Aggregator from) (actors.Core i) u (contents.Response above) e range sent asked = absurd (cc asked)
  content_may j (actors.Aggregator from) (actors.Aggregator k) u (contents.Synod m) e range sent asked = absurd (cc asked)
  content_may j (actors.Aggregator from) (actors.Aggregator k) u (contents.Submission item) e range sent asked = absurd (cc asked)
  content_may j (actors.Aggregator from) (actors.Aggregator k) u (contents.Response above) e range sent asked = absurd (cc asked)

  message_may : (j : ℕ) (m : Option Message) (e : CoreEvent) → ((one : Message) → m ≡ Some one → IsPost plan one) → asked_by_message j m ≡ Some e → May e
  message_may j None e posts asked = absurd (cc asked)
  message_may j (Some m) e posts asked = let post = posts m refl in content_may j m.sender m.addressee m.second m.content e post.second post.sent asked

  event_may : (wire : List Message) → ((number : ℕ) (m : Message) → slice_get wire number ≡ Some m → IsPost plan m) → (j : ℕ) (event : Event) (e : CoreEvent) → IsEvent plan event → asked_of j wire event ≡ Some e → May e
  event_may wire posts j (events.Request k u imprint name) e may asked = absurd (cc asked)
  event_may wire posts j (events.Close k u) e may asked = absurd (cc asked)
  event_may wire posts j (events.Seal i u) e may asked = subst (λ (e : CoreEvent). May e) (asked_here j i (happenings.Seal u) e asked).1 (tt, asked_in plan core u is start may.1)
  event_may wire posts j (events.Ballot i u) e may asked = subst (λ (e : CoreEvent). May e) (asked_here j i (happenings.Ballot u) e asked).1 (tt, asked_in plan core u is start may.1)
  event_may wire posts j (events.Deliver number) e may asked = message_may j (slice_get wire number) e (λ one at. posts number one at) asked
  event_may wire posts j (events.Tell i u) e may asked = subst (λ (e : CoreEvent). May e) (asked_here j i (happenings.Tell u) e asked).1 (tt, asked_in plan core u is start may.1)
  event_may wire posts j (events.Respond i u) e may asked =
      subst (λ (e : CoreEvent). May e) (asked_here j i (happenings.Respond u) e asked).1 (asked_in plan core u is start may.1, asked_in plan core u is start may.1)
  event_may wire posts j (events.Publish i u) e may asked =
      subst (λ (e : CoreEvent). May e) (asked_here j i (happenings.Publish u) e asked).1 (asked_in plan core u is start may.1, asked_in plan core u is start may.1)
  event_may wire posts j (events.RestartCore i) e may asked = absurd (cc asked)
  event_may wire posts j (events.RestartAggregator k) e may asked = absurd (cc asked)

pub asked_may : (image : List ℕ → List ℕ) → TreeRises image → (plan : PlanState) (before : List Event) → IsPlan plan → AreEvents plan before → (j : ℕ) (event : Event) (e : CoreEvent) → IsEvent plan event → asked_of j (after image plan before).wire event ≡ Some e
    → (core : CoreState) → core.start ≡ plan.start → MayTake core e × IsAsked core (event_second e)
asked_may image rises plan before is are j event e may asked core start =
    event_may plan is core start (after image plan before).wire (after_sound image plan is rises before are).wire j event e may asked
