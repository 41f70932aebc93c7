-- A message that is delivered is taken by its addressee.
use Rattle.std.proofs.Common.{◌≡◌, ℕ, ◌<◌, ◌≤◌, List, length, refl, sym, ap, subst, ◌∙◌, arith, Option, Some, None}
use Rattle.std.specs.Prelude.{slice_get}
use Rattle.ksi_signature.specs.declared.above.Above.{Above}
use Rattle.ksi_aggregator.specs.Rows.{round_response}
use Rattle.ksi_signature.specs.declared.answer.Answer.TheVariants as answers
use Rattle.ksi_schedule.specs.declared.actor.Actor.{Actor}
use Rattle.ksi_schedule.specs.declared.actor.Actor.TheVariants as actors
use Rattle.ksi_schedule.specs.declared.event.Event.TheVariants as events
use Rattle.ksi_world.specs.declared.outcome.Outcome.{Outcome}
use Rattle.ksi_world.specs.declared.message.Content.{Content}
use Rattle.ksi_world.specs.declared.message.Content.TheVariants as contents
use Rattle.ksi_world.specs.declared.message.Message.{Message}
use Rattle.ksi_schedule.specs.Plans.{PlanState}
use Rattle.ksi_world.specs.Histories.{WorldState, at_round, taken, delivered, happens}
use Rattle.ksi_world.specs.Sound.{depth_of, IsSent}
use Rattle.ksi_aggtree.specs.declared.item.Item.{Item}
use Rattle.ksi_synod.specs.declared.messages.SynodMessage.{SynodMessage}
use Rattle.ksi_corenode.specs.declared.event.CoreEvent.TheVariants as happenings
use Rattle.ksi_world.specs.Nodes.{NodesState, Fits, IsReady, IsReadyCore, IsTaken, Happened, WasTaken}
use Rattle.ksi_world.proofs.Depths.{core_parent}
use Rattle.ksi_world.proofs.Sending.{leaf_most}

-- a fact of a sender, an addressee and a content
pub along : (P : Actor → Actor → Content → Type 0) (s s' a a' : Actor) (c c' : Content) → s ≡ s' → a ≡ a' → c ≡ c' → P s a c → P s' a' c'
along P s s' a a' c c' es ea ec p = subst (λ s. P s a' c') es (subst (λ a. P s a c') ea (subst (λ c. P s a c) ec p))

pub is_taken : (plan : PlanState) (number : ℕ) (nodes : NodesState) (m : Message) → IsReady plan (events.Deliver number) nodes → slice_get nodes.wire number ≡ Some m → IsTaken plan m.sender m.addressee m.second m.content nodes
is_taken plan number nodes m ready at =
    let post = ready.sound.wire number m (ap (λ xs. slice_get xs number) (sym ready.fits.wire) ∙ at) in
    record { world = ready.world; plan_is = ready.plan_is; sound = ready.sound; fits = ready.fits; range = post.second; sent = post.sent }

pub happened_taken : (image : List ℕ → List ℕ) (plan : PlanState) (number : ℕ) (nodes nodes' : NodesState) (outcome : Outcome) (m : Message) → slice_get nodes.wire number ≡ Some m →
    WasTaken image plan m.sender m.addressee m.second m.content nodes nodes' outcome → Happened image plan (events.Deliver number) nodes nodes' outcome
unfolding happens
happened_taken image plan number nodes nodes' outcome m at was = λ w fits.
    let found : slice_get w.wire number ≡ Some m = ap (λ xs. slice_get xs number) (sym fits.wire) ∙ at in
    subst (λ o. Fits plan (delivered image plan w o).world nodes' × (outcome ≡ (delivered image plan w o).outcome)) (sym found) (was w fits)

pub happened_none : (image : List ℕ → List ℕ) (plan : PlanState) (number : ℕ) (nodes nodes' : NodesState) → slice_get nodes.wire number ≡ None → nodes' ≡ nodes →
    Happened image plan (events.Deliver number) nodes nodes' (record { answer = answers.Nothing; sent = 0 })
unfolding happens
happened_none image plan number nodes nodes' at same = λ w fits.
    let found : slice_get w.wire number ≡ None = ap (λ xs. slice_get xs number) (sym fits.wire) ∙ at in
    subst (λ (o : Option Message). Fits plan (delivered image plan w o).world nodes' × (record { answer = answers.Nothing; sent = 0 } ≡ (delivered image plan w o).outcome)) (sym found) (subst (λ n. Fits plan w n) (sym same) fits, refl)

pub response_sent : (plan : PlanState) (sender : Actor) (k : ℕ) (above : Above) → IsSent plan sender (actors.Aggregator k) (contents.Response above) → (k < length plan.parents) × (length above.chains ≤ depth_of plan (actors.Aggregator k))
response_sent plan (actors.Core j) k above sent = sent
response_sent plan (actors.Aggregator a) k above sent = sent

pub response_taken : (image : List ℕ → List ℕ) (plan : PlanState) (w : WorldState) (sender : Actor) (k t : ℕ) (above : Above) → taken image plan w sender (actors.Aggregator k) t (contents.Response above) ≡ at_round plan w k t (round_response image above (w.rounds k t))
response_taken image plan w (actors.Core j) k t above = refl
response_taken image plan w (actors.Aggregator a) k t above = refl

-- what a core is sent it may take
pub vote_ready : (plan : PlanState) (from j t : ℕ) (m : SynodMessage) (nodes : NodesState) → IsTaken plan (actors.Core from) (actors.Core j) t (contents.Synod m) nodes → IsReadyCore plan j (happenings.Receive from t m) nodes
vote_ready plan from j t m nodes taken = record {
  world = taken.world;
  plan_is = taken.plan_is;
  fits = taken.fits;
  there = taken.sent.1;
  may = λ core start. (omega (arith, taken.sent.0, taken.plan_is.core_plan.few), taken.sent.2);
}

pub item_ready : (plan : PlanState) (from j t : ℕ) (item : Item) (nodes : NodesState) → IsTaken plan (actors.Aggregator from) (actors.Core j) t (contents.Submission item) nodes → IsReadyCore plan j (happenings.Submission from t item) nodes
item_ready plan from j t item nodes taken = record {
  world = taken.world;
  plan_is = taken.plan_is;
  fits = taken.fits;
  there = core_parent plan taken.plan_is from j taken.sent.0 taken.sent.1;
  may = λ core start. omega (arith, taken.sent.2, leaf_most item);
}
