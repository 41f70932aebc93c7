use Rattle.std.proofs.Common.{◌≡◌, refl, sym, ap, subst, ◌∙◌, Some, None}
use Rattle.std.specs.Prelude.{slice_get, option_map}
use Rattle.std.proofs.lemmas.Result.{IfOk-weaker, on_err_weaker}
use Rattle.ksi_schedule.specs.declared.actor.Actor.TheVariants as actors
use Rattle.ksi_world.specs.declared.message.Content.TheVariants as contents
use Rattle.ksi_schedule.specs.declared.event.Event.TheVariants as events
use Rattle.ksi_world.specs.declared.outcome.Outcome.{Outcome}
use Rattle.ksi_world.specs.Messages.{lent_message}
use Rattle.ksi_world.specs.Nodes.{NodesState, IsTaken, WasTaken, Happened}
use Rattle.ksi_world.proofs.LetterLemmas.{Says, letter_says}
use Rattle.ksi_world.proofs.Delivering.{along, is_taken, happened_taken, happened_none, vote_ready, item_ready}
use Rattle.ksi_world.proofs.nodes.Nodes.deliver.Goals as goal

pub returns-in_default-clause-ok : goal.returns-in_default-clause-ok
returns-in_default-clause-ok g c = λ w fits.
    let at : slice_get c.args.self.now.wire c.args.number ≡ None = ap (λ (n : NodesState). slice_get n.wire c.args.number) (sym c.self.view_is) ∙ sym c.get.ensures ∙ ap (option_map lent_message) c.in_default.is in
    subst (λ o. Happened g.C.Compress.image c.args.plan.now (events.Deliver c.args.number) c.args.self.now c.args.self.now o) (sym c.nothing.ensures) (happened_none g.C.Compress.image c.args.plan.now c.args.number c.args.self.now c.args.self.now at refl) w fits

pub take-requires-clause-ready : goal.take-requires-clause-ready
take-requires-clause-ready g c =
    let m = lent_message c.in-Some.message in
    let at : slice_get c.args.self.now.wire c.args.number ≡ Some m = ap (λ (n : NodesState). slice_get n.wire c.args.number) (sym c.self.view_is) ∙ sym c.get.ensures ∙ ap (option_map lent_message) c.in-Some.is in
    let taken = is_taken c.args.plan.now c.args.number c.args.self.now m c.requires at in
    let says = subst (λ l. Says m.sender m.addressee m.content l) (sym c.letter_of.ensures ∙ c.in-Vote.is) (letter_says m.sender m.addressee m.content) in
    (c.args.plan.now, vote_ready c.args.plan.now c.in-Vote.from c.in-Vote.to m.second c.in-Vote.vote c.args.self.now (along (λ s a content. IsTaken c.args.plan.now s a m.second content c.args.self.now) m.sender (actors.Core c.in-Vote.from) m.addressee (actors.Core c.in-Vote.to) m.content (contents.Synod c.in-Vote.vote) says.0 says.1 says.2 taken))

pub returns-in-Vote-clause-ok : goal.returns-in-Vote-clause-ok
returns-in-Vote-clause-ok g c =
    let m = lent_message c.in-Some.message in
    let at : slice_get c.args.self.now.wire c.args.number ≡ Some m = ap (λ (n : NodesState). slice_get n.wire c.args.number) (sym c.self.view_is) ∙ sym c.get.ensures ∙ ap (option_map lent_message) c.in-Some.is in
    let says = subst (λ l. Says m.sender m.addressee m.content l) (sym c.letter_of.ensures ∙ c.in-Vote.is) (letter_says m.sender m.addressee m.content) in
    IfOk-weaker c.take.result _ _ (λ (outcome : Outcome) was. happened_taken g.C.Compress.image c.args.plan.now c.args.number c.args.self.now c.take.new.self outcome m at
    (along (λ s a content. WasTaken g.C.Compress.image c.args.plan.now s a m.second content c.args.self.now c.take.new.self outcome) (actors.Core c.in-Vote.from) m.sender (actors.Core c.in-Vote.to) m.addressee (contents.Synod c.in-Vote.vote) m.content (sym says.0) (sym says.1) (sym says.2) (was c.args.plan.now))) c.take.ensures.ok

pub returns-in-Vote-clause-err : goal.returns-in-Vote-clause-err
returns-in-Vote-clause-err g c = on_err_weaker c.take.result (λ still. still c.args.plan.now) c.take.ensures.err

pub take-requires-in-ToCore-clause-ready : goal.take-requires-in-ToCore-clause-ready
take-requires-in-ToCore-clause-ready g c =
    let m = lent_message c.in-Some.message in
    let at : slice_get c.args.self.now.wire c.args.number ≡ Some m = ap (λ (n : NodesState). slice_get n.wire c.args.number) (sym c.self.view_is) ∙ sym c.get.ensures ∙ ap (option_map lent_message) c.in-Some.is in
    let taken = is_taken c.args.plan.now c.args.number c.args.self.now m c.requires at in
    let says = subst (λ l. Says m.sender m.addressee m.content l) (sym c.letter_of.ensures ∙ c.in-ToCore.is) (letter_says m.sender m.addressee m.content) in
    (c.args.plan.now, item_ready c.args.plan.now c.in-ToCore.from c.in-ToCore.to m.second c.in-ToCore.item c.args.self.now (along (λ s a content. IsTaken c.args.plan.now s a m.second content c.args.self.now) m.sender (actors.Aggregator c.in-ToCore.from) m.addressee (actors.Core c.in-ToCore.to) m.content (contents.Submission c.in-ToCore.item) says.0 says.1 says.2 taken))

pub returns-in-ToCore-clause-ok : goal.returns-in-ToCore-clause-ok
returns-in-ToCore-clause-ok g c =
    let m = lent_message c.in-Some.message in
    let at : slice_get c.args.self.now.wire c.args.number ≡ Some m = ap (λ (n : NodesState). slice_get n.wire c.args.number) (sym c.self.view_is) ∙ sym c.get.ensures ∙ ap (option_map lent_message) c.in-Some.is in
    let says = subst (λ l. Says m.sender m.addressee m.content l) (sym c.letter_of.ensures ∙ c.in-ToCore.is) (letter_says m.sender m.addressee m.content) in
    IfOk-weaker c.take-in-ToCore.result _ _ (λ (outcome : Outcome) was. happened_taken g.C.Compress.image c.args.plan.now c.args.number c.args.self.now c.take-in-ToCore.new.self outcome m at
    (along (λ s a content. WasTaken g.C.Compress.image c.args.plan.now s a m.second content c.args.self.now c.take-in-ToCore.new.self outcome) (actors.Aggregator c.in-ToCore.from) m.sender (actors.Core c.in-ToCore.to) m.addressee (contents.Submission c.in-ToCore.item) m.content (sym says.0) (sym says.1) (sym says.2) (was c.args.plan.now))) c.take-in-ToCore.ensures.ok

pub returns-in-ToCore-clause-err : goal.returns-in-ToCore-clause-err
returns-in-ToCore-clause-err g c = on_err_weaker c.take-in-ToCore.result (λ still. still c.args.plan.now) c.take-in-ToCore.ensures.err

pub item_to_aggregator-requires : goal.item_to_aggregator-requires
item_to_aggregator-requires g c =
    let m = lent_message c.in-Some.message in
    let at : slice_get c.args.self.now.wire c.args.number ≡ Some m = ap (λ (n : NodesState). slice_get n.wire c.args.number) (sym c.self.view_is) ∙ sym c.get.ensures ∙ ap (option_map lent_message) c.in-Some.is in
    let taken = is_taken c.args.plan.now c.args.number c.args.self.now m c.requires at in
    let says = subst (λ l. Says m.sender m.addressee m.content l) (sym c.letter_of.ensures ∙ c.in-ToAggregator.is) (letter_says m.sender m.addressee m.content) in
    along (λ s a content. IsTaken c.args.plan.now s a m.second content c.args.self.now) m.sender (actors.Aggregator c.in-ToAggregator.from) m.addressee (actors.Aggregator c.in-ToAggregator.to) m.content (contents.Submission c.in-ToAggregator.item) says.0 says.1 says.2 taken

pub returns-in-ToAggregator-clause-ok : goal.returns-in-ToAggregator-clause-ok
returns-in-ToAggregator-clause-ok g c =
    let m = lent_message c.in-Some.message in
    let at : slice_get c.args.self.now.wire c.args.number ≡ Some m = ap (λ (n : NodesState). slice_get n.wire c.args.number) (sym c.self.view_is) ∙ sym c.get.ensures ∙ ap (option_map lent_message) c.in-Some.is in
    let says = subst (λ l. Says m.sender m.addressee m.content l) (sym c.letter_of.ensures ∙ c.in-ToAggregator.is) (letter_says m.sender m.addressee m.content) in
    IfOk-weaker c.item_to_aggregator.result _ _ (λ (outcome : Outcome) was. happened_taken g.C.Compress.image c.args.plan.now c.args.number c.args.self.now c.item_to_aggregator.new.self outcome m at
    (along (λ s a content. WasTaken g.C.Compress.image c.args.plan.now s a m.second content c.args.self.now c.item_to_aggregator.new.self outcome) (actors.Aggregator c.in-ToAggregator.from) m.sender (actors.Aggregator c.in-ToAggregator.to) m.addressee (contents.Submission c.in-ToAggregator.item) m.content (sym says.0) (sym says.1) (sym says.2) was)) c.item_to_aggregator.ensures.ok

pub response-requires : goal.response-requires
response-requires g c =
    let m = lent_message c.in-Some.message in
    let at : slice_get c.args.self.now.wire c.args.number ≡ Some m = ap (λ (n : NodesState). slice_get n.wire c.args.number) (sym c.self.view_is) ∙ sym c.get.ensures ∙ ap (option_map lent_message) c.in-Some.is in
    let taken = is_taken c.args.plan.now c.args.number c.args.self.now m c.requires at in
    let says = subst (λ l. Says m.sender m.addressee m.content l) (sym c.letter_of.ensures ∙ c.in-Response.is) (letter_says m.sender m.addressee m.content) in
    (m, says.1.0, at, says.1.1, along (λ s a content. IsTaken c.args.plan.now s a m.second content c.args.self.now) m.sender m.sender m.addressee (actors.Aggregator c.in-Response.to) m.content (contents.Response says.1.0) refl says.0 says.1.1 taken)

pub returns-in-Response-clause-ok : goal.returns-in-Response-clause-ok
returns-in-Response-clause-ok g c =
    let m = lent_message c.in-Some.message in
    let at : slice_get c.args.self.now.wire c.args.number ≡ Some m = ap (λ (n : NodesState). slice_get n.wire c.args.number) (sym c.self.view_is) ∙ sym c.get.ensures ∙ ap (option_map lent_message) c.in-Some.is in
    let says = subst (λ l. Says m.sender m.addressee m.content l) (sym c.letter_of.ensures ∙ c.in-Response.is) (letter_says m.sender m.addressee m.content) in
    IfOk-weaker c.response.result _ _ (λ (outcome : Outcome) was. happened_taken g.C.Compress.image c.args.plan.now c.args.number c.args.self.now c.response.new.self outcome m at
    (along (λ s a content. WasTaken g.C.Compress.image c.args.plan.now s a m.second content c.args.self.now c.response.new.self outcome) m.sender m.sender (actors.Aggregator c.in-Response.to) m.addressee (contents.Response says.1.0) m.content refl (sym says.0) (sym says.1.1) (was m says.1.0 at says.1.1))) c.response.ensures.ok

pub returns-in-None-clause-ok : goal.returns-in-None-clause-ok
returns-in-None-clause-ok g c =
    let m = lent_message c.in-Some.message in
    let at : slice_get c.args.self.now.wire c.args.number ≡ Some m = ap (λ (n : NodesState). slice_get n.wire c.args.number) (sym c.self.view_is) ∙ sym c.get.ensures ∙ ap (option_map lent_message) c.in-Some.is in
    let taken = is_taken c.args.plan.now c.args.number c.args.self.now m c.requires at in
    let says = subst (λ l. Says m.sender m.addressee m.content l) (sym c.letter_of.ensures ∙ c.in-None.is) (letter_says m.sender m.addressee m.content) in
    absurd (says c.args.plan.now taken.sent)
