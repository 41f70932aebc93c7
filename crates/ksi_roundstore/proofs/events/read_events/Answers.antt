use Rattle.std.proofs.Common.{◌≡◌, ◌++◌, List, Option, IfSome, sym, subst, ◌∙◌, ◌==◌, ℕ, IfNone, ap}
use Rattle.std.specs.List.{AllByRecursion}
use Rattle.ksi_aggregator.specs.declared.event.RoundEvent.{RoundEvent}
use Rattle.ksi_roundstore.specs.Texts.{lines_of}
use Rattle.ksi_roundstore.specs.Written.{IsReadAs, IsWritten}
use Rattle.std.proofs.lemmas.Bool.{false≢true}
use Rattle.ksi_schedule.specs.Printed.{line_of}
use Rattle.ksi_wire.specs.RoundLines.{round_words}
use Rattle.ksi_roundstore.proofs.ReadAs.{line_more, written_more}
use Rattle.ksi_roundstore.proofs.Unread.{lines_behind, no_event, no_feed, on_none}
use Rattle.ksi_roundstore.proofs.events.read_events.Goals as goal

pub reading-preserved : goal.reading-preserved
reading-preserved c =
    let plan = c.args.plan.now in
    let me = c.args.me in
    let line = c.in-Some.line.now in
    let behind = c.in-Some.behind.now in
    let list = c.reading.events.items in
    let event = c.in-Some-2.event in
    let read : IsReadAs plan me line event = subst (λ (found : Option RoundEvent). IfSome found (IsReadAs plan me line)) c.in-Some-2.is c.in_ok-event.ensures.read in
    let items = c.in_ok-push-in-Some-2.ensures.items in
    record {
      text = subst (λ (l : List RoundEvent). c.args.text.now ≡ lines_of l ++ behind) (sym items) (line_more c.args.text.now c.reading.rest.now line behind list event c.reading.invariant.text c.in-Some.ensures.text read.text);
      written = subst (λ (l : List RoundEvent). AllByRecursion (IsWritten plan me) l) (sym items) (written_more (IsWritten plan me) list event c.reading.invariant.written (read.written c.in-Some.ensures.line));
    }

pub returns-in-None-clause-none : goal.returns-in-None-clause-none
returns-in-None-clause-none c = λ are.
    let plan = c.args.plan.now in
    let me = c.args.me in
    let line = c.in-Some.line.now in
    let none : (event : RoundEvent) → IsWritten plan me event → line ≡ line_of (round_words event) → ⊥ =
    subst (λ (found : Option RoundEvent). IfNone found ((event : RoundEvent) → IsWritten plan me event → line ≡ line_of (round_words event) → ⊥)) c.in-None.is c.in_ok-event.ensures.none in
    no_event plan me c.reading.rest.now line c.in-Some.behind.now c.in-Some.ensures.text c.in-Some.ensures.line none
    (lines_behind plan me c.reading.events.items are.list c.reading.rest.now c.reading.invariant.written are.written (sym are.text_is ∙ c.reading.invariant.text))

pub returns-else-is_empty-clause-none : goal.returns-else-is_empty-clause-none
returns-else-is_empty-clause-none c = λ are.
    let plan = c.args.plan.now in
    let me = c.args.me in
    let rest = c.reading.rest.now in
    no_feed plan me rest (on_none c.next_line.result c.next_line.ensures.none c.in_default.not-Some) (λ none. absurd (false≢true (c.if-is_empty.ensures ∙ ap (λ (n : ℕ). n == 0) none)))
    (lines_behind plan me c.reading.events.items are.list rest c.reading.invariant.written are.written (sym are.text_is ∙ c.reading.invariant.text))
