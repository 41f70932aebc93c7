use Rattle.std.proofs.Common.{◌≡◌, ◌&&◌, false, leb, length, ◌∙◌, sym, ap, refl, subst, arith, Result}
use Rattle.std.specs.Str.{bytes_eq}
use Rattle.std.proofs.lemmas.Bool.{lt-leb}
use Rattle.ksi_schedule.specs.declared.fault.LineFault.{LineFault}
use Rattle.ksi_schedule.specs.Events.{History}
use Rattle.ksi_schedule.specs.Plans.{PlanState}
use Rattle.ksi_schedule.specs.Words.{kind_at}
use Rattle.ksi_schedule.specs.Forms.{event_kinds, aggregator_line}
use Rattle.ksi_schedule.specs.Members.{members_name}
use Rattle.ksi_schedule.specs.Lines.{is_empty, takes_members}
use Rattle.ksi_schedule.specs.Reading.{words_left, Goes}
use Rattle.ksi_schedule.proofs.Taking.{to_members, to_event, some_there, first_false, second_false, refused}
use Rattle.ksi_schedule.proofs.reading.take_line.Goals as goal
use Rattle.ksi_schedule.proofs.reading.take_line.Goals.{else-is-via-then-is+else-is_empty, else-is-via-else-is, else-is-2-via-then-is-2+else-takes_members, else-is-2-via-else-is-2}

pub returns-then-takes_members-clause-read : goal.returns-then-takes_members-clause-read
returns-then-takes_members-clause-read c =
    let room : leb 1000000 (length c.args.schedule.now.events) ≡ false = lt-leb _ _ (omega (arith, ap length c.events.ensures.events)) in
    let other : (bytes_eq c.cut.result.0.now (aggregator_line c.args.version).name && is_empty c.args.schedule.now.events) ≡ false = elim c.else-is.branch [
      | else-is-via-then-is+else-is_empty w ↦ second_false _ _ (some_there c.args.schedule.now.events w.events-then-is.result.now w.is_empty.result w.is_empty.ensures w.if-is_empty.false w.events-then-is.ensures.events)
      | else-is-via-else-is w ↦ first_false _ _ (sym c.is.ensures ∙ w.if-is.false)
    ] in
    subst (λ (r : Result History LineFault). Goes r c.take_members.new.schedule c.take_members.result)
    (sym (to_members c.args.version c.args.schedule.now c.cut.result.0.now (words_left c.cut.result.1) _ (c.cut.ensures.words refl) room other (sym c.is-2.ensures ∙ c.if-is-2.true) (sym c.takes_members.ensures ∙ c.if-takes_members.true)))
    c.take_members.ensures.read

pub returns-in-Err-event-clause-read : goal.returns-in-Err-event-clause-read
returns-in-Err-event-clause-read c =
    let room : leb 1000000 (length c.args.schedule.now.events) ≡ false = lt-leb _ _ (omega (arith, ap length c.events.ensures.events)) in
    let other : (bytes_eq c.cut.result.0.now (aggregator_line c.args.version).name && is_empty c.args.schedule.now.events) ≡ false = elim c.else-is.branch [
      | else-is-via-then-is+else-is_empty w ↦ second_false _ _ (some_there c.args.schedule.now.events w.events-then-is.result.now w.is_empty.result w.is_empty.ensures w.if-is_empty.false w.events-then-is.ensures.events)
      | else-is-via-else-is w ↦ first_false _ _ (sym c.is.ensures ∙ w.if-is.false)
    ] in
    let quiet : (bytes_eq c.cut.result.0.now members_name && takes_members c.args.version c.args.schedule.now) ≡ false = elim c.else-is-2.branch [
      | else-is-2-via-then-is-2+else-takes_members w ↦ second_false _ _ (sym w.takes_members.ensures ∙ w.if-takes_members.false)
      | else-is-2-via-else-is-2 w ↦ first_false _ _ (sym c.is-2.ensures ∙ w.if-is-2.false)
    ] in
    to_event c.args.version c.args.schedule.now c.cut.result.0.now (words_left c.cut.result.1) _ (c.cut.ensures.words refl) room other quiet
    ∙ refused _ _ c.in-Err-event.fault (c.in-Err-event.ensures.value ∙ ap (λ (plan : PlanState). kind_at plan (event_kinds c.args.version) c.cut.result.0.now (words_left c.cut.result.1)) c.plan-2.ensures.plan)
