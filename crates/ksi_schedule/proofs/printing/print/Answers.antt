use Rattle.std.proofs.Common.{◌≡◌, ◌++◌, map, arith, ◌∙◌, sym, subst, List}
use Rattle.std.specs.List.{AllByRecursion}
use Rattle.ksi_schedule.specs.declared.event.Event.{Event}
use Rattle.ksi_schedule.specs.Pieces.{Text}
use Rattle.ksi_schedule.specs.Spelled.{IsScheduleText}
use Rattle.ksi_schedule.specs.Printed.{version_of, header_words, members_words, text_of_lines, parent_words, event_words, schedule_text, IsTyped}
use Rattle.ksi_schedule.proofs.Whole.{text_again}
use Rattle.ksi_schedule.proofs.Texts.{text_is}
use Rattle.ksi_schedule.proofs.printing.print.Goals as goal
use Rattle.ksi_schedule.proofs.printing.print.Goals.{After-from_vec}

text_told : (c : After-from_vec) → c.from_vec.result ≡ schedule_text c.args.schedule.now
text_told c =
    let header : c.put_header.new.text.items ≡ c.new-text.result.items ++ text_of_lines (header_words (version_of c.args.schedule.now) c.args.schedule.now.plan) = rw (c.version_of.ensures, c.plan.ensures.plan) at c.in_ok-put_header.ensures in
    let voters : c.put_voters.new.text.items ≡ c.put_header.new.text.items ++ text_of_lines (map members_words c.args.schedule.now.plan.voters) = rw (c.core_plan.ensures.plan, c.plan-2.ensures.plan) at c.in_ok-put_voters.ensures in
    let parents : c.put_parents.new.text.items ≡ c.put_voters.new.text.items ++ text_of_lines (parent_words 0 c.args.schedule.now.plan.parents) = grind arith in
    let events : c.put_events.new.text.items ≡ c.put_parents.new.text.items ++ text_of_lines (map event_words c.args.schedule.now.events) = grind arith in
    c.from_vec.ensures ∙ text_is c.args.schedule.now c.new-text.result.items c.put_header.new.text.items c.put_voters.new.text.items c.put_parents.new.text.items c.put_events.new.text.items
    c.new-text.ensures.items header voters parents events

pub returns-clause-text : goal.returns-clause-text
returns-clause-text c = text_told c

pub returns-clause-read_again : goal.returns-clause-read_again
returns-clause-read_again c =
    let typed : AllByRecursion IsTyped c.args.schedule.now.events = subst (λ (events : List Event). AllByRecursion IsTyped events) c.events.ensures.events c.in_ok-put_events.ensures.typed in
    subst (λ (text : Text). IsScheduleText text c.args.schedule.now) (sym (text_told c)) (text_again c.args.schedule.now c.plan.ensures.limits typed)
