use Rattle.std.proofs.Common.{◌≡◌, List, map, sym, subst}
use Rattle.ksi_aggtree.specs.declared.item.Item.{Item}
use Rattle.ksi_calendar.specs.Calendar.{Seconds}
use Rattle.ksi_journal.specs.Calendar.{calendar_of as kept_calendar}
use Rattle.ksi_journal.specs.Journal.{items_at}
use Rattle.ksi_verifier.specs.Leading.{all_links}
use Rattle.ksi_verifier.specs.Lent.{calendar_of}
use Rattle.ksi_auditor.specs.Audit.{laid_over}
use Rattle.ksi_auditor.specs.declared.answer.Audit.{Audit}
use Rattle.ksi_auditor.specs.Shown.{HasClash}
use Rattle.ksi_auditor.proofs.Chaining.{ok_goes_on, err_has}
use Rattle.ksi_auditor.proofs.Keeping.{KeptItems, items_kept, item_level}
use Rattle.ksi_auditor.proofs.auditing.lay_journal.Goals as goal

pub lay_beside-requires-clause-round : goal.lay_beside-requires-clause-round
lay_beside-requires-clause-round g c =
    let image = g.C.Compress.image in
    let kept = subst (KeptItems image) (sym c.items-items.ensures) (items_kept image c.args.journal.now c.args.second c.requires.journal) in
    record { few = kept.few; low = λ k. item_level c.items-items.result.now k kept.each }

pub returns-clause-audit : goal.returns-clause-audit
returns-clause-audit g c =
    let links = all_links (map g.T.LaidChain.plain c.args.chains.now) in
    let over : Seconds → List Item → Audit = λ seconds items. laid_over g.C.Compress.image seconds items links c.args.hash.now c.args.second (calendar_of c.args.calendar.now) in
    let same : over c.calendar.result.now c.items-items.result.now ≡ over (kept_calendar c.args.journal.now) (items_at c.args.journal.now c.args.second) = λ i. over (c.calendar.ensures i) (c.items-items.ensures i) in
    ok_goes_on c.lay_beside.result _ _ c.lay_beside.ensures.audit same

pub returns-clause-memory : goal.returns-clause-memory
returns-clause-memory g c =
    let links = all_links (map g.T.LaidChain.plain c.args.chains.now) in
    let over : Seconds → List Item → Audit = λ seconds items. laid_over g.C.Compress.image seconds items links c.args.hash.now c.args.second (calendar_of c.args.calendar.now) in
    let same : over c.calendar.result.now c.items-items.result.now ≡ over (kept_calendar c.args.journal.now) (items_at c.args.journal.now c.args.second) = λ i. over (c.calendar.ensures i) (c.items-items.ensures i) in
    err_has c.lay_beside.result c.lay_beside.ensures.memory (subst HasClash same)
