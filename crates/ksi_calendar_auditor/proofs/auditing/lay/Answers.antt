use Rattle.std.proofs.Common.{rules, List, sym, subst, ap, ◌∙◌, length, ◌≤◌}
use Rattle.std.specs.List.{AllByRecursion}
use Rattle.ksi_imprint.specs.Imprints.{IsImprint}
use Rattle.ksi_aggtree.specs.declared.item.Item.{Item}
use Rattle.ksi_calendar.specs.Calendar.{calendar_leaf}
use Rattle.ksi_signature.specs.Seen.{seen}
use Rattle.ksi_journal.specs.Journal.{IsItem, items_at}
use Rattle.ksi_auditor.specs.Audit.{laid_if, links_of}
use Rattle.ksi_auditor.specs.Shown.{HasClash, Shows, Tells}
use Rattle.ksi_calendar_auditor.specs.Audited.{published}
use Rattle.ksi_calendar_auditor.proofs.Told.{ok_goes_on, ok_is}
use Rattle.ksi_calendar_auditor.proofs.auditing.lay.Goals as goal

pub lay_view-requires : goal.lay_view-requires
lay_view-requires g c =
    let image = g.C.Compress.image in
    let s = seen c.args.signature.now in
    let pairs = published image c.args.calendar.now c.args.p in
    let are = c.kept_items.ensures image c.args.items.now c.args.second (calendar_leaf c.args.calendar.now c.args.second) c.start-start.ensures.journal c.requires.root in
    record {
      levels = c.low_levels.ensures image s c.args.hash.now pairs c.args.second ((c.accepted.ensures image s c.args.hash.now pairs c.args.second).0 c.requires.passes);
      few = subst (λ (l : List Item). length l ≤ 65536) (sym c.items.ensures) are.few;
      items = subst (AllByRecursion IsItem) (sym c.items.ensures) are.each;
    }

pub returns-clause-answer : goal.returns-clause-answer
returns-clause-answer g c =
    let image = g.C.Compress.image in
    let s = seen c.args.signature.now in
    let over = λ (l : List Item). laid_if image c.args.calendar.now l (links_of s) c.args.hash.now c.args.second s.calendar in
    ok_goes_on c.lay_view.result _ _ c.lay_view.ensures.answer
    (ap over c.items.ensures ∙ sym (c.audit_is_laid.ensures.laid image c.args.calendar.now c.args.p c.args.items.now s c.args.hash.now c.args.second c.requires.covered c.requires.passes c.start-start.ensures.journal c.requires.root))

pub returns-clause-shown : goal.returns-clause-shown
returns-clause-shown g c =
    let image = g.C.Compress.image in
    let s = seen c.args.signature.now in
    let pairs = published image c.args.calendar.now c.args.p in
    let over = λ (l : List Item). laid_if image c.args.calendar.now l (links_of s) c.args.hash.now c.args.second s.calendar in
    let are = c.kept_items.ensures image c.args.items.now c.args.second (calendar_leaf c.args.calendar.now c.args.second) c.start-start.ensures.journal c.requires.root in
    let imprint = subst IsImprint c.bytes-bytes.ensures.value c.bytes-bytes.ensures.imprint in
    ok_is (Shows image c.args.items.now s c.args.hash.now) c.lay_view.result _ c.lay_view.ensures.answer
    (subst (λ (l : List Item). Shows image c.args.items.now s c.args.hash.now (over l)) (sym c.items.ensures)
    (c.laid_shows.ensures.shows image c.args.calendar.now (items_at c.args.items.now) s c.args.hash.now pairs c.args.second (search rules) c.requires.imprints imprint c.has_links.ensures c.requires.passes
    (c.audit_is_laid.ensures.leads image c.args.calendar.now c.args.p s c.args.hash.now c.args.second c.requires.covered c.requires.passes) are))

pub returns-clause-tells : goal.returns-clause-tells
returns-clause-tells g c =
    let image = g.C.Compress.image in
    let s = seen c.args.signature.now in
    let leads = c.audit_is_laid.ensures.leads image c.args.calendar.now c.args.p s c.args.hash.now c.args.second c.requires.covered c.requires.passes in
    ok_is Tells c.lay_view.result _ c.lay_view.ensures.answer
    (subst Tells (sym (ap (laid_if image c.args.calendar.now c.items.result.now (links_of s) c.args.hash.now c.args.second) leads.has_calendar))
    (c.decided_is_laid.ensures.tells image c.args.calendar.now c.items.result.now (links_of s) c.args.hash.now c.args.second leads.calendar))

pub returns-clause-missed : goal.returns-clause-missed
returns-clause-missed g c = λ missed.
    let image = g.C.Compress.image in
    let s = seen c.args.signature.now in
    let pairs = published image c.args.calendar.now c.args.p in
    let imprint = subst IsImprint c.bytes-bytes.ensures.value c.bytes-bytes.ensures.imprint in
    ok_is HasClash c.lay_view.result _ c.lay_view.ensures.answer
    (c.laid_shows.ensures.missed image c.args.calendar.now c.items.result.now s c.args.hash.now pairs c.args.second (search rules) c.requires.imprints imprint c.requires.passes
    (c.audit_is_laid.ensures.leads image c.args.calendar.now c.args.p s c.args.hash.now c.args.second c.requires.covered c.requires.passes) missed)
