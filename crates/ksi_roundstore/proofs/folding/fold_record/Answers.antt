use Rattle.std.proofs.Common.{◌≡◌, ◌∙◌, ℕ, Bool, IfNone, IfSome, true, ap, subst, sym}
use Rattle.std.specs.List.{AllByRecursion}
use Rattle.ksi_wire.specs.RoundLines.{FitsRound}
use Rattle.ksi_roundstore.specs.Facts.{IsMade}
use Rattle.ksi_roundstore.specs.Texts.{lines_of}
use Rattle.ksi_roundstore.specs.Written.{AreLinesIn, IsWritten}
use Rattle.ksi_roundstore.proofs.Made.{took_all}
use Rattle.ksi_roundstore.proofs.Untaken.{not_made, not_read}
use Rattle.ksi_roundstore.proofs.ReadAs.{all_fit}
use Rattle.ksi_roundstore.proofs.folding.fold_record.Goals as goal

pub take_all-requires : goal.take_all-requires
take_all-requires g c =
    let plan = c.args.plan.now in
    let me = c.me.result in
    let items = c.in-Some.events.items in
    let written : AllByRecursion (IsWritten plan me) items =
    subst (λ found. IfSome found (λ events. AllByRecursion (IsWritten plan me) events.items)) c.in-Some.is c.in_ok-read_events.ensures.written in
    record { fit = subst (AllByRecursion FitsRound) (sym c.deref-then-is_fact.ensures.value) (all_fit plan me items written) }

pub returns-then-is_fact : goal.returns-then-is_fact
returns-then-is_fact g c =
    let plan = c.args.plan.now in
    let old = c.args.aggregator.now in
    let items = c.in-Some.events.items in
    let list = c.deref-then-is_fact.result.now in
    let written : AllByRecursion (IsWritten plan c.me.result) items =
    subst (λ found. IfSome found (λ events. AllByRecursion (IsWritten plan c.me.result) events.items)) c.in-Some.is c.in_ok-read_events.ensures.written in
    let text : c.args.content.now ≡ lines_of items = subst (λ found. IfSome found (λ events. c.args.content.now ≡ lines_of events.items)) c.in-Some.is c.in_ok-read_events.ensures.lines in
    let same : items ≡ list = sym c.deref-then-is_fact.ensures.value in
    let made : IsMade c.deref.result.now true = subst (λ (b : Bool). IsMade c.deref.result.now b) c.if-is_fact.true c.is_fact.ensures in
    took_all g.C.Compress.image plan c.args.content.now old c.take_all.new.aggregator list c.take_all.result
    (text ∙ ap lines_of same)
    (subst (λ (n : ℕ). AllByRecursion (IsWritten plan n) list) c.me.ensures (subst (λ l. AllByRecursion (IsWritten plan c.me.result) l) same written))
    (subst (λ l. IsMade l true) (c.deref.ensures.value ∙ same) made)
    c.take_all.ensures.me c.take_all.ensures.taken

pub returns-in-None : goal.returns-in-None
returns-in-None g c = λ me facts lawful of.
    not_read c.args.plan.now me c.me.result facts c.args.content.now (c.me.ensures ∙ of.mine)
    (subst (λ found. IfNone found (AreLinesIn c.args.plan.now c.me.result c.args.content.now → ⊥)) c.in-None.is c.in_ok-read_events.ensures.none)

pub returns : goal.returns
returns g c = λ me facts lawful of.
    let plan = c.args.plan.now in
    let items = c.in-Some.events.items in
    let list = c.deref.result.now in
    let written : AllByRecursion (IsWritten plan c.me.result) items =
    subst (λ found. IfSome found (λ events. AllByRecursion (IsWritten plan c.me.result) events.items)) c.in-Some.is c.in_ok-read_events.ensures.written in
    let text : c.args.content.now ≡ lines_of items = subst (λ found. IfSome found (λ events. c.args.content.now ≡ lines_of events.items)) c.in-Some.is c.in_ok-read_events.ensures.lines in
    let same : items ≡ list = sym c.deref.ensures.value in
    not_made g.C.Compress.image plan me facts c.args.content.now list (text ∙ ap lines_of same)
    (subst (λ (n : ℕ). AllByRecursion (IsWritten plan n) list) (c.me.ensures ∙ of.mine) (subst (λ l. AllByRecursion (IsWritten plan c.me.result) l) same written))
    (subst (λ (b : Bool). IsMade list b) c.if-is_fact.false c.is_fact.ensures)
