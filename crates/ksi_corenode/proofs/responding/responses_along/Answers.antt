use Rattle.std.proofs.Common.{◌∙◌, ◌+◌, ◌++◌, List, drop, get_or, ap}
use Rattle.std.proofs.lemmas.Option.{slice_get-get_or}
use Rattle.ksi_aggtree.specs.declared.entries.Entry.{Entry}
use Rattle.ksi_aggtree.specs.declared.entries.Origin.TheVariants as origins
use Rattle.ksi_aggtree.specs.Rounds.{no_item}
use Rattle.ksi_aggtree.specs.Entries.{items_of}
use Rattle.ksi_corenode.specs.declared.step.Send.{Send}
use Rattle.ksi_corenode.specs.Rows.{responses_from, above_item}
use Rattle.ksi_corenode.proofs.Responses.{responses_later}
use Rattle.ksi_corenode.proofs.responding.responses_along.Goals as goal

no_entry : Entry
no_entry = record { origin = origins.Request 0; item = no_item }

pub answering-preserved : goal.answering-preserved
answering-preserved g c = λ seconds second path.
    let entries = c.args.entries.now in
    let k = c.answering.k in
    let above = above_item g.C.Compress.image seconds second c.args.root.now (items_of entries) in
    let entry = get_or entries k no_entry in
    let is = slice_get-get_or entries k no_entry c.answering-test.true in
    ap (λ (sends : List Send). sends ++ responses_from above (k + 1) (drop (k + 1) entries)) (c.in_ok-put_response.ensures entry seconds second is path)
    ∙ responses_later above c.answering.sends.items entries k entry is
    ∙ c.answering.invariant seconds second path
