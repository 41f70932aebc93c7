use Rattle.std.proofs.Common.{◌∷◌, ◌+◌, ◌∙◌, ℕ, List, drop, sym, ap, subst}
use Rattle.std.proofs.lemmas.List.{drop_more}
use Rattle.ksi_mirror.proofs.JournalOf.{Journaling, journaling_begins, journaling_goes_on, journaling_refused}
use Rattle.ksi_mirror.proofs.whole_journal.seconds.Goals as goal

pub journaling-init : goal.journaling-init
journaling-init g c =
    subst (λ roots. Journaling g.C.Compress.image c.args.mirror.now c.new-seconds.result.items roots c.lists-lists.result.now) (sym c.roots-roots.ensures.roots)
    (journaling_begins g.C.Compress.image c.args.mirror.now c.new-seconds.result.items c.lists-lists.result.now c.lists-lists.ensures.mirror c.new-seconds.ensures.items c.lists-lists.ensures.lists)

pub journaling-preserved : goal.journaling-preserved
journaling-preserved g c =
    let rest : List (ℕ × List ℕ) = drop (c.journaling.root-index + 1) c.roots-roots.result.now in
    let left = drop_more c.roots-roots.result.now c.journaling.root-index c.root-item.result c.journaling-test.true ∙ ap (λ (one : ℕ × List ℕ). one ∷ rest) (sym c.root-item.is) in
    journaling_goes_on g.C.Compress.image c.args.mirror.now c.journaling.seconds.items (drop c.journaling.root-index c.roots-roots.result.now) rest c.root-item.result c.journaling.lists.now c.journaling.invariant left
    c.lists_from-lists.result.now c.lists_from-lists.ensures.lists c.lists_from-lists.ensures.rise c.lists_from-lists.ensures.same c.in-Some.kept c.put.new.seconds.items (sym c.in_ok-kept.ensures ∙ c.in-Some.is) c.in_ok-put.ensures

pub returns-in_default-clause-refused : goal.returns-in_default-clause-refused
returns-in_default-clause-refused g c =
    let rest : List (ℕ × List ℕ) = drop (c.journaling.root-index + 1) c.roots-roots.result.now in
    let left = drop_more c.roots-roots.result.now c.journaling.root-index c.root-item.result c.journaling-test.true ∙ ap (λ (one : ℕ × List ℕ). one ∷ rest) (sym c.root-item.is) in
    journaling_refused g.C.Compress.image c.args.mirror.now c.journaling.seconds.items (drop c.journaling.root-index c.roots-roots.result.now) rest c.root-item.result c.journaling.lists.now c.journaling.invariant left
    c.lists_from-lists.result.now c.lists_from-lists.ensures.lists c.lists_from-lists.ensures.rise c.lists_from-lists.ensures.same (sym c.in_ok-kept.ensures ∙ c.in_default.is)
