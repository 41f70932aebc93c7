use Rattle.std.proofs.Common.{◌≡◌, List, ℕ, [], sym, ap, ◌∙◌}
use Rattle.ksi_split.specs.declared.tree_link.TreeLink.{TreeLink}
use Rattle.ksi_calendar.specs.Calendar.{calendar_leaf, calendar_root}
use Rattle.ksi_calendar.specs.Covered.{covered_path}
use Rattle.ksi_journal.specs.Journal.{root_at}
use Rattle.ksi_signature.specs.Values.{Calendar, Publishing}
use Rattle.ksi_calendar_extender.specs.Kept.{journal_of}
use Rattle.ksi_calendar_extender.proofs.Rooted.{within}
use Rattle.ksi_calendar_extender.proofs.Steps.{hash_is}
use Rattle.ksi_calendar_extender.proofs.extending.proof_to.Goals as goal

-- a record without references
abbrev record_with : ℕ → List ℕ → Publishing
record_with time hash = record { time = time; hash = hash; references = []; repositories = [] }

abbrev chain_with : ℕ → ℕ → List ℕ → List (TreeLink (List ℕ)) → Calendar
chain_with p t input links = record { publication = p; time = t; input = input; links = links }

pub chain_to-requires-clause-covered : goal.chain_to-requires-clause-covered
chain_to-requires-clause-covered g c = (within c.args.calendar.now c.args.p c.requires.covered).1

pub returns-clause-chain : goal.returns-clause-chain
returns-clause-chain g c =
    let image = g.C.Compress.image in
    let seconds = c.args.calendar.now in
    let t = c.args.chains.now.time in
    let p = c.args.p in
    let links : c.from_vec.result ≡ covered_path image (root_at (journal_of seconds)) seconds.start t p =
    c.from_vec.ensures ∙ c.into_vec.ensures ∙ c.in_ok-links.ensures.links
    ∙ c.one_journal.ensures.path image seconds t p c.requires.covered in
    ap (λ (input : List ℕ). chain_with p t input c.from_vec.result) (sym c.requires.root) ∙ ap (chain_with p t _) links

pub returns-clause-published : goal.returns-clause-published
returns-clause-published g c =
    let image = g.C.Compress.image in
    let seconds = c.args.calendar.now in
    let t = c.args.chains.now.time in
    let p = c.args.p in
    let leaf = c.one_journal.ensures.leaves seconds p t c.requires.covered c.requires.to ∙ c.requires.root in
    let hash = hash_is image seconds t p c.args.chains.now.node.imprint c.climb_calendar-root.result c.in_ok-links.links c.as_slice.result.now
    (c.one_climb.ensures.value image (calendar_leaf seconds t) (calendar_root image seconds p) c.in_ok-links.links).0
    c.in_ok-links.ensures.climbs leaf c.as_slice.ensures c.climb_calendar-root.ensures.value in
    c.record.ensures ∙ ap (record_with p) (hash ∙ c.one_journal.ensures.root image seconds p c.requires.covered)
