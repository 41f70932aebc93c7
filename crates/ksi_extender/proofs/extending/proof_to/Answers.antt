use Rattle.std.proofs.Common.{◌≡◌, ◌+◌, List, ℕ, [], length, sym, ap, ◌∙◌, arith}
use Rattle.ksi_split.specs.declared.tree_link.TreeLink.{TreeLink}
use Rattle.ksi_calendar.specs.Calendar.{Seconds, calendar_leaf, calendar_root, calendar_path}
use Rattle.ksi_calendar.specs.Covered.{covered_path}
use Rattle.ksi_journal.specs.Journal.{root_at}
use Rattle.ksi_journal.specs.Calendar.{calendar_of}
use Rattle.ksi_signature.specs.Values.{Calendar, Publishing}
use Rattle.ksi_extender.proofs.Steps.{starts, hash_is}
use Rattle.ksi_extender.proofs.extending.proof_to.Goals as goal

-- a record without references
abbrev record_with : ℕ → List ℕ → Publishing
record_with time hash = record { time = time; hash = hash; references = []; repositories = [] }

abbrev chain_with : ℕ → ℕ → List ℕ → List (TreeLink (List ℕ)) → Calendar
chain_with p t input links = record { publication = p; time = t; input = input; links = links }

pub chain_to_counted-requires-clause-covered : goal.chain_to_counted-requires-clause-covered
chain_to_counted-requires-clause-covered g c =
    let journal = c.args.journal.now in
    let within = ((c.calendar_is_covered.ensures.within g.C.Compress.image journal c.args.p c.requires.journal).1 c.requires.covered).1 in
    let start = ap (λ (s : Seconds). s.start) c.calendar.ensures in
    let count = ap (λ (s : Seconds). length s.roots) c.calendar.ensures in
    omega (arith, within, start, count, starts journal)

pub returns-clause-chain : goal.returns-clause-chain
returns-clause-chain g c =
    let image = g.C.Compress.image in
    let journal = c.args.journal.now in
    let t = c.args.chains.now.time in
    let p = c.args.p in
    let links : c.from_vec.result ≡ covered_path image (root_at journal) journal.start t p =
    c.from_vec.ensures ∙ c.into_vec.ensures ∙ c.in_ok-links.ensures.links
    ∙ ap (λ (s : Seconds). calendar_path image s t p) c.calendar.ensures
    ∙ c.calendar_is_covered.ensures.path image journal t p c.requires.journal c.requires.covered in
    ap (λ (input : List ℕ). chain_with p t input c.from_vec.result) (sym c.requires.root) ∙ ap (chain_with p t _) links

pub returns-clause-published : goal.returns-clause-published
returns-clause-published g c =
    let image = g.C.Compress.image in
    let journal = c.args.journal.now in
    let t = c.args.chains.now.time in
    let p = c.args.p in
    let seconds = c.calendar.result.now in
    let within = ((c.calendar_is_covered.ensures.within image journal p c.requires.journal).1 c.requires.covered).1 in
    let leaf = c.calendar_is_covered.ensures.leaves image journal t c.requires.journal (omega (arith, within, c.requires.to)) ∙ c.requires.root in
    let hash = hash_is image seconds (calendar_of journal) t p c.args.chains.now.node.imprint c.climb_calendar-root.result c.in_ok-links.links c.as_slice.result.now
    (c.one_climb.ensures.value image (calendar_leaf seconds t) (calendar_root image seconds p) c.in_ok-links.links).0
    c.calendar.ensures c.in_ok-links.ensures.climbs leaf c.as_slice.ensures c.climb_calendar-root.ensures.value in
    c.record.ensures ∙ ap (record_with p) (hash ∙ c.calendar_is_covered.ensures.root image journal p c.requires.journal c.requires.covered)
