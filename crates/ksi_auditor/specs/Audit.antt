-- What an audit answers.
use Rattle.std.specs.Prelude.{ℕ, ◌-◌, ◌==◌, nat_lt, List, [], ◌++◌, length, take, map, reverse, Option, Some, None, Result, Ok, Err, if◌then◌else◌}
use Rattle.std.specs.Result.{result_unwrap_or}
use Rattle.std.specs.Str.{bytes_eq}
use Rattle.ksi_split.specs.declared.side.Side.{Side}
use Rattle.ksi_split.specs.Parts.{second_at}
use Rattle.ksi_split.specs.declared.fault.ShapeFault.{ShapeFault}
use Rattle.ksi_split.specs.declared.fault.ShapeFault.TheVariants.{TooMany, TooFew}
use Rattle.ksi_aggtree.specs.declared.item.Item.{Item}
use Rattle.ksi_aggtree.specs.Nodes.{text_of}
use Rattle.ksi_aggtree.specs.Links.{PlainLink}
use Rattle.ksi_beside.specs.Beside.{Pair, rungs_from, calendar_rungs_from, pairs_below, differing}
use Rattle.ksi_calendar.specs.Calendar.{Seconds}
use Rattle.ksi_calendar.specs.Covered.{first_missing, covered_root}
use Rattle.ksi_signature.specs.Values.{Calendar}
use Rattle.ksi_signature.specs.declared.signature.Signature.{Signature}
use Rattle.ksi_verifier.specs.Chains.{plain_chains, at_level_zero}
use Rattle.ksi_verifier.specs.Leading.{all_links}
use Rattle.ksi_verifier.specs.Verdict.{chain_root, verdict}
use Rattle.ksi_verifier.specs.declared.refusal.Refusal.TheVariants.{NoCalendar}
use Rattle.ksi_verifier.specs.declared.verdict.Verdict.{Verdict}
use Rattle.ksi_verifier.specs.declared.verdict.Verdict.TheVariants.{Accepted, Refused}
use Rattle.ksi_journal.specs.Journal.{Contents, root_at, items_at}
use Rattle.ksi_journal.specs.Calendar.{calendar_of}
use Rattle.ksi_auditor.specs.declared.answer.Audit.{Audit}
use Rattle.ksi_auditor.specs.declared.answer.Audit.TheVariants.{Inside, Beneath, Clash, NotAccepted, BeforeStart, Undecided, NotDecided}
use Rattle.ksi_auditor.specs.Kept.{calendar_text}

-- the links of all aggregation chains of a signature, the lowest first
abbrev pub links_of : Signature → List PlainLink
links_of signature = all_links (plain_chains signature.chains)

-- the sides of links, from the top
abbrev pub sides_of : List PlainLink → List Side
sides_of links = reverse (map (λ link. link.side) links)

abbrev pub link_sides : Signature → List Side
link_sides signature = sides_of (links_of signature)

-- ---- the strings that are compared, from the top

-- each calendar link's string and that of the calendar of the seconds
abbrev pub calendar_pairs : (List ℕ → List ℕ) → Seconds → Calendar → List Pair
calendar_pairs image seconds calendar = pairs_below (calendar_text image seconds calendar.publication) [] (calendar_rungs_from image calendar.input calendar.links)

-- each aggregation link's string and that of the tree of the items, as far down as it has one: to the leaf of an item without a
-- name, or to the item below the leaf of a name
abbrev pub item_pairs : (List ℕ → List ℕ) → List Item → List PlainLink → List ℕ → List Pair
item_pairs image items links hash = pairs_below (text_of image items) [] (rungs_from image (at_level_zero hash) links)

-- ---- where the links end

-- the item, of this many, whose leaf the sides lead to, or pass if they are too many
abbrev pub item_by : ℕ → List Side → Result ℕ ShapeFault → ℕ
item_by count sides (Ok item) = item
item_by count sides (Err (TooMany place)) = result_unwrap_or (second_at (count - 1) (take place sides)) 0
item_by count sides (Err (TooFew rest)) = 0

abbrev pub item_named : ℕ → List Side → ℕ
item_named count sides = item_by count sides (second_at (count - 1) sides)

-- where all links have a string beside them, the sides lead to a node; else they come to an item, and links are left
abbrev pub ends : ℕ → ℕ → List Side → ℕ → Audit
ends t count sides passed =
    if passed == length sides then Inside t sides
    else Beneath t (item_named count (take passed sides)) (length sides - passed)

-- a first pair of different strings, or where the links end
abbrev pub found : ℕ → ℕ → List Side → ℕ → Option Pair → Audit
found t count sides passed (Some pair) = Clash (record { one = pair.0; two = pair.1 })
found t count sides passed None = ends t count sides passed

-- ---- the audit of the aggregation links and the calendar chain that a signature has

-- of links that lead up from a hash, beside the tree of items, where strings above were compared before
abbrev pub compared : (List ℕ → List ℕ) → List Item → List PlainLink → List ℕ → ℕ → List Pair → Audit
compared image items links hash t above =
    found t (length items) (sides_of links) (length (item_pairs image items links hash)) (differing (above ++ item_pairs image items links hash))

-- beside the calendar of seconds, and then beside the tree of the items of second t
abbrev pub laid_over : (List ℕ → List ℕ) → Seconds → List Item → List PlainLink → List ℕ → ℕ → Calendar → Audit
laid_over image seconds items links hash t calendar = compared image items links hash t (calendar_pairs image seconds calendar)

-- the same, if there is a calendar chain
abbrev pub laid_if : (List ℕ → List ℕ) → Seconds → List Item → List PlainLink → List ℕ → ℕ → Option Calendar → Audit
laid_if image seconds items links hash t None = NotAccepted NoCalendar
laid_if image seconds items links hash t (Some calendar) = laid_over image seconds items links hash t calendar

-- where the signature is accepted and its publication is decided
abbrev pub laid_beside : (List ℕ → List ℕ) → Contents → List PlainLink → List ℕ → ℕ → Calendar → Audit
laid_beside image journal links hash t calendar = laid_over image (calendar_of journal) (items_at journal t) links hash t calendar

abbrev pub decided : (List ℕ → List ℕ) → Contents → List PlainLink → List ℕ → ℕ → Calendar → Option ℕ → Audit
decided image journal links hash t calendar (Some second) = Undecided second
decided image journal links hash t calendar None =
    if bytes_eq (chain_root image calendar) (covered_root image (root_at journal) journal.start calendar.publication)
    then laid_beside image journal links hash t calendar
    else NotDecided calendar.publication (chain_root image calendar) (covered_root image (root_at journal) journal.start calendar.publication)

-- where the signature is accepted; it has a calendar chain
abbrev pub kept_or_not : (List ℕ → List ℕ) → Contents → List PlainLink → List ℕ → ℕ → Option Calendar → Audit
kept_or_not image journal links hash t None = NotAccepted NoCalendar
kept_or_not image journal links hash t (Some calendar) =
    if nat_lt calendar.publication journal.start
    then BeforeStart calendar.publication
    else decided image journal links hash t calendar (first_missing (root_at journal) journal.start calendar.publication)

abbrev pub accepted_or_not : (List ℕ → List ℕ) → Contents → List PlainLink → Option Calendar → List ℕ → Verdict → Audit
accepted_or_not image journal links calendar hash (Refused refusal) = NotAccepted refusal
accepted_or_not image journal links calendar hash (Accepted t) = kept_or_not image journal links hash t calendar

-- ---- the audit of a signature for a hash over a journal, with published times and roots

unfoldable pub audit : (List ℕ → List ℕ) → Contents → Signature → List ℕ → List (ℕ × List ℕ) → Audit
audit image journal signature hash publications =
    accepted_or_not image journal (links_of signature) signature.calendar hash (verdict image signature hash publications)
