-- What the answers of an audit show.
use Rattle.std.specs.Prelude.{◌≡◌, ◌⊎◌, ℕ, ◌-◌, ◌<◌, ◌≤◌, List, length, take, Option, Some, option_map, IsTrue}
use Rattle.std.specs.List.{AllByRecursion}
use Rattle.ksi_imprint.specs.Imprints.{IsClash, zero_imprint}
use Rattle.ksi_split.specs.declared.side.Side.{Side}
use Rattle.ksi_split.specs.Ways.{NamesSecond}
use Rattle.ksi_aggtree.specs.Climbing.{Climbs}
use Rattle.ksi_aggtree.specs.declared.chains.node.Node.{Node}
use Rattle.ksi_aggtree.specs.declared.item.Item.{Item}
use Rattle.ksi_aggtree.specs.Nodes.{node_of}
use Rattle.ksi_aggtree.specs.Paths.{item_way}
use Rattle.ksi_aggtree.specs.Rounds.{item_at, most_items}
use Rattle.ksi_beside.specs.Beside.{AreShort}
use Rattle.ksi_calendar.specs.Sides.{sides_from_top}
use Rattle.ksi_calendar.specs.Calendar.{Seconds, calendar_root, is_covered}
use Rattle.ksi_calendar.specs.Covered.{IsCovered, covered_root}
use Rattle.ksi_signature.specs.Kept.{IsLink}
use Rattle.ksi_signature.specs.Values.{Calendar}
use Rattle.ksi_signature.specs.declared.signature.Signature.{Signature}
use Rattle.ksi_verifier.specs.Chains.{at_level_zero}
use Rattle.ksi_verifier.specs.Verdict.{chain_root, verdict}
use Rattle.ksi_verifier.specs.declared.verdict.Verdict.TheVariants.{Accepted}
use Rattle.ksi_journal.specs.Journal.{Contents, IsItem, IsRootOf, root_at, items_at}
use Rattle.ksi_auditor.specs.declared.answer.Audit.{Audit}
use Rattle.ksi_auditor.specs.declared.answer.Audit.TheVariants.{Inside, Beneath, Clash, NotAccepted, BeforeStart, Undecided, NotDecided}
use Rattle.ksi_auditor.specs.Audit.{links_of, link_sides}

-- the links of its chains are such as are read: where the sibling of one is an imprint, it is one
abbrev pub HasLinks : Signature → Type 0
HasLinks signature = AllByRecursion (λ chain. AllByRecursion IsLink chain.links) signature.chains

-- the sides of the signature's calendar links name second t
pub record Names (signature : Signature) (t : ℕ) : Type 0 where
  pub calendar : Calendar
  pub has_calendar : signature.calendar ≡ Some calendar
  pub second : NamesSecond calendar.publication (sides_from_top calendar.links) t

abbrev pub imprint_at : (List ℕ → List ℕ) → List Item → List Side → Option (List ℕ)
imprint_at image items sides = option_map (λ node. node.imprint) (node_of image items sides)

-- the hash is a node of the tree of the second's items: the one that the sides of all aggregation links lead to
pub record IsInside (image : List ℕ → List ℕ) (items : List Item) (signature : Signature) (hash : List ℕ) (t : ℕ) (way : List Side) : Type 0 where
  pub second : Names signature t
  pub all : way ≡ link_sides signature
  pub node : imprint_at image items way ≡ Some hash

-- the lowest `links` links lead from the hash, at level 0, to an item of the second, and the sides of the other ones are
-- that item's way
pub record IsBeneath (image : List ℕ → List ℕ) (items : List Item) (signature : Signature) (hash : List ℕ) (t item links : ℕ) : Type 0 where
  pub second : Names signature t
  pub there : item < length items
  pub some : 1 ≤ links
  pub within : links ≤ length (links_of signature)
  pub top : Node
  pub climbs : Climbs image (at_level_zero hash) (take links (links_of signature)) top
  pub imprint : top.imprint ≡ (item_at items item).imprint
  pub way : take (length (links_of signature) - links) (link_sides signature) ≡ item_way items item

-- the signature's publication is decided: all seconds from the start to its time are kept, and its links lead to their root
pub record IsDecided (image : List ℕ → List ℕ) (journal : Contents) (signature : Signature) : Type 0 where
  pub calendar : Calendar
  pub has_calendar : signature.calendar ≡ Some calendar
  pub covered : IsCovered (root_at journal) journal.start calendar.publication
  pub root : chain_root image calendar ≡ covered_root image (root_at journal) journal.start calendar.publication

-- the signature's publication is that of the seconds: they cover its time, and its links lead to their root
pub record LeadsToRoot (image : List ℕ → List ℕ) (seconds : Seconds) (signature : Signature) : Type 0 where
  pub calendar : Calendar
  pub has_calendar : signature.calendar ≡ Some calendar
  pub covered : IsTrue (is_covered seconds calendar.publication)
  pub root : chain_root image calendar ≡ calendar_root image seconds calendar.publication

-- at most 65,536 items, as a journal may have them; this is the root of their tree, which is the zero imprint if and only
-- if there are none
pub record AreItemsOf (image : List ℕ → List ℕ) (items : List Item) (root : List ℕ) : Type 0 where
  pub few : length items ≤ most_items
  pub each : AllByRecursion IsItem items
  pub tree : IsRootOf image items root

abbrev pub IsShort : Audit → Type 0
IsShort (Clash clash) = AreShort clash
IsShort _ = Unit {0}

-- what an answer about an accepted signature, whose publication is decided, shows of the items of seconds
abbrev pub ShowsIn : (List ℕ → List ℕ) → (ℕ → List Item) → Signature → List ℕ → Audit → Type 0
ShowsIn image items signature hash (Inside t way) = IsInside image (items t) signature hash t way
ShowsIn image items signature hash (Beneath t item links) = IsBeneath image (items t) signature hash t item links
ShowsIn image items signature hash (Clash clash) = IsClash image clash
ShowsIn image items signature hash (NotAccepted refusal) = Unit {0}
ShowsIn image items signature hash (BeforeStart p) = Unit {0}
ShowsIn image items signature hash (Undecided second) = Unit {0}
ShowsIn image items signature hash (NotDecided p given kept) = Unit {0}

-- the same of those that a journal keeps
abbrev pub Shows : (List ℕ → List ℕ) → Contents → Signature → List ℕ → Audit → Type 0
Shows image journal signature hash answer = ShowsIn image (items_at journal) signature hash answer

-- the answer has the place of the hash, or a clash
abbrev pub Tells : Audit → Type 0
Tells (Inside t way) = Unit {0}
Tells (Beneath t item links) = Unit {0}
Tells (Clash clash) = Unit {0}
Tells (NotAccepted refusal) = ⊥
Tells (BeforeStart p) = ⊥
Tells (Undecided second) = ⊥
Tells (NotDecided p given kept) = ⊥

-- the answer is a clash
abbrev pub HasClash : Audit → Type 0
HasClash (Clash clash) = Unit {0}
HasClash _ = ⊥

-- no root is kept for the second: it is before the start, or its kept root is the zero imprint
abbrev pub IsMissed : Contents → ℕ → Type 0
IsMissed journal t = (t < journal.start) ⊎ (root_at journal t ≡ Some zero_imprint)

-- a signature for such a second, which is accepted and whose publication is decided, is answered by a clash
abbrev pub MissedIsClash : (List ℕ → List ℕ) → Contents → Signature → (hash : List ℕ) → (publications : List (ℕ × List ℕ)) → Audit → Type 0
MissedIsClash image journal signature hash publications answer = (t : ℕ) → verdict image signature hash publications ≡ Accepted t
    → IsDecided image journal signature → IsMissed journal t → HasClash answer
