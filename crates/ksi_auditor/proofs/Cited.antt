-- What the crates below say, for the proof that an answer shows what it says.
use Rattle.std.proofs.Common.{◌≡◌, ◌↔◌, ℕ, ◌+◌, ◌-◌, ◌%◌, ◌<◌, ◌≤◌, ◌⊎◌, Bool, true, List, length, Ok, Option, Some, None}
use Rattle.std.specs.Prelude.{IsTrue, IsSome}
use Rattle.std.specs.List.{AllByRecursion}
use Rattle.ksi_imprint.specs.Imprints.{IsClash}
use Rattle.ksi_split.specs.declared.side.Side.{Side}
use Rattle.ksi_split.specs.declared.tree_link.TreeLink.{TreeLink}
use Rattle.ksi_split.specs.Powers.{IsSplit, split_of}
use Rattle.ksi_split.specs.Parts.{Part, part_at, second_at}
use Rattle.ksi_split.specs.Trees.{climb_links}
use Rattle.ksi_split.specs.Ways.{IsWay, LeadsTo, NamesSecond, way_of}
use Rattle.ksi_aggtree.specs.Links.{PlainLink}
use Rattle.ksi_aggtree.specs.Climbing.{Climbs, climbed}
use Rattle.ksi_aggtree.specs.declared.chains.node.Node.{Node}
use Rattle.ksi_aggtree.specs.declared.item.Item.{Item}
use Rattle.ksi_aggtree.specs.Names.{IsName, meta_of}
use Rattle.ksi_aggtree.specs.Nodes.{LeadsBelow, node_of, parts_text, text_of}
use Rattle.ksi_aggtree.specs.Rounds.{as_node, leaf, item_at, named_text, tree_from}
use Rattle.ksi_beside.specs.Beside.{Rung, Pair, pairs_below, differing}
use Rattle.ksi_beside.specs.Standing.{Holds, IsTree, Walked}
use Rattle.ksi_calendar.specs.Climbing.{ClimbsCalendar, calendar_join}
use Rattle.ksi_calendar.specs.Calendar.{Seconds, calendar_leaf, calendar_tree, calendar_root, is_covered}
use Rattle.ksi_calendar.specs.Covered.{Roots, IsCovered, first_missing, covered_root, second_leaf}
use Rattle.ksi_signature.specs.declared.signature.Signature.{Signature}
use Rattle.ksi_verifier.specs.Accepted.{ChainsLead, IsAccepted}
use Rattle.ksi_verifier.specs.Chains.{PlainChain}
use Rattle.ksi_verifier.specs.Leading.{all_links}
use Rattle.ksi_verifier.specs.Verdict.{verdict}
use Rattle.ksi_verifier.specs.declared.verdict.Verdict.TheVariants.{Accepted}
use Rattle.ksi_journal.specs.Journal.{Contents, IsJournal, root_at}
use Rattle.ksi_journal.specs.Calendar.{calendar_of}

-- of trees, signatures and the calendar
pub record Laws : Type 0 where
  pub parts : (n : ℕ) (sides : List Side) (part : Part) → 0 < n → part_at 0 (record { first = 0; count = n }) sides ≡ Ok part → LeadsTo n sides part.first part.count
  pub split : (n k : ℕ) → 1 < n → IsSplit n k ↔ (k ≡ split_of n)
  pub second : (p t : ℕ) (sides : List Side) → (second_at p sides ≡ Ok t) ↔ NamesSecond p sides t
  pub calendar_one : (image : List ℕ → List ℕ) (seconds : Seconds) (lo : ℕ) → calendar_tree image seconds lo 1 ≡ calendar_leaf seconds lo
  pub calendar_cut : (image : List ℕ → List ℕ) (seconds : Seconds) (lo n k : ℕ) → IsSplit n k → calendar_tree image seconds lo n ≡ calendar_join image (calendar_tree image seconds lo k) (calendar_tree image seconds (lo + k) (n - k))
  pub climbs : (image : List ℕ → List ℕ) (start top : Node) (links : List PlainLink) → (climbed image 0 start links ≡ Ok top) ↔ Climbs image start links top
  pub calendar_climbs : (image : List ℕ → List ℕ) (start top : List ℕ) (links : List (TreeLink (List ℕ))) → ClimbsCalendar image start links top ↔ (top ≡ climb_links (calendar_join image) start links)
  pub lead : (image : List ℕ → List ℕ) (chains : List PlainChain) (start item : Node) → ChainsLead image start chains item → Climbs image start (all_links chains) item
  pub accepted : (image : List ℕ → List ℕ) (signature : Signature) (hash : List ℕ) (publications : List (ℕ × List ℕ)) (t : ℕ) → (verdict image signature hash publications ≡ Accepted t) ↔ IsAccepted image signature hash publications t
  pub leaves : (image : List ℕ → List ℕ) (journal : Contents) (t : ℕ) → IsJournal image journal → t < journal.start + length (calendar_of journal).roots → calendar_leaf (calendar_of journal) t ≡ second_leaf (root_at journal) journal.start t
  pub covered : (image : List ℕ → List ℕ) (journal : Contents) (p : ℕ) → IsJournal image journal → IsTrue (is_covered (calendar_of journal) p) ↔ IsCovered (root_at journal) journal.start p
  pub within : (image : List ℕ → List ℕ) (journal : Contents) (p : ℕ) → IsJournal image journal → ((journal.start ≤ p) × (p < journal.start + length (calendar_of journal).roots)) ↔ IsCovered (root_at journal) journal.start p
  pub root : (image : List ℕ → List ℕ) (journal : Contents) (p : ℕ) → IsJournal image journal → IsCovered (root_at journal) journal.start p → calendar_root image (calendar_of journal) p ≡ covered_root image (root_at journal) journal.start p
  pub none : (roots : Roots) (start last : ℕ) → (first_missing roots start last ≡ None) ↔ ((t : ℕ) → start ≤ t → t ≤ last → IsSome (roots t))
  pub clash : (image : List ℕ → List ℕ) (kept node : List Side → Option (List ℕ)) (fits : Rung → Bool) (rungs : List Rung) (above : List Side) (x y : List ℕ) (pair : Pair) → IsTree image kept node fits → node above ≡ Some y → AllByRecursion (λ rung. fits rung ≡ true) rungs
      → Holds image x y rungs → differing (pairs_below kept above rungs) ≡ Some pair → IsClash image (record { one = pair.0; two = pair.1 })
  pub beside : (image : List ℕ → List ℕ) (kept node : List Side → Option (List ℕ)) (fits : Rung → Bool) (rungs : List Rung) (above : List Side) (x y : List ℕ) → IsTree image kept node fits → node above ≡ Some y → AllByRecursion (λ rung. fits rung ≡ true) rungs
      → Holds image x y rungs → differing (pairs_below kept above rungs) ≡ None → Walked image kept node above x rungs

-- of the trees of rounds
pub record RoundLaws : Type 0 where
  pub only : (n first count : ℕ) (sides : List Side) → LeadsTo n sides first count → part_at 0 (record { first = 0; count = n }) sides ≡ Ok (record { first = first; count = count })
  pub way : (t n : ℕ) (sides : List Side) → IsWay t n sides ↔ ((t < n) × (sides ≡ way_of t n))
  pub one_item : (image : List ℕ → List ℕ) (items : List Item) (lo : ℕ) → tree_from image items lo 1 ≡ leaf image (item_at items lo)
  pub node : (image : List ℕ → List ℕ) (items : List Item) (last first count : ℕ) (sides : List Side) → length items ≡ last + 1 → LeadsTo (last + 1) sides first count → node_of image items sides ≡ Some (tree_from image items first count)
  pub node_below : (image : List ℕ → List ℕ) (items : List Item) (k : ℕ) (sides : List Side) → LeadsBelow items sides k → node_of image items sides ≡ Some (as_node (item_at items k))
  pub nodes : (image : List ℕ → List ℕ) (items : List Item) (sides : List Side) (node : Node) → node_of image items sides ≡ Some node → ((first : ℕ) × (count : ℕ) × LeadsTo (length items) sides first count) ⊎ ((k : ℕ) × LeadsBelow items sides k)
  pub text : (image : List ℕ → List ℕ) (items : List Item) (first count k : ℕ) (sides : List Side) → LeadsTo (length items) sides first count → IsSplit count k → text_of image items sides ≡ Some (parts_text (tree_from image items first k) (tree_from image items (first + k) (count - k)))
  pub named : (image : List ℕ → List ℕ) (items : List Item) (k : ℕ) (name : List ℕ) (sides : List Side) → LeadsTo (length items) sides k 1 → (item_at items k).name ≡ Some name → text_of image items sides ≡ Some (named_text (item_at items k) name)
  pub unnamed : (image : List ℕ → List ℕ) (items : List Item) (k : ℕ) (sides : List Side) → LeadsTo (length items) sides k 1 → (item_at items k).name ≡ None → text_of image items sides ≡ None
  pub texts : (image : List ℕ → List ℕ) (items : List Item) (sides : List Side) (text : List ℕ) → text_of image items sides ≡ Some text → (first : ℕ) × (count : ℕ) × LeadsTo (length items) sides first count
  pub hashed : (image : List ℕ → List ℕ) (items : List Item) (sides : List Side) (text : List ℕ) → text_of image items sides ≡ Some text → (node : Node) × (node_of image items sides ≡ Some node) × (node.imprint ≡ image text)
  pub even : (name : List ℕ) → IsName name → length (meta_of name) % 2 ≡ 0
