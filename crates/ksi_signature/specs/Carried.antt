-- The invariants of the types of a response's parts.
use Rattle.std.specs.Prelude.{◌<◌, ◌≤◌, ◌^◌, ℕ, List, length}
use Rattle.std.specs.List.{AllByRecursion}
use Rattle.ksi_imprint.specs.Imprints.{IsImprint}
use Rattle.ksi_split.specs.declared.tree_link.TreeLink.{TreeLink}
use Rattle.ksi_aggtree.specs.declared.chains.link.Link.{Link}
use Rattle.ksi_aggtree.specs.declared.chains.link.Sibling.{Sibling}
use Rattle.ksi_aggtree.specs.declared.chains.link.Sibling.TheVariants as siblings
use Rattle.ksi_tlv.specs.Spelling.{AreBytes}
use Rattle.ksi_signature.specs.declared.above.AboveChain.{AboveChain}
use Rattle.ksi_signature.specs.declared.above.Above.{Above}
use Rattle.ksi_signature.specs.Kept.{IsLink}
use Rattle.ksi_signature.specs.Above.{AreRoundLinks}

pub record IsAboveChain (chain : AboveChain) : Type 0 where
  pub input : IsImprint chain.input
  pub limits : AreRoundLinks chain.links
  pub links : AllByRecursion IsLink chain.links

pub record IsAbove (above : Above) : Type 0 where
  pub root : IsImprint above.root
  pub count : length above.chains ≤ 8
  pub chains : AllByRecursion IsAboveChain above.chains
  pub few : length above.calendar ≤ 63
  pub calendar : AllByRecursion (λ link. IsImprint link.sibling) above.calendar

-- a signature may be issued from these: its second, the item's imprint and links, and the chains above
pub record MayBeIssued (second : ℕ) (input : List ℕ) (links : List Link) (above : Above) : Type 0 where
  pub early : second < 2 ^ 63
  pub imprint : IsImprint input
  pub limits : AreRoundLinks links
  pub are : AllByRecursion IsLink links
  pub kept : IsAbove above

-- ---- the numbers in these parts are bytes

abbrev pub SiblingOfBytes : Sibling → Type 0
SiblingOfBytes (siblings.Imprint imprint) = AreBytes imprint
SiblingOfBytes (siblings.Legacy bytes) = AreBytes bytes
SiblingOfBytes (siblings.Metadata bytes) = AreBytes bytes

abbrev pub LinksOfBytes : List Link → Type 0
LinksOfBytes links = AllByRecursion (λ link. SiblingOfBytes link.sibling) links

abbrev pub ChainOfBytes : AboveChain → Type 0
ChainOfBytes chain = AreBytes chain.input × LinksOfBytes chain.links

abbrev pub CalendarOfBytes : List (TreeLink (List ℕ)) → Type 0
CalendarOfBytes links = AllByRecursion (λ link. AreBytes link.sibling) links

-- all parts that a signature is issued from are bytes: the item's imprint, its links' siblings, and the chains above
pub record IsOfBytes (input : List ℕ) (links : List Link) (above : Above) : Type 0 where
  pub imprint : AreBytes input
  pub own : LinksOfBytes links
  pub root : AreBytes above.root
  pub chains : AllByRecursion ChainOfBytes above.chains
  pub calendar : CalendarOfBytes above.calendar
