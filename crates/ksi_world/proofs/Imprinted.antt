-- What holds of the zero imprint, of each hash and of each leaf holds of all that trees, chains and calendars have.
use Rattle.std.proofs.Common.{◌≡◌, ℕ, zero, suc, ◌+◌, ◌-◌, ◌^◌, ◌<◌, ◌≤◌, Bool, true, false, List, [], ◌∷◌, ◌++◌, length, nat_lt, if◌then◌else◌, refl, arith, inl, inr, Option, Some, None, max}
use Rattle.std.specs.Prelude.{slice_index_or, unwrap_or, IfSome, All}
use Rattle.std.specs.List.{AllByRecursion}
use Rattle.std.proofs.lemmas.List.Sums.{sum_by-cons}
use Rattle.ksi_imprint.specs.Imprints.{IsImprint, join_text, zero_imprint}
use Rattle.ksi_split.specs.declared.side.Side.TheVariants.{Left, Right}
use Rattle.ksi_split.specs.declared.tree_link.TreeLink.{TreeLink}
use Rattle.ksi_split.specs.Trees.{tree_within, tree, path_within, path_of}
use Rattle.ksi_calendar.specs.Climbing.{calendar_join, calendar_join_text}
use Rattle.ksi_calendar.specs.Calendar.{calendar_leaf, calendar_path}
use Rattle.ksi_aggtree.specs.Climbing.{Climbs, level_after}
use Rattle.ksi_aggtree.specs.Links.{PlainLink}
use Rattle.ksi_aggtree.specs.Owned.{plain_link, plain_links}
use Rattle.ksi_aggtree.specs.declared.chains.node.Node.{Node}
use Rattle.ksi_aggtree.specs.declared.item.Item.{Item}
use Rattle.ksi_aggtree.specs.declared.chains.link.Link.{Link}
use Rattle.ksi_aggtree.specs.declared.chains.link.Sibling.{Sibling}
use Rattle.ksi_aggtree.specs.declared.chains.link.Sibling.TheVariants as siblings
use Rattle.ksi_aggtree.specs.declared.entries.Entry.{Entry}
use Rattle.ksi_aggtree.specs.Names.{IsName, meta_of}
use Rattle.ksi_aggtree.specs.Rounds.{IsRound, aggregation_join, as_node, item_at, named_text, named_imprint, leaf_of_place, tree_of, tree_path}
use Rattle.ksi_aggtree.specs.Paths.{links_from, name_links, chain_of}
use Rattle.ksi_aggtree.specs.Entries.{items_of, candidate_of}
use Rattle.ksi_signature.specs.Above.{IsNode, AreRoundLinks}
use Rattle.ksi_signature.specs.declared.above.AboveChain.{AboveChain}
use Rattle.ksi_calendar.specs.Covered.{Roots, roots_among, covered_seconds, covered_root}
use Rattle.ksi_aggregator.specs.Responses.{chain_at}
use Rattle.ksi_world.proofs.Joining.{ItemClimbs}
use Rattle.ksi_world.proofs.Sending.{TreeRises}

-- ANY TREE

either : {A : Type 0} (P : A → Type 0) (b : Bool) (x y : A) → P x → P y → P (if b then x else y)
either P true x y one other = one
either P false x y one other = other

abbrev pub EachSibling : {A : Type 0} → (A → Type 0) → List (TreeLink A) → Type 0
EachSibling P links = AllByRecursion (λ link. P link.sibling) links

module _ (A : Type 0) (P : A → Type 0) where
  with_last : (links : List (TreeLink A)) (last : TreeLink A) → EachSibling P links → P last.sibling → EachSibling P (links ++ last ∷ [])
  with_last [] last all is = (is, tt)
  with_last (link ∷ links) last all is = (all.0, with_last links last all.1 is)

  module _ (join : A → A → A) (joins : (a b : A) → P (join a b)) (leaf : ℕ → A) (are : (t : ℕ) → P (leaf t)) where
    within_is : (k lo n : ℕ) → P (tree_within join leaf k lo n)
    unfolding tree_within
    within_is zero lo n = are lo
    within_is (suc k) lo n =
        either P (nat_lt (2 ^ k) n) (join (tree_within join leaf k lo (2 ^ k)) (tree_within join leaf k (lo + 2 ^ k) (n - 2 ^ k))) (tree_within join leaf k lo n)
        (joins (tree_within join leaf k lo (2 ^ k)) (tree_within join leaf k (lo + 2 ^ k) (n - 2 ^ k))) (within_is k lo n)

    pub tree_is : (lo n : ℕ) → P (tree join leaf lo n)
    unfolding tree
    tree_is lo n = within_is n lo n

    path_within_is : (k lo t n : ℕ) → EachSibling P (path_within join leaf k lo t n)
    unfolding path_within
    path_within_is zero lo t n = tt
    path_within_is (suc k) lo t n =
        let left = path_within join leaf k lo t (2 ^ k) in
        let right = path_within join leaf k (lo + 2 ^ k) (t - 2 ^ k) (n - 2 ^ k) in
        let behind : TreeLink A = record { side = Left; sibling = tree join leaf (lo + 2 ^ k) (n - 2 ^ k) } in
        let before : TreeLink A = record { side = Right; sibling = tree join leaf lo (2 ^ k) } in
        either (EachSibling P) (nat_lt (2 ^ k) n) (if nat_lt t (2 ^ k) then left ++ behind ∷ [] else right ++ before ∷ []) (path_within join leaf k lo t n)
        (either (EachSibling P) (nat_lt t (2 ^ k)) (left ++ behind ∷ []) (right ++ before ∷ [])
        (with_last left behind (path_within_is k lo t (2 ^ k)) (tree_is (lo + 2 ^ k) (n - 2 ^ k)))
        (with_last right before (path_within_is k (lo + 2 ^ k) (t - 2 ^ k) (n - 2 ^ k)) (tree_is lo (2 ^ k))))
        (path_within_is k lo t n)

    pub path_is : (lo t n : ℕ) → EachSibling P (path_of join leaf lo t n)
    unfolding path_of
    path_is lo t n = path_within_is n lo t n

pub zero_is : IsImprint zero_imprint
zero_is = record { algorithm = refl; size = refl }

-- WHAT IS OF SUCH IMPRINTS

-- the metadata of a name
pub record IsNameMeta (bytes : List ℕ) : Type 0 where
  pub name : List ℕ
  pub named : IsName name
  pub text : bytes ≡ meta_of name

module _ (P : List ℕ → Type 0) where
  -- an item of one, whose name is a name where it has one
  abbrev pub OfItem : Item → Type 0
  OfItem item = P item.imprint × IfSome item.name IsName

  abbrev pub OfNode : Node → Type 0
  OfNode node = P node.imprint

  -- each item is of one
  abbrev pub OfEntries : List Entry → Type 0
  OfEntries entries = AllByRecursion (λ entry. OfItem entry.item) entries

  abbrev pub OfSibling : Sibling → Type 0
  OfSibling (siblings.Imprint imprint) = P imprint
  OfSibling (siblings.Legacy bytes) = P bytes
  OfSibling (siblings.Metadata bytes) = IsNameMeta bytes

  -- a link as a signature has it, with such a sibling
  abbrev pub OfLink : Link → Type 0
  OfLink link = (link.correction < 2 ^ 8) × OfSibling link.sibling

  pub record OfChain (chain : AboveChain) : Type 0 where
    pub input : P chain.input
    pub limits : AreRoundLinks chain.links
    pub links : AllByRecursion OfLink chain.links

  pub entries_push : (es : List Entry) (e : Entry) → OfEntries es → OfItem e.item → OfEntries (es ++ e ∷ [])
  entries_push [] e all is = (is, tt)
  entries_push (x ∷ es) e all is = (all.0, entries_push es e all.1 is)

  module _ (zero_too : P zero_imprint) where
    pub item_of : (es : List Entry) → OfEntries es → (k : ℕ) → OfItem (item_at (items_of es) k)
    item_of [] all k = (zero_too, tt)
    item_of (e ∷ es) all zero = all.0
    item_of (e ∷ es) all (suc k) = item_of es all.1 k

  beside : (level : ℕ) (others : List (TreeLink Node)) → EachSibling OfNode others → AllByRecursion (λ link. OfSibling link.sibling) (links_from level others)
  beside level [] all = tt
  beside level (other ∷ others) all = (all.0, beside (max level other.sibling.level + 1) others all.1)

  -- links that do not pass level 255
  low_links : (level : ℕ) (links : List Link) → level_after level (plain_links links) ≤ 255 → AllByRecursion (λ link. OfSibling link.sibling) links → AllByRecursion OfLink links
  low_links level [] low all = tt
  low_links level (link ∷ links) low all =
      let cons = sum_by-cons (λ (link : PlainLink). link.correction + 1) (plain_link link) (plain_links links) in
      ((omega (arith, low, cons), all.0), low_links level links (omega (arith, low, cons)) all.1)

nodes : (level : ℕ) (others : List (TreeLink Node)) → AllByRecursion (λ link. IsNode link.sibling) (links_from level others)
nodes level [] = tt
nodes level (other ∷ others) = (tt, nodes (max level other.sibling.level + 1) others)

-- the laws of names: their metadata has few bytes
pub record NameLaws : Type 0 where
  pub least : (name : List ℕ) → IsName name → 6 ≤ length (meta_of name)
  pub most : (name : List ℕ) → IsName name → length (meta_of name) ≤ 70
  pub bytes : (name : List ℕ) → IsName name → All (λ b. b < 256) (meta_of name)

pub name_laws : ((name : List ℕ) → IsName name → 6 ≤ length (meta_of name)) → ((name : List ℕ) → IsName name → length (meta_of name) ≤ 70)
    → ((name : List ℕ) → IsName name → All (λ b. b < 256) (meta_of name)) → NameLaws
name_laws least most bytes = record { least = least; most = most; bytes = bytes }

-- links beside nodes, below which stands the link of a name where there is one
named_limits : NameLaws → (name : Option (List ℕ)) (links : List Link) → IfSome name IsName → AllByRecursion (λ link. IsNode link.sibling) links → length (name_links name ++ links) ≤ 17 → AreRoundLinks (name_links name ++ links)
named_limits names None [] named are few = record { count = few; lowest = tt; others = tt }
named_limits names None (link ∷ links) named are few = record { count = few; lowest = (inl are.0, tt); others = are.1 }
named_limits names (Some name) links named are few = record {
  count = few;
  lowest = (inr (record { side = refl; correction = refl; sibling = (omega (arith, names.least name named), names.most name named) }), tt);
  others = are;
}

module _ (P : List ℕ → Type 0) (zero_too : P zero_imprint) (image : List ℕ → List ℕ) (images : (bytes : List ℕ) → P (image bytes)) where
  -- ROUNDS

  joined_is : (a b : Node) → OfNode P (aggregation_join image a b)
  joined_is a b = images (join_text a.imprint b.imprint (max a.level b.level + 1))

  named_is : (item : Item) (name : Option (List ℕ)) → P item.imprint → P (named_imprint image item name)
  named_is item None is = is
  named_is item (Some name) is = images (named_text item name)

  leaf_is : (es : List Entry) → OfEntries P es → (k : ℕ) → OfNode P (leaf_of_place image (items_of es) k)
  leaf_is es all k = let item = item_at (items_of es) k in named_is item item.name (item_of P zero_too es all k).0

  pub round_of : (es : List Entry) → OfEntries P es → OfNode P (tree_of image (items_of es))
  round_of es all = tree_is Node (OfNode P) (aggregation_join image) joined_is (leaf_of_place image (items_of es)) (leaf_is es all) 0 (length (items_of es))

  pub candidate_is : (es : List Entry) → OfEntries P es → P (candidate_of image es)
  candidate_is [] all = zero_too
  candidate_is (e ∷ es) all = round_of (e ∷ es) all

  module _ (rises : TreeRises image) (climb : ItemClimbs image) (few : (items : List Item) (k : ℕ) → length items ≤ 65536 → length (chain_of image items k) ≤ 17)
      (sum : (start top : Node) (links : List PlainLink) → Climbs image start links top → top.level ≡ level_after start.level links) (names : NameLaws) where
    -- the link of a name below others
    siblings_are : (name : Option (List ℕ)) (links : List Link) → IfSome name IsName → AllByRecursion (λ link. OfSibling P link.sibling) links → AllByRecursion (λ link. OfSibling P link.sibling) (name_links name ++ links)
    siblings_are None links named are = are
    siblings_are (Some name) links named are = (record { name = name; named = named; text = refl }, are)

    pub chain_carried : (es : List Entry) (k : ℕ) → IsRound (items_of es) → k < length (items_of es) → OfEntries P es → OfChain P (chain_at image (items_of es) k)
    chain_carried es k round lt all =
        let items = items_of es in
        let top = rises items 239 round.few round.low in
        let high = sum (as_node (item_at items k)) (tree_of image items) (plain_links (chain_of image items k)) (climb items k round lt) in
        let item = item_of P zero_too es all k in
        let level = (leaf_of_place image items k).level in
        let path = tree_path image items k in
        record {
          input = item.0;
          limits = named_limits names (item_at items k).name (links_from level path) item.1 (nodes level path) (few items k round.few);
          links = low_links P (item_at items k).level (chain_of image items k) (omega (arith, top, high)) (siblings_are (item_at items k).name (links_from level path) item.1
              (beside P level path (path_is Node (OfNode P) (aggregation_join image) joined_is (leaf_of_place image items) (leaf_is es all) 0 k (length items))));
        }

  -- CALENDARS

  module _ (held : Roots) (are : (t : ℕ) (root : List ℕ) → held t ≡ Some root → P root) where
    one_root : (o : Option (List ℕ)) → ((root : List ℕ) → o ≡ Some root → P root) → P (unwrap_or o zero_imprint)
    one_root None is = zero_too
    one_root (Some root) is = is root refl

    roots_are : (s n : ℕ) → AllByRecursion P (roots_among held s n)
    roots_are s zero = tt
    roots_are s (suc n) = (one_root (held s) (are s), roots_are (suc s) n)

    place_is : (roots : List (List ℕ)) (place : ℕ) → AllByRecursion P roots → P (slice_index_or roots place zero_imprint)
    place_is [] place all = zero_too
    place_is (root ∷ roots) zero all = all.0
    place_is (root ∷ roots) (suc place) all = place_is roots place all.1

    second_is : (start last t : ℕ) → P (calendar_leaf (covered_seconds held start last) t)
    unfolding covered_seconds
    second_is start last t = either P (nat_lt t start) zero_imprint (slice_index_or (roots_among held start (suc last - start)) (t - start) zero_imprint) zero_too (place_is (roots_among held start (suc last - start)) (t - start) (roots_are start (suc last - start)))

    pub calendar_siblings : (start last t p : ℕ) → EachSibling P (calendar_path image (covered_seconds held start last) t p)
    calendar_siblings start last t p = path_is (List ℕ) P (calendar_join image) (λ a b. images (calendar_join_text a b)) (calendar_leaf (covered_seconds held start last)) (second_is start last) 0 t (p + 1)

    -- and the root of the calendar
    pub root_is : (start p : ℕ) → P (covered_root image held start p)
    root_is start p = tree_is (List ℕ) P (calendar_join image) (λ a b. images (calendar_join_text a b)) (calendar_leaf (covered_seconds held start p)) (second_is start p) 0 (p + 1)
