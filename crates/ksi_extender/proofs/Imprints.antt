-- What holds of the zero imprint, of each hash and of each root of a journal holds of a calendar chain over it and of the
-- record above it.
use Rattle.std.proofs.Common.{ℕ, zero, suc, ◌+◌, ◌-◌, ◌^◌, Bool, true, false, List, [], ◌∷◌, ◌++◌, nat_lt, if◌then◌else◌, refl}
use Rattle.std.specs.Prelude.{◌==◌, slice_index_or, unwrap_or, Some}
use Rattle.std.specs.List.{AllByRecursion}
use Rattle.ksi_imprint.specs.Imprints.{IsImprint, zero_imprint}
use Rattle.ksi_split.specs.declared.side.Side.TheVariants.{Left, Right}
use Rattle.ksi_split.specs.declared.tree_link.TreeLink.{TreeLink}
use Rattle.ksi_split.specs.Trees.{tree_within, tree, path_within, path_of}
use Rattle.ksi_calendar.specs.Climbing.{calendar_join, calendar_join_text}
use Rattle.ksi_calendar.specs.Calendar.{calendar_leaf}
use Rattle.ksi_calendar.specs.Covered.{roots_among, covered_seconds, covered_root, covered_path, second_leaf}
use Rattle.ksi_aggtree.specs.declared.second.Second.{Second}
use Rattle.ksi_journal.specs.Journal.{Contents, IsSecond, kept_among, root_kept, root_at}

either : {A : Type 0} (P : A → Type 0) (b : Bool) (x y : A) → P x → P y → P (if b then x else y)
either P true x y one other = one
either P false x y one other = other

module _ (P : List ℕ → Type 0) where
  abbrev pub AllSiblings : List (TreeLink (List ℕ)) → Type 0
  AllSiblings links = AllByRecursion (λ link. P link.sibling) links

  with_last : (links : List (TreeLink (List ℕ))) (last : TreeLink (List ℕ)) → AllSiblings links → P last.sibling → AllSiblings (links ++ last ∷ [])
  with_last [] last all is = (is, tt)
  with_last (link ∷ links) last all is = (all.0, with_last links last all.1 is)

  module _ (join : List ℕ → List ℕ → List ℕ) (joins : (a b : List ℕ) → P (join a b)) (leaf : ℕ → List ℕ) (are : (t : ℕ) → P (leaf t)) where
    within_is : (k lo n : ℕ) → P (tree_within join leaf k lo n)
    unfolding tree_within
    within_is zero lo n = are lo
    within_is (suc k) lo n =
        either P (nat_lt (2 ^ k) n) (join (tree_within join leaf k lo (2 ^ k)) (tree_within join leaf k (lo + 2 ^ k) (n - 2 ^ k))) (tree_within join leaf k lo n)
        (joins (tree_within join leaf k lo (2 ^ k)) (tree_within join leaf k (lo + 2 ^ k) (n - 2 ^ k))) (within_is k lo n)

    pub tree_is : (lo n : ℕ) → P (tree join leaf lo n)
    unfolding tree
    tree_is lo n = within_is n lo n

    path_within_is : (k lo t n : ℕ) → AllSiblings (path_within join leaf k lo t n)
    unfolding path_within
    path_within_is zero lo t n = tt
    path_within_is (suc k) lo t n =
        let left = path_within join leaf k lo t (2 ^ k) in
        let right = path_within join leaf k (lo + 2 ^ k) (t - 2 ^ k) (n - 2 ^ k) in
        let behind : TreeLink (List ℕ) = record { side = Left; sibling = tree join leaf (lo + 2 ^ k) (n - 2 ^ k) } in
        let before : TreeLink (List ℕ) = record { side = Right; sibling = tree join leaf lo (2 ^ k) } in
        either AllSiblings (nat_lt (2 ^ k) n) (if nat_lt t (2 ^ k) then left ++ behind ∷ [] else right ++ before ∷ []) (path_within join leaf k lo t n)
        (either AllSiblings (nat_lt t (2 ^ k)) (left ++ behind ∷ []) (right ++ before ∷ [])
        (with_last left behind (path_within_is k lo t (2 ^ k)) (tree_is (lo + 2 ^ k) (n - 2 ^ k)))
        (with_last right before (path_within_is k (lo + 2 ^ k) (t - 2 ^ k) (n - 2 ^ k)) (tree_is lo (2 ^ k))))
        (path_within_is k lo t n)

    pub path_is : (lo t n : ℕ) → AllSiblings (path_of join leaf lo t n)
    unfolding path_of
    path_is lo t n = path_within_is n lo t n

-- ---- the leaves of a journal

pub zero_is : IsImprint zero_imprint
zero_is = record { algorithm = refl; size = refl }

pub imprint_roots : (image : List ℕ → List ℕ) (ks : List Second) → AllByRecursion (IsSecond image) ks → AllByRecursion (λ kept. IsImprint kept.root) ks
imprint_roots image [] all = tt
imprint_roots image (kept ∷ others) all = (all.0.imprint, imprint_roots image others all.1)

module _ (P : List ℕ → Type 0) (zero_too : P zero_imprint) where
  place_is : (roots : List (List ℕ)) (place : ℕ) → AllByRecursion P roots → P (slice_index_or roots place zero_imprint)
  place_is [] place all = zero_too
  place_is (root ∷ roots) zero all = all.0
  place_is (root ∷ roots) (suc place) all = place_is roots place all.1

  kept_is : (ks : List Second) → AllByRecursion (λ kept. P kept.root) ks → (t : ℕ) → P (unwrap_or (root_kept (kept_among ks t)) zero_imprint)
  kept_is [] all t = zero_too
  kept_is (kept ∷ others) all t = by (kept.second == t) (kept_is others all.1 t)
    where
      by : (here : Bool) → P (unwrap_or (root_kept (kept_among others t)) zero_imprint) → P (unwrap_or (root_kept (if here then Some kept else kept_among others t)) zero_imprint)
      by true later = all.0
      by false later = later

  leaf_of : (roots : List (List ℕ)) (start t : ℕ) → AllByRecursion P roots → P (if nat_lt t start then zero_imprint else slice_index_or roots (t - start) zero_imprint)
  leaf_of roots start t all = either P (nat_lt t start) zero_imprint (slice_index_or roots (t - start) zero_imprint) zero_too (place_is roots (t - start) all)

  module _ (journal : Contents) (are : AllByRecursion (λ kept. P kept.root) journal.seconds) where
    known_is : (t : ℕ) → P (unwrap_or (root_at journal t) zero_imprint)
    unfolding root_at
    known_is t = kept_is journal.seconds are t

    roots_are : (s n : ℕ) → AllByRecursion P (roots_among (root_at journal) s n)
    roots_are s zero = tt
    roots_are s (suc n) = (known_is s, roots_are (suc s) n)

    pub second_is : (t : ℕ) → P (second_leaf (root_at journal) journal.start t)
    second_is t = either P (nat_lt t journal.start) zero_imprint (unwrap_or (root_at journal t) zero_imprint) zero_too (known_is t)

    leaf_is : (p t : ℕ) → P (calendar_leaf (covered_seconds (root_at journal) journal.start p) t)
    unfolding covered_seconds
    leaf_is p t = leaf_of (roots_among (root_at journal) journal.start (suc p - journal.start)) journal.start t (roots_are journal.start (suc p - journal.start))

    module _ (image : List ℕ → List ℕ) (images : (x : List ℕ) → P (image x)) where
      pub root_is : (p : ℕ) → P (covered_root image (root_at journal) journal.start p)
      root_is p = tree_is P (calendar_join image) (λ a b. images (calendar_join_text a b)) (calendar_leaf (covered_seconds (root_at journal) journal.start p)) (leaf_is p) 0 (p + 1)

      pub links_are : (t p : ℕ) → AllSiblings P (covered_path image (root_at journal) journal.start t p)
      links_are t p = path_is P (calendar_join image) (λ a b. images (calendar_join_text a b)) (calendar_leaf (covered_seconds (root_at journal) journal.start p)) (leaf_is p) 0 t (p + 1)
