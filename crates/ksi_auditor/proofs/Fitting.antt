-- The links that fit a kept tree: those of a calendar chain, and those of an accepted signature's aggregation chains.
use Rattle.std.proofs.Common.{◌≡◌, ℕ, Bool, true, false, not, ◌&&◌, ◌||◌, List, [], ◌∷◌, ◌++◌, length, refl, subst, sym, eqb}
use Rattle.std.specs.List.{AllByRecursion}
use Rattle.std.proofs.lemmas.List.Concat.{flat_map-cons}
use Rattle.ksi_split.specs.declared.side.Side.{Side}
use Rattle.ksi_split.specs.declared.side.Side.TheVariants.{Left, Right}
use Rattle.ksi_split.specs.declared.tree_link.TreeLink.{TreeLink}
use Rattle.ksi_aggtree.specs.Links.{PlainLink, begins_as_imprint, is_bare}
use Rattle.ksi_aggtree.specs.Owned.{plain_link, plain_links}
use Rattle.ksi_aggtree.specs.declared.chains.link.Link.{Link}
use Rattle.ksi_aggtree.specs.declared.chains.link.Sibling.{Sibling}
use Rattle.ksi_aggtree.specs.declared.chains.link.Sibling.TheVariants.{Imprint, Legacy, Metadata}
use Rattle.ksi_aggtree.specs.Climbing.{above}
use Rattle.ksi_aggtree.specs.declared.chains.node.Node.{Node}
use Rattle.ksi_calendar.specs.Climbing.{calendar_element_text}
use Rattle.ksi_beside.specs.Beside.{Rung, rung_from, rungs_from, calendar_rung_from, calendar_rungs_from}
use Rattle.ksi_signature.specs.Kept.{HasImprint, IsLink}
use Rattle.ksi_signature.specs.Values.{Aggregation}
use Rattle.ksi_verifier.specs.Chains.{plain_chain, plain_chains}
use Rattle.ksi_verifier.specs.Leading.{chain_links, all_links}

-- a node stands below the link
abbrev pub above_a_node : Rung → Bool
above_a_node rung = eqb (length rung.below) 33

-- on the right, a sibling that begins as an imprint does has the length of one
abbrev pub is_told : Side → List ℕ → Bool
is_told Left sibling = true
is_told Right sibling = not (begins_as_imprint sibling) || eqb (length sibling) 33

abbrev pub is_told_link : Rung → Bool
is_told_link rung = eqb (length rung.below) 33 && is_told rung.side rung.sibling

-- ---- lists

all_last : {A : Type 0} (P : A → Type 0) (xs : List A) (x : A) → AllByRecursion P xs → P x → AllByRecursion P (xs ++ x ∷ [])
all_last P [] x all one = (one, tt)
all_last P (y ∷ xs) x all one = (all.0, all_last P xs x all.1 one)

all_both : {A : Type 0} (P : A → Type 0) (xs ys : List A) → AllByRecursion P xs → AllByRecursion P ys → AllByRecursion P (xs ++ ys)
all_both P [] ys some more = more
all_both P (x ∷ xs) ys some more = (some.0, all_both P xs ys some.1 more)

-- ---- the links of an accepted signature

or_true : (b : Bool) → (b || true) ≡ true
or_true true = refl
or_true false = refl

told_size : (side : Side) (bytes : List ℕ) → length bytes ≡ 33 → is_told side bytes ≡ true
told_size Left bytes size = refl
told_size Right bytes size = rw size (or_true (not (begins_as_imprint bytes)))

told_raw : (side : Side) (link : Link) (bytes : List ℕ) → is_bare (record { side = side; correction = link.correction; sibling = bytes; raw = true }) ≡ false → is_told side bytes ≡ true
told_raw Left link bytes plain = refl
told_raw Right link bytes plain = rw plain refl

abbrev AreTold : List PlainLink → Type 0
AreTold links = AllByRecursion (λ link. is_told link.side link.sibling ≡ true) links

told_link : (link : Link) (sibling : Sibling) → link.sibling ≡ sibling → HasImprint sibling → is_bare (plain_link (record { side = link.side; correction = link.correction; sibling = sibling })) ≡ false → is_told (plain_link link).side (plain_link link).sibling ≡ true
told_link link (Imprint bytes) is imprint plain = rw is (told_size link.side bytes imprint.size)
told_link link (Legacy bytes) is imprint plain = rw is (told_raw link.side link bytes plain)
told_link link (Metadata bytes) is imprint plain = rw is (told_raw link.side link bytes plain)

told_links : (links : List Link) → AllByRecursion IsLink links → AllByRecursion (λ link. is_bare link ≡ false) (plain_links links) → AreTold (plain_links links)
told_links [] each plain = tt
told_links (link ∷ links) each plain = (told_link link link.sibling refl each.0.sibling plain.0, told_links links each.1 plain.1)

pub told_chains : (chains : List Aggregation) → AllByRecursion (λ chain. AllByRecursion IsLink chain.links) chains → AllByRecursion (λ chain. AllByRecursion (λ link. is_bare link ≡ false) chain.links) (plain_chains chains) → AllByRecursion (λ link. is_told link.side link.sibling ≡ true) (all_links (plain_chains chains))
told_chains [] each plain = tt
told_chains (chain ∷ chains) each plain = subst AreTold (sym (flat_map-cons chain_links (plain_chain chain) (plain_chains chains))) (all_both (λ link. is_told link.side link.sibling ≡ true) (plain_links chain.links) (all_links (plain_chains chains)) (told_links chain.links each.0 plain.0) (told_chains chains each.1 plain.1))

-- ---- as they are climbed

module _ (image : List ℕ → List ℕ) (sizes : (x : List ℕ) → length (image x) ≡ 33) where
  pub calendar_fits : (x : List ℕ) (links : List (TreeLink (List ℕ))) → length x ≡ 33 → AllByRecursion (λ rung. above_a_node rung ≡ true) (calendar_rungs_from image x links)
  calendar_fits x [] n = tt
  calendar_fits x (link ∷ links) n = all_last (λ rung. above_a_node rung ≡ true) (calendar_rungs_from image (image (calendar_element_text x link)) links) (calendar_rung_from x link) (calendar_fits (image (calendar_element_text x link)) links (sizes (calendar_element_text x link))) (rw n refl)

  pub links_fit : (x : Node) (links : List PlainLink) → length x.imprint ≡ 33 → AllByRecursion (λ link. is_told link.side link.sibling ≡ true) links → AllByRecursion (λ rung. is_told_link rung ≡ true) (rungs_from image x links)
  links_fit x [] n told = tt
  links_fit x (link ∷ links) n told = all_last (λ rung. is_told_link rung ≡ true) (rungs_from image (above image x link) links) (rung_from x link) (links_fit (above image x link) links (sizes _) told.1) (rw (n, told.0) refl)
