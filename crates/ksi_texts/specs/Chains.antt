-- The rows of aggregation chains.
use Rattle.std.specs.Prelude.{ℕ, ◌+◌, nat_lt, List, [], ◌∷◌, ◌++◌, length, codes, Option, Some, None, Result, Ok, Err, if◌then◌else◌}
use Rattle.std.specs.Fmt.{decimal}
use Rattle.ksi_imprint.specs.Imprints.{imprint_of}
use Rattle.ksi_split.specs.declared.side.Side.{Side}
use Rattle.ksi_split.specs.declared.side.Side.TheVariants.{Left, Right}
use Rattle.ksi_schedule.specs.Printed.{hex_of}
use Rattle.ksi_aggtree.specs.Links.{PlainLink, highest_level, level_above}
use Rattle.ksi_aggtree.specs.Climbing.{above, climbed}
use Rattle.ksi_aggtree.specs.declared.chains.node.Node.{Node}
use Rattle.ksi_aggtree.specs.declared.chains.climbing.LevelFault.{LevelFault}
use Rattle.ksi_verifier.specs.Chains.{PlainChain}
use Rattle.ksi_texts.specs.Names.{name_in}
use Rattle.ksi_texts.specs.Words.{quoted_text, second_text, short_text}

-- the side of a node in a join
abbrev pub side_word : Side → List ℕ
side_word Left = codes "left of"
side_word Right = codes "right of"

-- ---- links

-- raw bytes beside a link: the metadata of a name, or others
abbrev pub raw_words : Option (List ℕ) → (bytes : List ℕ) → List (List ℕ)
raw_words (Some name) bytes = codes "name" ∷ quoted_text name ∷ []
raw_words None bytes = codes "bytes" ∷ quoted_text bytes ∷ []

-- the sibling of a link
abbrev pub beside_words : PlainLink → List (List ℕ)
beside_words link =
    if link.raw then raw_words (name_in link.sibling) link.sibling else codes "hash" ∷ short_text link.sibling ∷ []

-- the link at a place: its side, its sibling, and the node that it leads to
abbrev pub row_beside : ℕ → Side → List (List ℕ) → Node → List (List ℕ)
row_beside place side beside node =
    codes "  link" ∷ decimal place ∷ side_word side ∷ (beside ++ codes "makes" ∷ short_text node.imprint ∷ codes "at level" ∷ decimal node.level ∷ [])

abbrev pub link_row : ℕ → Node → PlainLink → List (List ℕ)
link_row place node link = row_beside place link.side (beside_words link) node

-- the link at a place leads to a level above 255
abbrev pub over_row : ℕ → List (List ℕ)
over_row place = codes "  link" ∷ decimal place ∷ codes "passes level 255" ∷ []

-- links from a node, up to the first whose level passes 255; the lowest has the place given
abbrev pub link_rows : ℕ → Node → List PlainLink → List (List (List ℕ))
link_rows place node [] = []
link_rows place node (link ∷ links) =
    if nat_lt highest_level (level_above node.level link) then over_row place ∷ []
    else link_row place (above imprint_of node link) link ∷ link_rows (place + 1) (above imprint_of node link) links

-- ---- chains

-- where a chain begins
abbrev pub input_at : ℕ → PlainChain → Node
input_at level chain = record { imprint = chain.input; level = level }

-- chain k with this many links, of a second
abbrev pub head_row : (k links time : ℕ) → List (List ℕ)
head_row k links time = codes "chain" ∷ decimal k ∷ codes "with" ∷ decimal links ∷ codes "links, of second" ∷ second_text time ∷ []

-- chain k from a level
abbrev pub chain_rows : (k level : ℕ) → PlainChain → List (List (List ℕ))
chain_rows k level chain =
    head_row k (length chain.links) chain.time
    ∷ (codes "  begins with" ∷ hex_of chain.input ∷ [])
    ∷ link_rows 0 (input_at level chain) chain.links

-- the level that a chain leads to, the highest where it passes that
abbrev pub top_level : Result Node LevelFault → ℕ
top_level (Ok top) = top.level
top_level (Err fault) = highest_level

-- the lowest is chain k, from a level; each other begins at the level where the one below it ends
abbrev pub chains_rows : (k level : ℕ) → List PlainChain → List (List (List ℕ))
chains_rows k level [] = []
chains_rows k level (lowest ∷ chains) =
    chain_rows k level lowest ++ chains_rows (k + 1) (top_level (climbed imprint_of 0 (input_at level lowest) lowest.links)) chains
