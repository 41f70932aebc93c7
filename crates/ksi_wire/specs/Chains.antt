-- What a core tells of the chain of a second, as lines.
use Rattle.std.specs.Prelude.{ℕ, List, [], ◌∷◌, ◌++◌, codes, map, Option, Some, None}
use Rattle.ksi_split.specs.declared.side.Side.{Side}
use Rattle.ksi_split.specs.declared.side.Side.TheVariants.{Left, Right}
use Rattle.ksi_split.specs.declared.tree_link.TreeLink.{TreeLink}
use Rattle.ksi_corenode.specs.Chains.{held_chain}
use Rattle.ksi_corenode.specs.CoreState.{CoreState, held_by}
use Rattle.ksi_corenode.specs.declared.chaining.HeldChain.{HeldChain}
use Rattle.ksi_schedule.specs.Pieces.{Text}
use Rattle.ksi_schedule.specs.Printed.{hex_of, text_of_lines}
use Rattle.ksi_wire.specs.declared.questions.ChainEnds.{ChainEnds}

abbrev pub side_word : Side → Text
side_word Left = codes "left"
side_word Right = codes "right"

-- a link: the side of the lower node in its join, and the other part
abbrev pub link_words : TreeLink (List ℕ) → List Text
link_words link = side_word link.side ∷ hex_of link.sibling ∷ []

-- the root that a chain leads to, and its links, the lowest first
abbrev pub chain_lines : Option HeldChain → List (List Text)
chain_lines None = (codes "not" ∷ codes "held" ∷ []) ∷ []
chain_lines (Some chain) = (codes "published" ∷ hex_of chain.root ∷ []) ∷ map link_words chain.links

-- the block that answers the question
abbrev pub chain_text : (List ℕ → List ℕ) → CoreState → ChainEnds → Text
chain_text image core ends = text_of_lines (chain_lines (held_chain image (held_by core) core.start ends.from ends.to)) ++ codes ".\n"
