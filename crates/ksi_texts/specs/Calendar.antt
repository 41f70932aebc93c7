-- The rows of a calendar chain and of a publication record.
use Rattle.std.specs.Prelude.{ℕ, ◌+◌, List, [], ◌∷◌, ◌++◌, length, codes, Option, Some, None, Result, Ok, Err}
use Rattle.std.specs.Fmt.{decimal}
use Rattle.ksi_imprint.specs.Imprints.{imprint_of}
use Rattle.ksi_split.specs.Parts.{second_at}
use Rattle.ksi_split.specs.Trees.{climb_links, link_from}
use Rattle.ksi_split.specs.declared.tree_link.TreeLink.{TreeLink}
use Rattle.ksi_split.specs.declared.fault.ShapeFault.{ShapeFault}
use Rattle.ksi_schedule.specs.Printed.{hex_of}
use Rattle.ksi_calendar.specs.Climbing.{calendar_join}
use Rattle.ksi_calendar.specs.Sides.{sides_from_top}
use Rattle.ksi_signature.specs.Values.{Calendar, Publishing}
use Rattle.ksi_texts.specs.Chains.{side_word}
use Rattle.ksi_texts.specs.Words.{second_text, short_text}

-- ---- links

-- the link at a place, and the imprint that it leads to
abbrev pub leaf_row : ℕ → (above : List ℕ) → TreeLink (List ℕ) → List (List ℕ)
leaf_row place above link =
    codes "  link" ∷ decimal place ∷ side_word link.side ∷ codes "hash" ∷ short_text link.sibling ∷ codes "makes" ∷ short_text above ∷ []

-- where a link leads
abbrev pub joined : List ℕ → TreeLink (List ℕ) → List ℕ
joined below link = link_from (calendar_join imprint_of) below link link.side

-- links from an imprint; the lowest has the place given
abbrev pub leaf_rows : ℕ → (below : List ℕ) → List (TreeLink (List ℕ)) → List (List (List ℕ))
leaf_rows place below [] = []
leaf_rows place below (link ∷ links) = leaf_row place (joined below link) link ∷ leaf_rows (place + 1) (joined below link) links

-- ---- the chain

abbrev pub calendar_head : (links time publication : ℕ) → List (List ℕ)
calendar_head links time publication =
    codes "calendar chain with" ∷ decimal links ∷ codes "links, from second" ∷ second_text time ∷ codes "to" ∷ second_text publication ∷ []

-- the second that the links' sides name
abbrev pub named_row : Result ℕ ShapeFault → List (List ℕ)
named_row (Ok second) = codes "  its sides name second" ∷ second_text second ∷ []
named_row (Err fault) = codes "  its sides name no second" ∷ []

-- the root that the links lead to, and the second that their sides name
abbrev pub end_rows : (root : List ℕ) → Result ℕ ShapeFault → List (List (List ℕ))
end_rows root named = (codes "  ends with" ∷ hex_of root ∷ []) ∷ named_row named ∷ []

abbrev pub chain_rows : Calendar → List (List (List ℕ))
chain_rows chain =
    calendar_head (length chain.links) chain.time chain.publication
    ∷ (codes "  begins with" ∷ hex_of chain.input ∷ [])
    ∷ leaf_rows 0 chain.input chain.links
    ++ end_rows (climb_links (calendar_join imprint_of) chain.input chain.links) (second_at chain.publication (sides_from_top chain.links))

abbrev pub calendar_rows : Option Calendar → List (List (List ℕ))
calendar_rows None = (codes "no calendar chain yet" ∷ []) ∷ []
calendar_rows (Some chain) = chain_rows chain

-- ---- the record

abbrev pub published_rows : (time : ℕ) (hash : List ℕ) → List (List (List ℕ))
published_rows time hash = (codes "publication record of second" ∷ second_text time ∷ []) ∷ (codes "  root" ∷ hex_of hash ∷ []) ∷ []

abbrev pub record_rows : Option Publishing → List (List (List ℕ))
record_rows None = (codes "no publication record" ∷ []) ∷ []
record_rows (Some published) = published_rows published.time published.hash
