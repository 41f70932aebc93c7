-- The values of the elements of a signature.
use Rattle.std.specs.Prelude.{ℕ, ◌==◌, ◌||◌, nat_lt, length, map, option_map, List, [], ◌∷◌, Option, Some, None, if◌then◌else◌}
use Rattle.ksi_imprint.specs.Imprints.{zero_imprint}
use Rattle.ksi_split.specs.declared.side.Side.{Side}
use Rattle.ksi_split.specs.declared.side.Side.TheVariants.{Left, Right}
use Rattle.ksi_split.specs.declared.tree_link.TreeLink.{TreeLink}
use Rattle.ksi_aggtree.specs.declared.chains.link.Link.{Link}
use Rattle.ksi_aggtree.specs.declared.chains.link.Sibling.{Sibling}
use Rattle.ksi_aggtree.specs.declared.chains.link.Sibling.TheVariants as siblings
use Rattle.ksi_tlv.specs.Walking.{PlacedTlv}
use Rattle.ksi_tlv.specs.Numerals.{number_of}
use Rattle.ksi_tlv.specs.Inside.{inner_elements, first_of}
use Rattle.ksi_tlv.specs.Published.{number_or_zero, imprint_or_zero, recorded_in}
use Rattle.ksi_signature.specs.Values.{Aggregation, Calendar, Publishing}
use Rattle.ksi_signature.specs.declared.signature.Signature.{Signature}
use Rattle.ksi_signature.specs.Kinds.{chain_kind, calendar_kind, publication_kind}

-- the bodies of the elements of a kind, in order
abbrev pub bodies_of : ℕ → List PlacedTlv → List (List ℕ)
bodies_of kind [] = []
bodies_of kind (at ∷ es) = if at.element.kind == kind then at.element.body ∷ bodies_of kind es else bodies_of kind es

-- a link is named after the side of the node below it
abbrev pub side_in : PlacedTlv → Side
side_in at = if at.element.kind == 7 then Left else Right

-- ---- aggregation chains

-- the first sibling among elements
abbrev pub sibling_among : List PlacedTlv → Sibling
sibling_among [] = siblings.Imprint zero_imprint
sibling_among (at ∷ es) =
    if at.element.kind == 2 then siblings.Imprint at.element.body
    else if at.element.kind == 3 then siblings.Legacy at.element.body
    else if at.element.kind == 4 then siblings.Metadata at.element.body
    else sibling_among es

-- a correction that is absent is 0
unfoldable pub link_in : PlacedTlv → Link
link_in at = record { side = side_in at; correction = number_or_zero (first_of 1 (inner_elements at)); sibling = sibling_among (inner_elements at) }

abbrev pub links_among : List PlacedTlv → List Link
links_among [] = []
links_among (at ∷ es) = if at.element.kind == 7 || at.element.kind == 8 then link_in at ∷ links_among es else links_among es

unfoldable pub chain_in : PlacedTlv → Aggregation
chain_in at = record {
  time = number_or_zero (first_of 2 (inner_elements at));
  index = map number_of (bodies_of 3 (inner_elements at));
  input_body = option_map (λ part. part.element.body) (first_of 4 (inner_elements at));
  input = imprint_or_zero (first_of 5 (inner_elements at));
  links = links_among (inner_elements at);
}

-- ---- calendar chains

abbrev pub calendar_links_among : List PlacedTlv → List (TreeLink (List ℕ))
calendar_links_among [] = []
calendar_links_among (at ∷ es) =
    if at.element.kind == 7 || at.element.kind == 8 then record { side = side_in at; sibling = at.element.body } ∷ calendar_links_among es
    else calendar_links_among es

abbrev pub number_or : ℕ → Option PlacedTlv → ℕ
number_or other None = other
number_or other (Some at) = number_of at.element.body

-- an aggregation time that is absent is the publication time
unfoldable pub calendar_in : PlacedTlv → Calendar
calendar_in at = record {
  publication = number_or_zero (first_of 1 (inner_elements at));
  time = number_or (number_or_zero (first_of 1 (inner_elements at))) (first_of 2 (inner_elements at));
  input = imprint_or_zero (first_of 5 (inner_elements at));
  links = calendar_links_among (inner_elements at);
}

-- ---- publication records

unfoldable pub publishing_in : PlacedTlv → Publishing
publishing_in at = record {
  time = (recorded_in at).0;
  hash = (recorded_in at).1;
  references = bodies_of 9 (inner_elements at);
  repositories = bodies_of 0x0a (inner_elements at);
}

-- ---- signatures

-- inserts a chain after all that have as many index parts or more
abbrev pub put_chain : Aggregation → List Aggregation → List Aggregation
put_chain chain [] = chain ∷ []
put_chain chain (other ∷ chains) =
    if nat_lt (length other.index) (length chain.index) then chain ∷ other ∷ chains else other ∷ put_chain chain chains

-- inserts the elements' chains, by falling number of index parts, equal numbers in the order of the elements
abbrev pub chains_behind : List Aggregation → List PlacedTlv → List Aggregation
chains_behind chains [] = chains
chains_behind chains (at ∷ es) = if at.element.kind == chain_kind then chains_behind (put_chain (chain_in at) chains) es else chains_behind chains es

unfoldable pub signature_of : List PlacedTlv → Signature
signature_of es = record {
  chains = chains_behind [] es;
  calendar = option_map calendar_in (first_of calendar_kind es);
  publication = option_map publishing_in (first_of publication_kind es);
}
