-- The tables of the containers of a signature.
use Rattle.std.specs.Prelude.{◌==◌, ◌||◌, [], ◌∷◌, Some, None, Ok, if◌then◌else◌}
use Rattle.ksi_tlv.specs.Walking.{PlacedTlv}
use Rattle.ksi_tlv.specs.declared.grammar.fault.ElementFault.TheVariants as faults
use Rattle.ksi_tlv.specs.declared.grammar.rule.Over.TheVariants as overs
use Rattle.ksi_tlv.specs.Table.{Verdict, Slot, Table, exactly_once, at_most_once, one_or_more}
use Rattle.ksi_tlv.specs.Containing.{inner_verdict}
use Rattle.ksi_tlv.specs.Contents.{passes, number_in, time_in, level_in, algorithm_in, imprint_in, raw_in}
use Rattle.ksi_tlv.specs.Published.{record_table}
use Rattle.ksi_signature.specs.Kinds.{chain_kind, calendar_kind, publication_kind, aggregation_authentication_kind, calendar_authentication_kind, rfc3161_kind}

-- ---- a link of an aggregation chain

-- exactly one of three kinds
abbrev pub one_sibling : Slot
one_sibling = record { kinds = 2 ∷ 3 ∷ 4 ∷ []; most = Some 1; over = overs.Sibling; lack = Some faults.Sibling }

abbrev pub link_content : PlacedTlv → Verdict
link_content at =
    if at.element.kind == 1 then passes (level_in at)
    else if at.element.kind == 2 then passes (imprint_in at)
    else raw_in at

-- 0x01 level correction; a sibling: 0x02 imprint, 0x03 legacy identifier or 0x04 metadata
abbrev pub link_table : Table
link_table = record { slots = at_most_once 1 ∷ one_sibling ∷ []; refused = []; content = link_content }

-- ---- an aggregation chain

-- at most 63, of either side
abbrev pub links : Slot
links = record { kinds = 7 ∷ 8 ∷ []; most = Some 63; over = overs.Links; lack = None }

abbrev pub chain_content : PlacedTlv → Verdict
chain_content at =
    if at.element.kind == 2 then passes (time_in at)
    else if at.element.kind == 3 then passes (number_in at)
    else if at.element.kind == 4 then Ok tt
    else if at.element.kind == 5 then passes (imprint_in at)
    else if at.element.kind == 6 then passes (algorithm_in at)
    else inner_verdict link_table at

-- 0x02 aggregation time, 0x03 index parts, 0x04 input data, 0x05 input hash, 0x06 algorithm, 0x07 left and 0x08 right
-- links
abbrev pub chain_table : Table
chain_table = record {
  slots = exactly_once 2 ∷ one_or_more 3 ∷ at_most_once 4 ∷ exactly_once 5 ∷ exactly_once 6 ∷ links ∷ [];
  refused = [];
  content = chain_content;
}

-- ---- a calendar chain

abbrev pub calendar_content : PlacedTlv → Verdict
calendar_content at =
    if at.element.kind == 1 || at.element.kind == 2 then passes (time_in at) else passes (imprint_in at)

-- 0x01 publication time, 0x02 aggregation time, 0x05 input hash, 0x07 left and 0x08 right links, each a sibling's imprint
abbrev pub calendar_table : Table
calendar_table = record { slots = exactly_once 1 ∷ at_most_once 2 ∷ exactly_once 5 ∷ links ∷ []; refused = []; content = calendar_content }

-- ---- a signature

-- 1 to 16
abbrev pub chains : Slot
chains = record { kinds = chain_kind ∷ []; most = Some 16; over = overs.Chains; lack = Some (faults.Missing chain_kind) }

abbrev pub signature_content : PlacedTlv → Verdict
signature_content at =
    if at.element.kind == chain_kind then inner_verdict chain_table at
    else if at.element.kind == calendar_kind then inner_verdict calendar_table at
    else inner_verdict record_table at

-- aggregation chains, a calendar chain and a publication record; authentication records and RFC 3161 records are refused
abbrev pub signature_table : Table
signature_table = record {
  slots = chains ∷ at_most_once calendar_kind ∷ at_most_once publication_kind ∷ [];
  refused = aggregation_authentication_kind ∷ calendar_authentication_kind ∷ rfc3161_kind ∷ [];
  content = signature_content;
}
