-- The tables of a publications file.
use Rattle.std.specs.Prelude.{◌==◌, [], ◌∷◌, Ok, if◌then◌else◌}
use Rattle.ksi_tlv.specs.Walking.{PlacedTlv}
use Rattle.ksi_tlv.specs.Table.{Verdict, Table, exactly_once, at_most_once, any_number}
use Rattle.ksi_tlv.specs.Containing.{inner_verdict}
use Rattle.ksi_tlv.specs.Contents.{passes, number_in, time_in}
use Rattle.ksi_tlv.specs.Published.{record_table}
use Rattle.ksi_publications.specs.Kinds.{header_kind, record_kind, certificate_kind, file_signature_kind}

abbrev pub header_content : PlacedTlv → Verdict
header_content at =
    if at.element.kind == 1 then passes (number_in at)
    else if at.element.kind == 2 then passes (time_in at)
    else Ok tt

-- a header: 0x01 version, 0x02 creation time, 0x03 repository address
abbrev pub header_table : Table
header_table = record { slots = exactly_once 1 ∷ exactly_once 2 ∷ at_most_once 3 ∷ []; refused = []; content = header_content }

abbrev pub file_content : PlacedTlv → Verdict
file_content at = if at.element.kind == header_kind then inner_verdict header_table at else inner_verdict record_table at

-- after the magic: a header and publication records; certificates and the file's signature are refused
abbrev pub file_table : Table
file_table = record { slots = exactly_once header_kind ∷ any_number record_kind ∷ []; refused = certificate_kind ∷ file_signature_kind ∷ []; content = file_content }
