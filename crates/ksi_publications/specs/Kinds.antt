-- The kinds of the elements of a publications file.
use Rattle.std.specs.Prelude.{ℕ}

abbrev pub header_kind : ℕ
header_kind = 0x701

abbrev pub record_kind : ℕ
record_kind = 0x703

-- ---- refused

abbrev pub certificate_kind : ℕ
certificate_kind = 0x702

abbrev pub file_signature_kind : ℕ
file_signature_kind = 0x704
