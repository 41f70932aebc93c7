-- The kinds of the elements of a signature file.
use Rattle.std.specs.Prelude.{ℕ}

abbrev pub signature_kind : ℕ
signature_kind = 0x800

-- ---- inside a signature

abbrev pub chain_kind : ℕ
chain_kind = 0x801

abbrev pub calendar_kind : ℕ
calendar_kind = 0x802

abbrev pub publication_kind : ℕ
publication_kind = 0x803

-- ---- refused inside a signature

abbrev pub aggregation_authentication_kind : ℕ
aggregation_authentication_kind = 0x804

abbrev pub calendar_authentication_kind : ℕ
calendar_authentication_kind = 0x805

abbrev pub rfc3161_kind : ℕ
rfc3161_kind = 0x806
