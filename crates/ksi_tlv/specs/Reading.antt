-- The value that bytes encode, or their first fault. The law `file_is_read` says that these are the ones in `Format`.
use Rattle.std.specs.Prelude.{List, ℕ, length, take, drop, Result, Ok, Err, if◌then◌else◌}
use Rattle.std.specs.Str.{bytes_eq}
use Rattle.ksi_tlv.specs.Order.{walked}
use Rattle.ksi_tlv.specs.Format.{Format, behind, end_of}

abbrev pub value_said : {S F A : Type 0} → (S → A) → Result S F → Result A F
value_said value (Ok said) = Ok (value said)
value_said value (Err fault) = Err fault

-- the value of the elements after the magic
abbrev pub read_behind : {S F A : Type 0} → Format S F A → List ℕ → Result A F
read_behind f rest = value_said f.value (walked f.order (end_of f rest) (behind f rest) f.start)

unfoldable pub file_at : {S F A : Type 0} → Format S F A → List ℕ → Result A F
file_at f bytes =
    if bytes_eq (take (length f.magic) bytes) f.magic then read_behind f (drop (length f.magic) bytes) else Err f.other
