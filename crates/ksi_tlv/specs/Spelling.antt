-- The encoding of an element as bytes.
use Rattle.std.specs.Prelude.{◌≡◌, ℕ, ◌+◌, ◌/◌, ◌%◌, ◌<◌, ◌≤◌, ◌&&◌, ◌⊎◌, nat_lt, Bool, false, List, ◌∷◌, length, take, All, if◌then◌else◌}

-- an element: its kind, its two flags, and its body
pub record Tlv : Type 0 where
  pub kind : ℕ
  pub non_critical : Bool
  pub forward : Bool
  pub body : List ℕ

-- the element with these parts
abbrev pub element_of : ℕ → Bool → Bool → List ℕ → Tlv
element_of kind non_critical forward body = record { kind = kind; non_critical = non_critical; forward = forward; body = body }

-- an element without flags
abbrev pub plain : ℕ → List ℕ → Tlv
plain kind body = element_of kind false false body

-- bit 0x40: a reader that does not know the kind may skip the element; bit 0x20: it then copies the element unchanged
abbrev pub flags : Tlv → ℕ
flags e = (if e.non_critical then 0x40 else 0) + (if e.forward then 0x20 else 0)

-- the short form: a byte of flags and kind, a byte of length, the body
abbrev pub short_form : Tlv → List ℕ
short_form e = (flags e + e.kind) ∷ length e.body ∷ e.body

-- the short form can hold the element
pub record FitsShort (e : Tlv) : Type 0 where
  pub kind : e.kind < 32
  pub body : length e.body < 256

-- the long form: bit 0x80 and the flags with the kind in two bytes, two bytes of length, the body
abbrev pub long_form : Tlv → List ℕ
long_form e = (0x80 + flags e + e.kind / 256) ∷ (e.kind % 256) ∷ (length e.body / 256) ∷ (length e.body % 256) ∷ e.body

-- the long form can hold the element; an element that does not fit it has no encoding
pub record FitsLong (e : Tlv) : Type 0 where
  pub kind : e.kind < 8192
  pub body : length e.body < 65536

-- the bytes are one of the two encodings of the element
abbrev pub Spells : Tlv → List ℕ → Type 0
Spells e bytes = (FitsShort e × (bytes ≡ short_form e)) ⊎ (FitsLong e × (bytes ≡ long_form e))

-- numbers that are bytes
abbrev pub AreBytes : List ℕ → Type 0
AreBytes bytes = All (λ b. b < 256) bytes

-- the first n bytes encode the element
pub record IsFront (bytes : List ℕ) (e : Tlv) (n : ℕ) : Type 0 where
  pub within : n ≤ length bytes
  pub spelled : Spells e (take n bytes)

-- the encoding that is written: the short form if it can hold the element
abbrev pub canonical : Tlv → List ℕ
canonical e = if nat_lt e.kind 32 && nat_lt (length e.body) 256 then short_form e else long_form e
