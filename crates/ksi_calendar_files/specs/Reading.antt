-- The calendar file that bytes encode, or their first fault. By the law `text_is_read` the text of each file is read as it.
use Rattle.std.specs.Int.{w32, w64, from_be_bytes}
use Rattle.std.specs.Prelude.{ℕ, zero, suc, ◌+◌, ◌*◌, ◌^◌, ◌==◌, nat_le, nat_lt, ◌||◌, if◌then◌else◌, List, [], ◌∷◌, ◌++◌, length, take, drop, bytes_eq, Result, Ok, Err}
use Rattle.ksi_imprint.specs.Reading.{imprint_at}
use Rattle.ksi_imprint.specs.declared.fault.ImprintFault.{ImprintFault}
use Rattle.ksi_calendar_files.specs.File.{Contents, first_second, magic}
use Rattle.ksi_calendar_files.specs.declared.fault.FileFault.{FileFault}
use Rattle.ksi_calendar_files.specs.declared.fault.FileFault.TheVariants.{Magic, Size, Imprint, Bound}
use Rattle.ksi_calendar_files.specs.declared.head.Head.{Head}

-- ---- the head

-- K4: the plan's first second is below 2^63, the number below 2^51, and the file has a second and none after its 4,096
abbrev pub bounded : Head → Result Head FileFault
bounded head =
    if nat_le (2 ^ 63) head.start then Err (Bound 41)
    else if nat_le (2 ^ 51) head.number then Err (Bound 49)
    else if head.count == 0 || nat_lt (4096 * (head.number + 1)) (first_second head.start head.number + head.count) then Err (Bound 57)
    else Ok head

abbrev pub head_of : Result (List ℕ) ImprintFault → (start number count : ℕ) → Result Head FileFault
head_of (Ok plan) start number count = bounded (record { plan = plan; start = start; number = number; count = count })
head_of (Err fault) start number count = Err (Imprint 8)

-- the head of a digest and of three numbers that the bytes begin with
abbrev pub numbers_at : Result (List ℕ) ImprintFault → List ℕ → Result Head FileFault
numbers_at plan bytes = head_of plan (from_be_bytes w64 (take 8 bytes)) (from_be_bytes w64 (take 8 (drop 8 bytes))) (from_be_bytes w32 (take 4 (drop 8 (drop 8 bytes))))

-- K1 and K2: the magic, and the other 53 bytes of a head
abbrev pub head_after : List ℕ → List ℕ → Result Head FileFault
head_after front rest =
    if bytes_eq front magic
    then (if nat_lt (length rest) 53 then Err (Size 61 (8 + length rest)) else numbers_at (imprint_at (take 33 rest)) (drop 33 rest))
    else Err Magic

-- the head that the bytes begin with
unfoldable pub head_at : List ℕ → Result Head FileFault
head_at bytes = if nat_lt (length bytes) 8 then Err Magic else head_after (take 8 bytes) (drop 8 bytes)

-- ---- the roots

abbrev pub root_then : ℕ → Result (List ℕ) ImprintFault → (List ℕ → Result (List (List ℕ)) FileFault) → Result (List (List ℕ)) FileFault
root_then place (Ok root) next = next root
root_then place (Err fault) next = Err (Imprint place)

-- these roots, and n more, of which the first is at this place
abbrev pub roots_from : List (List ℕ) → (place n : ℕ) → List ℕ → Result (List (List ℕ)) FileFault
roots_from roots place zero bytes = Ok roots
roots_from roots place (suc n) bytes = root_then place (imprint_at (take 33 bytes)) (λ root. roots_from (roots ++ root ∷ []) (place + 33) n (drop 33 bytes))

-- ---- the file

abbrev pub with_roots : Head → Result (List (List ℕ)) FileFault → Result Contents FileFault
with_roots head (Ok roots) = Ok (record { plan = head.plan; start = head.start; number = head.number; roots = roots })
with_roots head (Err fault) = Err fault

-- K2 and K3: there are as many bytes as the head says, and they are imprints
abbrev pub file_of : List ℕ → Result Head FileFault → Result Contents FileFault
file_of bytes (Err fault) = Err fault
file_of bytes (Ok head) =
    if length bytes == 61 + 33 * head.count
    then with_roots head (roots_from [] 61 head.count (drop 61 bytes))
    else Err (Size (61 + 33 * head.count) (length bytes))

unfoldable pub file_at : List ℕ → Result Contents FileFault
file_at bytes = file_of bytes (head_at bytes)
