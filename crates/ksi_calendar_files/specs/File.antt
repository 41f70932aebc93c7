-- Calendar files: the roots of the seconds of a plan, those from 4,096 times the file's number on.
use Rattle.std.specs.Int.{w32, w64, to_be_bytes}
use Rattle.std.specs.List.{AllByRecursion}
use Rattle.std.specs.Prelude.{ℕ, ◌+◌, ◌*◌, ◌^◌, ◌<◌, ◌≤◌, max, List, [], ◌∷◌, ◌++◌, length, codes}
use Rattle.ksi_imprint.specs.Imprints.{IsImprint}

-- the digest of the plan, the plan's first second, the file's number, and the roots of its seconds
pub record Contents : Type 0 where
  pub plan : List ℕ
  pub start : ℕ
  pub number : ℕ
  pub roots : List (List ℕ)

-- the second of the first root
abbrev pub first_second : (start number : ℕ) → ℕ
first_second start number = max start (4096 * number)

-- the numbers of a file's head: it has at least one second, and none after its 4,096
pub record IsBounded (start number count : ℕ) : Type 0 where
  pub early : start < 2 ^ 63
  pub low : number < 2 ^ 51
  pub some : 0 < count
  pub within : first_second start number + count ≤ 4096 * (number + 1)

pub record IsFile (file : Contents) : Type 0 where
  pub plan : IsImprint file.plan
  pub bounded : IsBounded file.start file.number (length file.roots)
  pub roots : AllByRecursion IsImprint file.roots

-- the eight bytes that a file begins with
abbrev pub magic : List ℕ
magic = codes "KSIROOT1"

-- the roots, one after the other
abbrev pub roots_text : List (List ℕ) → List ℕ
roots_text [] = []
roots_text (root ∷ roots) = root ++ roots_text roots

-- the bytes of a file: the magic, the digest, three numbers with the most significant byte first, and the roots
abbrev pub file_text : Contents → List ℕ
file_text file = magic ++ (file.plan ++ (to_be_bytes w64 file.start ++ (to_be_bytes w64 file.number ++ (to_be_bytes w32 (length file.roots) ++ roots_text file.roots))))
