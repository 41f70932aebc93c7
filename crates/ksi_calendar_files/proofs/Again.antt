-- The text of a file is read as the file.
use Rattle.std.specs.Int.{w32, w64, to_be_bytes}
use Rattle.std.specs.List.{AllByRecursion}
use Rattle.std.proofs.Common.{◌≡◌, ◌∙◌, ℕ, suc, ◌+◌, ◌*◌, ◌^◌, ◌<◌, nat_eq, Bool, if◌then◌else◌, List, [], ◌∷◌, ◌++◌, length, take, drop, Result, Ok, Err, refl, ap, sym, arith, append_assoc, append-nil, length-append, le-ltb, eq-eqb}
use Rattle.std.proofs.lemmas.Bool.Decides.{nat_tests}
use Rattle.std.proofs.lemmas.List.{take_at, drop_at, drop-drop}
use Rattle.std.proofs.lemmas.Nat.{from_be_bytes-to_be_bytes_4, from_be_bytes-to_be_bytes_8}
use Rattle.ksi_imprint.specs.Imprints.{IsImprint}
use Rattle.ksi_imprint.specs.Reading.{imprint_at}
use Rattle.ksi_imprint.specs.declared.fault.ImprintFault.{ImprintFault}
use Rattle.ksi_imprint.specs.declared.fault.ImprintFault.TheVariants.{Algorithm, Length}
use Rattle.ksi_calendar_files.specs.declared.fault.FileFault.{FileFault}
use Rattle.ksi_calendar_files.specs.declared.fault.FileFault.TheVariants.{Magic, Size}
use Rattle.ksi_calendar_files.specs.declared.head.Head.{Head}
use Rattle.ksi_calendar_files.specs.File.{Contents, IsBounded, IsFile, file_text, magic, roots_text}
use Rattle.ksi_calendar_files.specs.Reading.{bounded, file_at, file_of, head_after, head_at, numbers_at, roots_from, with_roots}
use Rattle.ksi_calendar_files.proofs.Roots.{next_root}

imprint_again : (x : List ℕ) → IsImprint x → imprint_at x ≡ Ok x
imprint_again [] is = absurd (omega (arith, is.size))
imprint_again (a ∷ digest) is =
    let one : a ≡ 1 = is.algorithm in
    let size : length digest ≡ 32 = omega (arith, is.size) in
    ap (λ (b : Bool). if b then (if nat_eq (length digest) 32 then Ok (a ∷ digest) else Err (Length (length (a ∷ digest)))) else Err (Algorithm a)) (eq-eqb a 1 one)
    ∙ ap (λ (b : Bool). if b then Ok (a ∷ digest) else Err (Length (length (a ∷ digest)))) (eq-eqb (length digest) 32 size)

front_again : (x more : List ℕ) → IsImprint x → imprint_at (take 33 (x ++ more)) ≡ Ok x
front_again x more is = ap imprint_at (take_at x more 33 is.size) ∙ imprint_again x is

pub roots_again : (done roots : List (List ℕ)) (place : ℕ) → AllByRecursion IsImprint roots → roots_from done place (length roots) (roots_text roots) ≡ Ok (done ++ roots)
roots_again done [] place each = ap Ok (sym (append-nil done))
roots_again done (root ∷ roots) place each =
    next_root done (done ++ root ∷ []) place (place + 33) (suc (length roots)) (length roots) (root ++ roots_text roots) (roots_text roots) root refl refl refl (sym (drop_at root (roots_text roots) 33 each.0.size)) (front_again root (roots_text roots) each.0)
    ∙ roots_again (done ++ root ∷ []) roots (place + 33) each.1
    ∙ ap Ok (append_assoc done (root ∷ []) roots)

pub roots_size : (roots : List (List ℕ)) → AllByRecursion IsImprint roots → length (roots_text roots) ≡ 33 * length roots
roots_size [] each = refl
roots_size (root ∷ roots) each = let here = each.0.size in omega (arith, length-append root (roots_text roots), roots_size roots each.1)

bounded_again : (head : Head) → IsBounded head.start head.number head.count → bounded head ≡ Ok head
bounded_again head is =
    let early = is.early in
    let low = is.low in
    let some = is.some in
    let within = is.within in
    grind (arith, nat_tests)

numbers_again : (plan rest : List ℕ) (start number count : ℕ) → IsBounded start number count
    → numbers_at (Ok plan) (to_be_bytes w64 start ++ (to_be_bytes w64 number ++ (to_be_bytes w32 count ++ rest))) ≡ Ok (record { plan = plan; start = start; number = number; count = count })
numbers_again plan rest start number count is =
    let early : start < 2 ^ 64 = omega (arith, is.early) in
    let low : number < 2 ^ 64 = omega (arith, is.low) in
    let few : count < 2 ^ 32 = omega (arith, is.within) in
    let of : ℕ → ℕ → ℕ → Result Head FileFault = λ s n k. bounded (record { plan = plan; start = s; number = n; count = k }) in
    (λ i. of (from_be_bytes-to_be_bytes_8 start early i) (from_be_bytes-to_be_bytes_8 number low i) (from_be_bytes-to_be_bytes_4 count few i))
    ∙ bounded_again (record { plan = plan; start = start; number = number; count = count }) is

module _ (file : Contents) (is : IsFile file) where
  numbers_text : List ℕ
  numbers_text = to_be_bytes w64 file.start ++ (to_be_bytes w64 file.number ++ (to_be_bytes w32 (length file.roots) ++ roots_text file.roots))

  rest_text : List ℕ
  rest_text = file.plan ++ numbers_text

  rest_size : length rest_text ≡ 53 + 33 * length file.roots
  unfolding numbers_text rest_text
  rest_size = omega (arith, length-append file.plan numbers_text, is.plan.size, roots_size file.roots is.roots)

  this_head : Head
  this_head = record { plan = file.plan; start = file.start; number = file.number; count = length file.roots }

  head_again : head_after magic rest_text ≡ Ok this_head
  unfolding numbers_text rest_text this_head
  head_again =
      ap (λ (b : Bool). if b then Err (Size 61 (8 + length rest_text)) else numbers_at (imprint_at (take 33 rest_text)) (drop 33 rest_text)) (le-ltb (length rest_text) 53 (omega (arith, rest_size)))
      ∙ ap (λ (l : List ℕ). numbers_at (imprint_at (take 33 rest_text)) l) (drop_at file.plan numbers_text 33 is.plan.size)
      ∙ ap (λ (r : Result (List ℕ) ImprintFault). numbers_at r numbers_text) (front_again file.plan numbers_text is.plan)
      ∙ numbers_again file.plan (roots_text file.roots) file.start file.number (length file.roots) is.bounded

  bytes_size : length (file_text file) ≡ 61 + 33 * length file.roots
  unfolding rest_text numbers_text
  bytes_size = omega (arith, rest_size)

  head_is : head_at (file_text file) ≡ Ok this_head
  unfolding head_at rest_text numbers_text
  head_is = ap (λ (b : Bool). if b then Err Magic else head_after magic rest_text) (le-ltb (length (file_text file)) 8 (omega (arith, bytes_size))) ∙ head_again

  roots_are : drop 61 (file_text file) ≡ roots_text file.roots
  unfolding rest_text numbers_text
  roots_are = sym (drop-drop 20 33 rest_text) ∙ ap (drop 20) (drop_at file.plan numbers_text 33 is.plan.size)

  pub again : file_at (file_text file) ≡ Ok file
  unfolding file_at this_head
  again =
      let bytes = file_text file in
      let count = length file.roots in
      ap (file_of bytes) head_is
      ∙ ap (λ (b : Bool). if b then with_roots this_head (roots_from [] 61 count (drop 61 bytes)) else Err (Size (61 + 33 * count) (length bytes))) (eq-eqb (length bytes) (61 + 33 * count) bytes_size)
      ∙ ap (with_roots this_head) (ap (λ (l : List ℕ). roots_from [] 61 count l) roots_are ∙ roots_again [] file.roots 61 is.roots)
