-- What is written is read again.
use Rattle.std.proofs.Common.{◌≡◌, ℕ, ◌+◌, ◌^◌, ◌<◌, ◌≤◌, List, [], ◌∷◌, ◌++◌, length, get_or, suc, Ok, refl, sym, ap, ◌∙◌, arith, append_assoc, append-nil}
use Rattle.std.specs.List.{AllByRecursion}
use Rattle.std.proofs.lemmas.Bool.{le-ltb}
use Rattle.ksi_imprint.specs.Imprints.{IsImprint}
use Rattle.ksi_tlv.specs.Spelling.{Tlv, FitsLong, plain, canonical}
use Rattle.ksi_tlv.specs.Walking.{placed_at}
use Rattle.ksi_tlv.specs.Numerals.{numeral}
use Rattle.ksi_tlv.specs.Writing.{placed}
use Rattle.ksi_tlv.specs.Sequence.{Leads}
use Rattle.ksi_tlv.proofs.Again.{Written, time_again, imprint_again, fits_number, fits_imprint, file_again}
use Rattle.ksi_consistency.specs.declared.stage.Stage.TheVariants as stages
use Rattle.ksi_consistency.specs.Elements.{Contents, IsFront, Said, with_old, old_at, with_new, new_at, with_imprint, next_at, element_read, front_order, nothing_yet}
use Rattle.ksi_consistency.specs.File.{front_format, IsFrontFile}
use Rattle.ksi_consistency.specs.Written.{imprint_elements, front_elements, front_text}

-- each member of a list
pub each_of : (list : List (List ℕ)) → ((k : ℕ) → k < length list → IsImprint (get_or list k [])) → AllByRecursion IsImprint list
each_of [] each = tt
each_of (x ∷ list) each = (each 0 (omega arith), each_of list (λ k below. each (suc k) (omega (arith, below))))

-- the state behind imprints
abbrev after_imprints : Said → List (List ℕ) → Said
after_imprints s [] = s
after_imprints s (x ∷ list) = after_imprints (with_imprint s x) list

imprints_after : (s : Said) (list : List (List ℕ)) → (after_imprints s list).contents ≡ record s.contents { list = s.contents.list ++ list }
imprints_after s [] = ap (λ (xs : List (List ℕ)). record s.contents { list = xs }) (sym (append-nil s.contents.list))
imprints_after s (x ∷ list) = imprints_after (with_imprint s x) list ∙ ap (λ (xs : List (List ℕ)). record s.contents { list = xs }) (append_assoc s.contents.list (x ∷ []) list)

stage_after : (s : Said) (list : List (List ℕ)) → (after_imprints s list).stage ≡ s.stage
stage_after s [] = refl
stage_after s (x ∷ list) = stage_after (with_imprint s x) list

module _ (laws : Written) where
  imprints_fit : (list : List (List ℕ)) → AllByRecursion IsImprint list → AllByRecursion FitsLong (imprint_elements list)
  imprints_fit [] is = tt
  imprints_fit (x ∷ list) is = (fits_imprint 3 x (omega arith) is.0, imprints_fit list is.1)

  old_again : (place n p : ℕ) → p < 2 ^ 63 → element_read nothing_yet (placed_at place (plain 1 (numeral p)) n) ≡ Ok (with_old nothing_yet p)
  unfolding element_read old_at
  old_again place n p early = rw (time_again laws (placed_at place (plain 1 (numeral p)) n) p refl early) refl

  new_again : (place n p q : ℕ) → p ≤ q → q < 2 ^ 63 → element_read (with_old nothing_yet p) (placed_at place (plain 2 (numeral q)) n) ≡ Ok (with_new (with_old nothing_yet p) q)
  unfolding element_read new_at
  new_again place n p q within early = rw (time_again laws (placed_at place (plain 2 (numeral q)) n) q refl early, le-ltb q p within) refl

  next_again : (s : Said) (place n : ℕ) (x : List ℕ) → IsImprint x → element_read s (placed_at place (plain 3 x) n) ≡ Ok (with_imprint s x)
  unfolding element_read next_at
  next_again s place n x is = rw (imprint_again (placed_at place (plain 3 x) n) is) refl

  imprints_again : (s : Said) (list : List (List ℕ)) (place : ℕ) → s.stage ≡ stages.Imprints → AllByRecursion IsImprint list → Leads front_order s (placed place (imprint_elements list)) (after_imprints s list)
  imprints_again s [] place stage is = refl
  imprints_again s (x ∷ list) place stage is =
      (refl, rw stage refl, (with_imprint s x, next_again s place (length (canonical (plain 3 x))) x is.0, imprints_again (with_imprint s x) list (place + length (canonical (plain 3 x))) stage is.1))

  pub front_again : (front : Contents) → IsFront front → IsFrontFile (front_text front) front
  unfolding front_format
  front_again front is =
      let a = with_old nothing_yet front.p1 in
      let b = with_new a front.p2 in
      let t = after_imprints b front.list in
      let one : Tlv = plain 1 (numeral front.p1) in
      let two : Tlv = plain 2 (numeral front.p2) in
      let p = 8 + length (canonical one) in
      file_again laws front_format (front_elements front) front t
      (fits_number laws 1 front.p1 (omega arith), (fits_number laws 2 front.p2 (omega arith), imprints_fit front.list is.imprints)) (
        refl,
        refl,
        (
          a,
          old_again 8 (length (canonical one)) front.p1 (omega (arith, is.bounded.within, is.bounded.early)),
          (
            refl,
            refl,
            (
              b,
              new_again p (length (canonical two)) front.p1 front.p2 is.bounded.within is.bounded.early,
              imprints_again b front.list (p + length (canonical two)) refl is.imprints,
            ),
          ),
        ),
      )
      (rw (stage_after b front.list) refl) (sym (imprints_after b front.list))
