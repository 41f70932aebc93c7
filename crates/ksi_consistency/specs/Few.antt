-- A front's file, of which at most 65 imprints are kept: a front has at most 64.
use Rattle.std.specs.Prelude.{◌≡◌, ℕ, ◌==◌, ◌&&◌, List, take, Result, Ok, Err, if◌then◌else◌}
use Rattle.ksi_tlv.specs.Walking.{PlacedTlv}
use Rattle.ksi_tlv.specs.Order.{Order}
use Rattle.ksi_consistency.specs.declared.fault.FrontFault.{FrontFault}
use Rattle.ksi_consistency.specs.declared.refusal.FrontRefusal.{FrontRefusal}
use Rattle.ksi_consistency.specs.declared.file_refusal.FileRefusal.{FileRefusal}
use Rattle.ksi_consistency.specs.declared.file_refusal.FileRefusal.TheVariants.{Malformed, OtherSeconds, NotAccepted}
use Rattle.ksi_consistency.specs.Checked.{front_checked}
use Rattle.ksi_consistency.specs.Elements.{Contents, Said, element_read, front_order}
use Rattle.ksi_consistency.specs.File.{IsFrontFile}

-- the same with at most 65 imprints, the first ones
abbrev pub few : Contents → Contents
few front = record front { list = take 65 front.list }

abbrev pub few_at : Result Contents FrontFault → Result Contents FrontFault
few_at (Ok front) = Ok (few front)
few_at (Err fault) = Err fault

abbrev pub few_said : Said → Said
few_said s = record s { contents = few s.contents }

abbrev pub few_read : Result Said FrontFault → Result Said FrontFault
few_read (Ok s) = Ok (few_said s)
few_read (Err fault) = Err fault

-- the order of the elements of a front's file, of which so much is kept
abbrev pub few_order : Order Said FrontFault
few_order = record {
  next = front_order.next;
  read = λ s at. few_read (element_read s at);
  closed = front_order.closed;
  whole = front_order.whole;
  named = front_order.named;
}

-- memory never runs out
abbrev pub Never : Said → PlacedTlv → Type 0
Never s at = ⊥

-- ---- a file between two roots

abbrev pub or_refused : Result (Unit {0}) FrontRefusal → Result (Unit {0}) FileRefusal
or_refused (Ok u) = Ok tt
or_refused (Err refusal) = Err (NotAccepted refusal)

-- its seconds are the given ones, and it is accepted
abbrev pub few_checked : (List ℕ → List ℕ) → (p1 p2 : ℕ) → (old new : List ℕ) → Contents → Result (Unit {0}) FileRefusal
few_checked image p1 p2 old new front =
    if front.p1 == p1 && front.p2 == p2
    then or_refused (front_checked image p1 p2 old new front.list)
    else Err (OtherSeconds front.p1 front.p2)

-- The bytes are the file of a front, its seconds are the given ones, and it is accepted. Of more than 65 imprints F1 counts 65.
abbrev pub file_checked : (List ℕ → List ℕ) → (p1 p2 : ℕ) → (old new : List ℕ) → Result Contents FrontFault → Result (Unit {0}) FileRefusal
file_checked image p1 p2 old new (Err fault) = Err (Malformed fault)
file_checked image p1 p2 old new (Ok front) = few_checked image p1 p2 old new (few front)

-- the bytes are the file of a front from second p1 to p2, which is accepted between both roots
pub record IsFileBetween (image : List ℕ → List ℕ) (p1 p2 : ℕ) (old new : List ℕ) (bytes : List ℕ) : Type 0 where
  pub list : List (List ℕ)
  pub file : IsFrontFile bytes (record { p1 = p1; p2 = p2; list = list })
  pub accepted : front_checked image p1 p2 old new list ≡ Ok tt
