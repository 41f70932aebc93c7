-- What is answered to C of a front's file between two roots. The file has the number 4.
use Rattle.std.specs.Prelude.{ℕ, List, Result, Ok, Err}
use Rattle.ksi_consistency.specs.declared.fault.FrontFault.{FrontFault}
use Rattle.ksi_consistency.specs.declared.fault.FrontFault.TheVariants.{Magic, Tlv, Order, Imprint, Number}
use Rattle.ksi_consistency.specs.declared.refusal.FrontRefusal.{FrontRefusal}
use Rattle.ksi_consistency.specs.declared.refusal.FrontRefusal.TheVariants.{Length, OldDiffers, NewDiffers}
use Rattle.ksi_consistency.specs.declared.file_refusal.FileRefusal.{FileRefusal}
use Rattle.ksi_consistency.specs.declared.file_refusal.FileRefusal.TheVariants.{Malformed, OtherSeconds, NotAccepted}
use Rattle.ksi_c.specs.declared.told.Told.{Told}
use Rattle.ksi_c.specs.declared.answer.KsiAnswer.{KsiAnswer}
use Rattle.ksi_c.specs.Answers.{answer, digests_told, numbers_told}

-- the fault of a front's file, by its number: C1 to C5
abbrev pub front_fault_told : FrontFault → Told
front_fault_told Magic = numbers_told 1 0 0 0 0
front_fault_told (Tlv place) = numbers_told 2 place 0 0 0
front_fault_told (Order place) = numbers_told 3 place 0 0 0
front_fault_told (Imprint place) = numbers_told 4 place 0 0 0
front_fault_told (Number place) = numbers_told 5 place 0 0 0

-- the check that fails, by its number: F1 to F3
abbrev pub front_refusal_told : FrontRefusal → Told
front_refusal_told (Length needed given) = numbers_told 1 needed given 0 0
front_refusal_told (OldDiffers computed given) = digests_told 2 0 0 computed given
front_refusal_told (NewDiffers computed given) = digests_told 3 0 0 computed given

-- F5: the front has other seconds
abbrev pub front_answered : Result (Unit {0}) FileRefusal → KsiAnswer
front_answered (Ok u) = answer 0 0 0 (numbers_told 0 0 0 0 0)
front_answered (Err (Malformed fault)) = answer 3 4 0 (front_fault_told fault)
front_answered (Err (OtherSeconds p1 p2)) = answer 1 4 0 (numbers_told 5 p1 p2 0 0)
front_answered (Err (NotAccepted refusal)) = answer 1 4 0 (front_refusal_told refusal)
