-- Why the elements behind a magic are refused, as it is said of the file.
use Rattle.std.proofs.Common.{◌≡◌, ◌++◌, List, ℕ, Result, Err, inr, refl, subst}
use Rattle.ksi_imprint.specs.Refused.{IfRefused}
use Rattle.ksi_imprint.specs.declared.refused.Refused.{Refused}
use Rattle.ksi_imprint.specs.declared.refused.Refused.TheVariants.{Fault, NoMemory}
use Rattle.ksi_tlv.specs.Walking.{PlacedTlv}
use Rattle.ksi_tlv.specs.Sequence.{IsFirstFault, IsWanting, Tells}
use Rattle.ksi_tlv.specs.Format.{Format, behind, end_of, IsFaultInside, IsFileFault, IsWantingInside}

abbrev refusal : {F : Type 0} → Refused F → Result (Unit {0}) (Refused F)
refusal refused = Err refused

pub inside_refused : {S F A : Type 0} (f : Format S F A) (wants : S → PlacedTlv → Type 0) (bytes rest : List ℕ) (s t : S) (refused : Refused F)
    → bytes ≡ f.magic ++ rest → s ≡ f.start → Tells f.order (end_of f rest) (behind f rest) s t (Err refused)
    → (refusal refused ≡ Err NoMemory → IsWanting f.order wants (behind f rest) s)
    → IfRefused {T = A} (Err refused) (IsFaultInside f bytes) (IsWantingInside f wants bytes)
inside_refused {S} f wants bytes rest s t (Fault fault) begins start told wanting =
    record { rest = rest; begins = begins; first = subst (λ (u : S). IsFirstFault f.order (end_of f rest) (behind f rest) u fault) start told }
inside_refused {S} f wants bytes rest s t NoMemory begins start told wanting =
    record { rest = rest; begins = begins; inside = subst (λ (u : S). IsWanting f.order wants (behind f rest) u) start (wanting refl) }

pub file_refused : {S F A : Type 0} (f : Format S F A) (wants : S → PlacedTlv → Type 0) (bytes rest : List ℕ) (s t : S) (refused : Refused F)
    → bytes ≡ f.magic ++ rest → s ≡ f.start → Tells f.order (end_of f rest) (behind f rest) s t (Err refused)
    → (refusal refused ≡ Err NoMemory → IsWanting f.order wants (behind f rest) s)
    → IfRefused {T = A} (Err refused) (IsFileFault f bytes) (IsWantingInside f wants bytes)
file_refused f wants bytes rest s t (Fault fault) begins start told wanting = inr (inside_refused f wants bytes rest s t (Fault fault) begins start told wanting)
file_refused f wants bytes rest s t NoMemory begins start told wanting = inside_refused f wants bytes rest s t NoMemory begins start told wanting
