-- Up to which seconds cores are known to hold nothing.
use Rattle.std.proofs.Common.{◌≡◌, ◌∙◌, ℕ, ◌<◌, ◌≤◌, List, length, sym, arith}
use Rattle.std.specs.Prelude.{replicate}
use Rattle.std.proofs.lemmas.List.{get_or-replicate, length-replicate}
use Rattle.std.proofs.lemmas.Option.{slice_get_within, get_or_from_slice_get}
use Rattle.ksi_corenode.specs.CoreState.{CoreState}
use Rattle.ksi_world.specs.Keeping.{AreKnown}

pub first_known : (cores : List CoreState) (start end n : ℕ) → start ≤ end → AreKnown cores start end (replicate n start)
first_known cores start end n le = λ j core one at here behind.
    let lt : j < length (replicate n start) = slice_get_within (replicate n start) j one here in
    let short = length-replicate n start in
    let is : start ≡ one = sym (get_or-replicate n j start 0 (omega (arith, lt, short))) ∙ get_or_from_slice_get (replicate n start) j one 0 here in
    (omega (arith, le, is), λ t from before. absurd (omega (arith, is, from, before)))

pub later_known : (cores : List CoreState) (from next end : ℕ) (known : List ℕ) → from ≤ next → AreKnown cores from end known → AreKnown cores next end known
later_known cores from next end known le are = λ j core one at here behind.
    let is = are j core one at here (omega (arith, le, behind)) in
    (is.0, λ t after before. is.1 t (omega (arith, le, after)) before)
