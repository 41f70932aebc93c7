-- Roots held before a horizon, by a core and by its facts.
use Rattle.std.proofs.Common.{◌≡◌, ◌∙◌, ℕ, ◌<◌, ◌≤◌, List, sym, ap}
use Rattle.std.specs.Prelude.{is_some, IsSome, nat_le, nat_lt}
use Rattle.std.proofs.lemmas.Bool.{and_parts, leb-true, ltb-true}
use Rattle.ksi_corenode.specs.declared.fact.Fact.{Fact}
use Rattle.ksi_corenode.specs.Facts.{StableState, stable_state}
use Rattle.ksi_corenode.specs.Lawful.{stored_by}
use Rattle.ksi_corenode.specs.CoreState.{CoreState, state_of, held_by}
use Rattle.ksi_laws_forgetting.specs.Left.{AreHeld}
use Rattle.ksi_forgetting.specs.Puts.{is_early}

pub held_early : (start horizon : ℕ) (facts : List Fact) (core : CoreState) → ((t : ℕ) → stable_state (state_of core t) ≡ stored_by facts t) →
    ((t : ℕ) → start ≤ t → t < horizon → IsSome (held_by core t)) → AreHeld (is_early start horizon) facts
held_early start horizon facts core stored held t is =
    let parts = and_parts (nat_le start t) (nat_lt t horizon) is in
    ap (λ (s : StableState). is_some s.held) (sym (stored t)) ∙ held t (leb-true start t parts.0) (ltb-true t horizon parts.1)
