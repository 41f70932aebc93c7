-- The plan of generated schedules is one.
use Rattle.std.proofs.Common.{◌≡◌, ℕ, zero, suc, ◌<◌, length, subst, arith, Some}
use Rattle.std.specs.Prelude.{slice_get, IfSome}
use Rattle.ksi_aggtree.specs.Names.{IsName}
use Rattle.ksi_schedule.specs.declared.parent.Parent.{Parent}
use Rattle.ksi_schedule.specs.declared.actor.Actor.TheVariants as actors
use Rattle.ksi_schedule.specs.Plans.{IsPlan, IsParent, ReachesCore, name_of}
use Rattle.ksi_replay.specs.Generate.{bare, header, parents}

parents_are : (k : ℕ) (parent : Parent) → slice_get parents k ≡ Some parent → IsParent 3 k parent.actor
parents_are zero parent at = let same : bare (actors.Core 0) ≡ parent = cc at in subst (λ p. IsParent 3 0 p.actor) same (omega arith)
parents_are (suc zero) parent at = let same : bare (actors.Core 1) ≡ parent = cc at in subst (λ p. IsParent 3 1 p.actor) same (omega arith)
parents_are (suc (suc zero)) parent at = let same : bare (actors.Core 2) ≡ parent = cc at in subst (λ p. IsParent 3 2 p.actor) same (omega arith)
parents_are (suc (suc (suc zero))) parent at = let same : bare (actors.Aggregator 0) ≡ parent = cc at in subst (λ p. IsParent 3 3 p.actor) same (omega arith)
parents_are (suc (suc (suc (suc zero)))) parent at = let same : bare (actors.Aggregator 1) ≡ parent = cc at in subst (λ p. IsParent 3 4 p.actor) same (omega arith)
parents_are (suc (suc (suc (suc (suc zero))))) parent at = let same : bare (actors.Aggregator 3) ≡ parent = cc at in subst (λ p. IsParent 3 5 p.actor) same (omega arith)
parents_are (suc (suc (suc (suc (suc (suc k)))))) parent at = absurd (cc at)

no_names : (k : ℕ) → IfSome (name_of header k) IsName
no_names zero = tt
no_names (suc zero) = tt
no_names (suc (suc zero)) = tt
no_names (suc (suc (suc zero))) = tt
no_names (suc (suc (suc (suc zero)))) = tt
no_names (suc (suc (suc (suc (suc zero))))) = tt
no_names (suc (suc (suc (suc (suc (suc k)))))) = tt

reach : (k : ℕ) → k < length parents → ReachesCore header 8 (actors.Aggregator k)
unfolding ReachesCore
reach zero lt = omega arith
reach (suc zero) lt = omega arith
reach (suc (suc zero)) lt = omega arith
reach (suc (suc (suc zero))) lt = omega arith
reach (suc (suc (suc (suc zero)))) lt = omega arith
reach (suc (suc (suc (suc (suc zero))))) lt = omega arith
reach (suc (suc (suc (suc (suc (suc k)))))) lt = absurd (omega (arith, lt))

pub is_plan : IsPlan header
is_plan = record { core_plan = record { some = omega arith; few = omega arith; early = omega arith; many = omega arith; rising = tt; pairs = tt }; many = omega arith; parents = parents_are; names = no_names; low = reach }
