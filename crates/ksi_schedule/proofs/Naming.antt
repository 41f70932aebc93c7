-- A parent's line with a name is one without, and the name behind it.
use Rattle.std.proofs.Common.{◌≡◌, ◌∷◌, [], ℕ, List, Bool, Some, Result, Ok, Err, cond, codes, rules}
use Rattle.std.specs.Str.{bytes_eq}
use Rattle.ksi_schedule.specs.declared.fault.LineFault.{LineFault}
use Rattle.ksi_schedule.specs.declared.fault.LineFault.TheVariants.{Word}
use Rattle.ksi_schedule.specs.declared.parent.Parent.{Parent}
use Rattle.ksi_schedule.specs.Pieces.{Text}
use Rattle.ksi_schedule.specs.Plans.{PlanState}
use Rattle.ksi_schedule.specs.Words.{form_at, name_at, ◌>>=◌}
use Rattle.ksi_schedule.specs.Forms.{bare_parents, named_parents, parent}

-- a number and a bare parent, with the name
abbrev pub if_named : Bool → Result (ℕ × Parent) LineFault → Result Text LineFault → Result (ℕ × Parent) LineFault
if_named under bare name = cond under (bare >>= λ said. name >>= λ name. Ok (said.0, parent said.1.actor (Some name))) (Err Word)

pub named_as_bare : (plan : PlanState) (ws : List Text) (k word actor under name : Text) → ws ≡ k ∷ word ∷ actor ∷ under ∷ name ∷ []
    → form_at plan named_parents ws ≡ if_named (bytes_eq under (codes "name")) (form_at plan bare_parents (k ∷ word ∷ actor ∷ [])) (name_at name)
unfolding form_at
named_as_bare plan ws k word actor under name is = rw is (search rules)
