use Rattle.std.proofs.Common.{◌≡◌, ◌∙◌, ℕ, refl, sym, inl}
use Rattle.ksi_world.specs.Histories.{first_world, held_in, run}
use Rattle.ksi_laws_logs.specs.Logs.{forgetful_after}
use Rattle.ksi_laws_logs.proofs.Ending.{world_after}
use Rattle.ksi_laws_logs.proofs.laws.forgetful_cores_agree.Goals as goal

pub returns : goal.returns
returns c = λ image plan entries deeds is agree logs rounds given one other second root found has holds.
    let it = c.forgetful_logs_are_one_history.ensures.history image plan (first_world plan) (first_world plan).seconds entries deeds (λ j t. inl refl) agree logs rounds given in
    let held : (j : ℕ) → held_in (run image plan (first_world plan) it.0) j second ≡ (forgetful_after image plan j ((first_world plan).seconds j) (entries j) second).vote.held =
    (λ j. sym (c.forgetting_is_not_noticed.ensures.held ((run image plan (first_world plan) it.0).seconds j) (forgetful_after image plan j ((first_world plan).seconds j) (entries j)) (it.3 j) second)) in
    c.agreement.ensures image (record { plan = plan; events = it.0 }) is it.1 one other second root found
    (world_after image plan it.0 one second ∙ held one ∙ has) (world_after image plan it.0 other second ∙ held other ∙ holds)
