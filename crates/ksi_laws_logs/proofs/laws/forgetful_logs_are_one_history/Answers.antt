use Rattle.std.proofs.Common.{◌≡◌, ◌∙◌, ℕ, List, sym, ap, subst}
use Rattle.ksi_corenode.specs.SecondState.{SecondState}
use Rattle.ksi_schedule.specs.Plans.{core_plan_of}
use Rattle.ksi_world.specs.Histories.{run}
use Rattle.ksi_records.specs.Logs.{Deed, CoreAgrees, renamed}
use Rattle.ksi_laws_forgetting.specs.Forgotten.{AreForgotten}
use Rattle.ksi_laws_logs.specs.Logs.{forgetful_after, whole_after, deeds_of}
use Rattle.ksi_laws_logs.proofs.Forgetful.{log_ends}
use Rattle.ksi_laws_logs.proofs.Ending.{own_deeds, renamed_ends, world_ends}
use Rattle.ksi_laws_logs.proofs.laws.forgetful_logs_are_one_history.Goals as goal

pub returns-clause-history : goal.returns-clause-history
returns-clause-history c = λ image plan w forgot entries deeds are agree logs rounds given.
    let turns = c.events_are_turns.ensures in
    let not_noticed = c.forgetting_is_not_noticed.ensures in
    let found = c.logs_are_one_history.ensures.history image plan w deeds
    (c.logs_are_put_together.ensures.cores image plan w.seconds deeds
    (λ j. subst (λ (l : List Deed). CoreAgrees image plan j (w.seconds j) l) (sym (logs j)) (c.forgetful_logs_are_logs.ensures image plan j (w.seconds j) (forgot j) (entries j) (are j) (agree j))))
    rounds given in (
      found.0,
      found.1,
      found.2,
      λ j.
          let ends : (run image plan w found.0).seconds j ≡ whole_after image plan j (w.seconds j) (deeds_of j (entries j)) =
          world_ends image plan (turns.seconds image plan) turns.others (turns.still image plan) (turns.restarted image plan) deeds w found.0 j found.2
          ∙ own_deeds image plan j deeds (w.seconds j) ∙ ap (λ (l : List Deed). whole_after image plan j (w.seconds j) l) (logs j) in
          subst (λ (s : ℕ → SecondState). AreForgotten s (forgetful_after image plan j (forgot j) (entries j))) (sym ends)
          (log_ends image plan j (not_noticed.alike image (core_plan_of plan) plan.start j) (not_noticed.after image (core_plan_of plan) plan.start j) not_noticed.restart not_noticed.again
          (entries j) (w.seconds j) (forgot j) (are j) (agree j)),
    )

pub returns-clause-renamed : goal.returns-clause-renamed
returns-clause-renamed c = λ image plan name w rounds forgot entries deeds named are agree logs rounds_agree given.
    let turns = c.events_are_turns.ensures in
    let not_noticed = c.forgetting_is_not_noticed.ensures in
    let found = c.logs_are_one_history.ensures.renamed image plan name w rounds deeds named
    (c.logs_are_put_together.ensures.cores image plan w.seconds deeds
    (λ j. subst (λ (l : List Deed). CoreAgrees image plan j (w.seconds j) l) (sym (logs j)) (c.forgetful_logs_are_logs.ensures image plan j (w.seconds j) (forgot j) (entries j) (are j) (agree j))))
    rounds_agree given in (
      found.0,
      found.1,
      found.2,
      λ j.
          let ends : (run image plan w found.0).seconds j ≡ whole_after image plan j (w.seconds j) (deeds_of j (entries j)) =
          world_ends image plan (turns.seconds image plan) turns.others (turns.still image plan) (turns.restarted image plan) (renamed name deeds) w found.0 j found.2
          ∙ renamed_ends image plan name j deeds (w.seconds j)
          ∙ own_deeds image plan j deeds (w.seconds j) ∙ ap (λ (l : List Deed). whole_after image plan j (w.seconds j) l) (logs j) in
          subst (λ (s : ℕ → SecondState). AreForgotten s (forgetful_after image plan j (forgot j) (entries j))) (sym ends)
          (log_ends image plan j (not_noticed.alike image (core_plan_of plan) plan.start j) (not_noticed.after image (core_plan_of plan) plan.start j) not_noticed.restart not_noticed.again
          (entries j) (w.seconds j) (forgot j) (are j) (agree j)),
    )
