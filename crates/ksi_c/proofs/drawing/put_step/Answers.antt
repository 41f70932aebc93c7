use Rattle.std.proofs.Common.{◌≡◌, ◌∙◌, Some, None, sym, ap}
use Rattle.std.specs.Prelude.{is_some, option_map}
use Rattle.ksi_signature.specs.PartsSeen.{calendar_seen}
use Rattle.ksi_signature.specs.Seen.{seen}
use Rattle.ksi_signature.specs.Values.{Calendar}
use Rattle.ksi_verifier.specs.Lent.{calendar_of}
use Rattle.ksi_c.specs.Drawn.{step_or}
use Rattle.ksi_c.proofs.Lending.{same_steps}
use Rattle.ksi_c.proofs.drawing.put_step.Goals as goal

pub returns-in-None-clause-found : goal.returns-in-None-clause-found
returns-in-None-clause-found c =
    let calendar : None ≡ (seen c.args.signature.now).calendar = sym (ap (option_map calendar_seen) c.in-None.is) ∙ c.calendar.ensures in
    c.put.ensures.found ∙ ap is_some (c.find_step.ensures ∙ same_steps (seen c.args.signature.now) c.chains-chains.result.now None c.args.number c.chains-chains.ensures.chains calendar)

pub returns-in-None-clause-step : goal.returns-in-None-clause-step
returns-in-None-clause-step c =
    let calendar : None ≡ (seen c.args.signature.now).calendar = sym (ap (option_map calendar_seen) c.in-None.is) ∙ c.calendar.ensures in
    c.put.ensures.step ∙ ap (step_or c.args.out.now) (c.find_step.ensures ∙ same_steps (seen c.args.signature.now) c.chains-chains.result.now None c.args.number c.chains-chains.ensures.chains calendar)

pub returns-in-Some-clause-found : goal.returns-in-Some-clause-found
returns-in-Some-clause-found c =
    let calendar : Some (calendar_of c.lent_calendar-part.result) ≡ (seen c.args.signature.now).calendar =
    ap (λ (x : Calendar). Some x) c.lent_calendar-part.ensures ∙ sym (ap (option_map calendar_seen) c.in-Some.is) ∙ c.calendar.ensures in
    c.put-in-Some.ensures.found
    ∙ ap is_some (c.find_step-in-Some.ensures ∙ same_steps (seen c.args.signature.now) c.chains-chains.result.now (Some (calendar_of c.lent_calendar-part.result)) c.args.number c.chains-chains.ensures.chains calendar)

pub returns-in-Some-clause-step : goal.returns-in-Some-clause-step
returns-in-Some-clause-step c =
    let calendar : Some (calendar_of c.lent_calendar-part.result) ≡ (seen c.args.signature.now).calendar =
    ap (λ (x : Calendar). Some x) c.lent_calendar-part.ensures ∙ sym (ap (option_map calendar_seen) c.in-Some.is) ∙ c.calendar.ensures in
    c.put-in-Some.ensures.step
    ∙ ap (step_or c.args.out.now) (c.find_step-in-Some.ensures ∙ same_steps (seen c.args.signature.now) c.chains-chains.result.now (Some (calendar_of c.lent_calendar-part.result)) c.args.number c.chains-chains.ensures.chains calendar)
