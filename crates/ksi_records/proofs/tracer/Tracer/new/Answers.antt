use Rattle.std.proofs.Common.{List, [], ◌∷◌, ◌++◌, ◌∙◌, ap, sym}
use Rattle.ksi_schedule.specs.Events.{History}
use Rattle.ksi_world.specs.Histories.{first_world, world_of}
use Rattle.ksi_records.specs.declared.mark.Mark.{Mark}
use Rattle.ksi_records.specs.Marks.{mark_of, marks_from}
use Rattle.ksi_records.proofs.MarkLemmas.{first_mark}
use Rattle.ksi_records.proofs.tracer.Tracer.new.Goals as goal

pub invariant_of-result : goal.invariant_of-result
invariant_of-result g c =
    let image = g.C.Compress.image in
    let is = c.in_ok-world.ensures in
    c.in_ok-push.ensures.items ∙ ap (λ (marks : List Mark). marks ++ c.mark.result ∷ []) c.new-marks.ensures.items
    ∙ ap (λ (mark : Mark). mark ∷ []) (c.mark.ensures ∙ ap (λ (h : History). mark_of (world_of image h)) is)
    ∙ first_mark image c.args.plan.now
    ∙ sym (ap (λ (h : History). marks_from image h.plan (first_world h.plan) h.events) is)
