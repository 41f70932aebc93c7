use Rattle.std.proofs.Common.{List, [], ◌∷◌, ◌++◌, ◌∙◌, ap, sym}
use Rattle.ksi_schedule.specs.Events.{History}
use Rattle.ksi_world.specs.Histories.{first_world, world_of}
use Rattle.ksi_records.specs.declared.mark.Mark.{Mark}
use Rattle.ksi_records.specs.Marks.{mark_of, marks_from}
use Rattle.ksi_records.proofs.MarkLemmas.{marks_more}
use Rattle.ksi_records.proofs.tracer.Tracer.happen.Goals as goal

pub invariant_of-self-2 : goal.invariant_of-self-2
invariant_of-self-2 g c =
    let image = g.C.Compress.image in
    let old = c.self.inside.world in
    let is = c.in_ok-outcome.ensures.event in
    c.push_reserved.ensures.items ∙ ap (λ (marks : List Mark). marks ++ c.mark.result ∷ []) (c.in_ok-reserve.ensures.items ∙ c.self.invariant)
    ∙ ap (λ (mark : Mark). marks_from image old.plan (first_world old.plan) old.events ++ mark ∷ []) (c.mark.ensures ∙ ap (λ (h : History). mark_of (world_of image h)) is)
    ∙ sym (marks_more image old.plan old.events c.args.event)
    ∙ sym (ap (λ (h : History). marks_from image h.plan (first_world h.plan) h.events) is)
