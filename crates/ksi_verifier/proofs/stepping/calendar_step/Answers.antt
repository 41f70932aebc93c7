use Rattle.std.proofs.Common.{length, refl, sym}
use Rattle.std.proofs.lemmas.Option.{slice_get_read}
use Rattle.ksi_verifier.proofs.AlongCalendar.{none_past, step_is}
use Rattle.ksi_verifier.proofs.stepping.calendar_step.Goals as goal

pub returns-then-place-links : goal.returns-then-place-links
returns-then-place-links g c = sym (none_past g.C.Compress.image 0 c.args.input c.args.links.now c.args.place c.if-place-links.true)

pub returns : goal.returns
returns g c =
    step_is g.C.Compress.image c.args.input c.args.links.now c.args.place c.index-links-place.result _ _ _ _
    (slice_get_read c.args.links.now (length c.args.links.now) c.args.place c.index-links-place.result refl c.if-place-links.false c.index-links-place.is)
    c.climb_calendar-node.ensures.value c.bytes.ensures.value c.bytes-2.ensures.value c.join_beside.ensures
