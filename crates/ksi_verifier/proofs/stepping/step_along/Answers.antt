use Rattle.std.proofs.Common.{◌∙◌, get_or, false, [], sym, ap, arith}
use Rattle.std.specs.Prelude.{option_map}
use Rattle.std.proofs.lemmas.List.{take-map}
use Rattle.std.proofs.lemmas.Option.{slice_get-map, slice_get-get_or}
use Rattle.ksi_aggtree.specs.Climbing.{climbed}
use Rattle.ksi_aggtree.specs.Lent.{lent_link, lent_links}
use Rattle.ksi_aggtree.specs.declared.chains.link_view.LinkView.{LinkView}
use Rattle.ksi_split.specs.declared.side.Side.TheVariants.{Left}
use Rattle.ksi_verifier.proofs.Along.{none_below, none_here, step_is}
use Rattle.ksi_verifier.proofs.stepping.step_along.Goals as goal

-- what is read where a list has no link
abbrev blank : LinkView
blank = record { side = Left; correction = 0; sibling = record { ref_ptr = (0, 0); now = [] }; raw = false }

pub returns-in-Err : goal.returns-in-Err
returns-in-Err g c =
    let image = g.C.Compress.image in
    let links = c.args.links.now in
    sym (none_below image c.args.chain 0 c.args.start (lent_links links) c.args.place c.in-Err.field-0
    (ap (climbed image 0 c.args.start) (take-map lent_link c.args.place links) ∙ sym c.in-Err.ensures.value))

pub returns-then-level : goal.returns-then-level
returns-then-level g c =
    let image = g.C.Compress.image in
    let links = c.args.links.now in
    let link = get_or links c.args.place blank in
    sym (none_here image c.args.chain 0 c.args.start (lent_links links) c.args.place c.in-Ok.below (lent_link link)
    (ap (climbed image 0 c.args.start) (take-map lent_link c.args.place links) ∙ sym c.in-Ok.ensures.value)
    (slice_get-map lent_link links c.args.place ∙ ap (option_map lent_link) (slice_get-get_or links c.args.place blank c.requires))
    (omega (arith, c.if-level.true, c.correction.ensures)))

pub returns : goal.returns
returns g c =
    let image = g.C.Compress.image in
    let links = c.args.links.now in
    let link = get_or links c.args.place blank in
    step_is image c.args.chain c.args.start (lent_links links) c.args.place c.in-Ok.below (lent_link link) _ _
    (ap (climbed image 0 c.args.start) (take-map lent_link c.args.place links) ∙ sym c.in-Ok.ensures.value)
    (slice_get-map lent_link links c.args.place ∙ ap (option_map lent_link) (slice_get-get_or links c.args.place blank c.requires))
    (omega (arith, c.correction.ensures)) (omega (arith, c.if-level.false)) c.join_beside.ensures
