use Rattle.std.proofs.Common.{◌≤◌, ◌∙◌, [], List, length, take, ap, sym, subst, arith}
use Rattle.ksi_disk.specs.Deeds.{Deed, IsImage, deeds_at, deeds_onto, image_by, pieces_length}
use Rattle.ksi_disk.specs.DeedLaws.{image_by_fate}
use Rattle.ksi_disk.proofs.DeedLemmas.{deeds_of_first, first_within, length-deeds_onto}
use Rattle.ksi_disk.proofs.mem_disk.MemDisk.image.Goals as goal

pub split_at-requires : goal.split_at-requires
split_at-requires c =
    let inside = c.self.inside in
    omega (arith, length-deeds_onto [] inside.marks.items inside.pieces.items, ap (λ d. length d.deeds) c.self.view_is, c.requires, ap length c.deref.ensures.value)

pub replayed-requires : goal.replayed-requires
replayed-requires c =
    let inside = c.self.inside in
    let first = c.split_at.ensures.front ∙ ap (λ marks. take c.args.moment marks) c.deref.ensures.value in
    omega (arith, ap pieces_length first, first_within inside.marks.items c.args.moment, c.self.invariant.0.whole, ap length c.deref-3.ensures.value)

pub returns-clause-value : goal.returns-clause-value
returns-clause-value c =
    let inside = c.self.inside in
    let marks = inside.marks.items in
    let pieces = inside.pieces.items in
    let first = c.split_at.ensures.front ∙ ap (λ ms. take c.args.moment ms) c.deref.ensures.value in
    let within : c.args.moment ≤ length marks = omega (arith, length-deeds_onto [] marks pieces, ap (λ d. length d.deeds) c.self.view_is, c.requires) in
    let is = c.from_vec.ensures ∙ c.in_ok-image.ensures ∙ (λ j. image_by c.args.fate (c.deref-2.ensures.value j) (deeds_onto [] (first j) (c.deref-3.ensures.value j))) ∙ ap (λ (deeds : List Deed). image_by c.args.fate inside.start.items deeds) (deeds_of_first c.args.moment marks pieces within) in
    is ∙ ap (λ d. image_by c.args.fate d.start (deeds_at c.args.moment d.deeds)) c.self.view_is

pub returns-clause-lawful : goal.returns-clause-lawful
returns-clause-lawful c =
    let self = c.args.self.now in
    subst (λ image. IsImage self.start (deeds_at c.args.moment self.deeds) image) (sym (returns-clause-value c)) (image_by_fate c.args.fate self.start (deeds_at c.args.moment self.deeds))
