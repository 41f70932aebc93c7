use Rattle.std.proofs.Common.{◌<◌, ◌+◌, ◌∙◌, [], ◌∷◌, List, length, take, drop, get_or, ap, sym, arith, false, length-drop}
use Rattle.std.proofs.lemmas.List.{drop-drop}
use Rattle.ksi_disk.specs.declared.marks.Mark.TheVariants.{Wrote}
use Rattle.ksi_disk.specs.Deeds.{Deed, content_after, deed_of, image_by, left_after, pieces_length, read_after}
use Rattle.ksi_disk.proofs.DeedLemmas.{first_more, first_pieces, first_within}
use Rattle.ksi_disk.proofs.replay.replayed.Goals as goal

pub replay_one-requires : goal.replay_one-requires
replay_one-requires c =
    let marks = c.args.marks.now in
    let i = c.replaying.mark-index in
    let pieces = c.args.pieces.now in
    let within : i < length marks = omega arith in
    omega (arith, first_pieces marks i (Wrote 0 0 false) within, first_within marks (i + 1), c.requires, ap length c.replaying.invariant.rest, length-drop (pieces_length (take i marks)) pieces)

pub replaying-preserved : goal.replaying-preserved
replaying-preserved c =
    let marks = c.args.marks.now in
    let i = c.replaying.mark-index in
    let pieces = c.args.pieces.now in
    let start = c.args.start.now in
    let within : i < length marks = omega arith in
    let mark = get_or marks i (Wrote 0 0 false) in
    let so_far = c.replaying.invariant in
    let more = first_more marks i (Wrote 0 0 false) pieces within in
    record {
      seen = c.in_ok-rest.ensures.content ∙ (λ j. read_after (so_far.seen j) (deed_of mark (so_far.rest j))) ∙ sym (ap (λ (deeds : List Deed). content_after start deeds) more);
      image = c.in_ok-rest.ensures.image ∙ (λ j. left_after c.args.fate (so_far.seen j) (so_far.image j) (deed_of mark (so_far.rest j))) ∙ sym (ap (λ (deeds : List Deed). image_by c.args.fate start deeds) more);
      rest = c.in_ok-rest.ensures.behind ∙ (λ j. drop (pieces_length (mark ∷ [])) (so_far.rest j)) ∙ drop-drop (pieces_length (mark ∷ [])) (pieces_length (take i marks)) pieces ∙ sym (ap (λ k. drop k pieces) (first_pieces marks i (Wrote 0 0 false) within));
    }
