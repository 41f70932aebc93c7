use Rattle.std.proofs.Common.{◌≡◌, [], take, drop}
use Rattle.ksi_disk.specs.Deeds.{content_after, deeds_onto, image_by, pieces_length}
use Rattle.ksi_disk.proofs.replay.replayed.Given as goal

-- the marks so far were replayed, and the pieces of the others are left
abbrev pub invariant-replaying : goal.invariant-replaying
invariant-replaying l =
    let deeds = deeds_onto [] (take l.mark-index l.marks) l.pieces in
    record {
      seen : l.content.items ≡ content_after l.start deeds;
      image : l.image.items ≡ image_by l.fate l.start deeds;
      rest : l.rest ≡ drop (pieces_length (take l.mark-index l.marks)) l.pieces;
    }
