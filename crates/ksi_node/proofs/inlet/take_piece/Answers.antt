use Rattle.std.proofs.Common.{◌++◌, take, subst}
use Rattle.std.specs.Io.BufRead.{FillKeeps}
use Rattle.ksi_node.specs.Inlet.{Holds}
use Rattle.ksi_node.proofs.Pieces.{piece_taken}
use Rattle.ksi_node.proofs.inlet.take_piece.Goals as goal

pub returns-clause-taken : goal.returns-clause-taken
returns-clause-taken g c =
    let shown = c.in-Ok.available.now in
    let cut = c.cut_of-cut in
    let rested = c.fill_buf.follows.lender-at-none in
    let filled = subst (FillKeeps _ (g.R.Read.remaining rested) (g.R.BufRead.consumable_len rested)) c.in-Ok.is c.fill_buf.follows.holds-at-none in (
      take cut.result.front shown,
      cut.ensures.free,
      piece_taken cut.result.piece _ _ _ _ shown cut.result.front cut.result.used cut.ensures.used cut.ensures.taken c.in-Ok.ensures.front c.in-Ok.ensures.end filled.0 filled.1 c.consume.ensures.bytes,
      λ so_far holds. subst (λ p. Holds (so_far ++ p) c.keep.new.line.items c.keep.new.is_long) c.split_at.ensures.front (c.in_ok-keep.ensures.held so_far holds),
    )
